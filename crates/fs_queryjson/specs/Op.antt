-- The names of the operators in JSON, which are read by their names alone. (v1 reference, "StructuredQuery.FieldFilter",
-- "UnaryFilter" and "CompositeFilter": `op`.)
use Rattle.std.specs.Prelude.{ℕ, Bool, true, false, List, Option, Some, None, Result, option_and_then, codes, if◌then◌else◌}
use Rattle.std.specs.Str.{bytes_eq}
use Rattle.fs_path.specs.declared.place.Rule.TheVariants.{G}
use Rattle.serde_json.specs.Data.{Data}
use Rattle.serde_json.specs.Find.{as_str}
use Rattle.fs_json.specs.Answer.{or_fault}
use Rattle.fs_json.specs.declared.bad.Bad.{Bad}
use Rattle.fs_query.specs.declared.op.Op.{Op}
use Rattle.fs_query.specs.declared.op.Op.TheVariants.{Less, LessEqual, Greater, GreaterEqual, Equal, NotEqual, ArrayContains, In, ArrayContainsAny, NotIn}

-- ---- of a field filter

abbrev pub op_of : List ℕ → Option Op
op_of name =
    if bytes_eq name (codes "LESS_THAN") then Some Less
    else if bytes_eq name (codes "LESS_THAN_OR_EQUAL") then Some LessEqual
    else if bytes_eq name (codes "GREATER_THAN") then Some Greater
    else if bytes_eq name (codes "GREATER_THAN_OR_EQUAL") then Some GreaterEqual
    else if bytes_eq name (codes "EQUAL") then Some Equal
    else if bytes_eq name (codes "NOT_EQUAL") then Some NotEqual
    else if bytes_eq name (codes "ARRAY_CONTAINS") then Some ArrayContains
    else if bytes_eq name (codes "IN") then Some In
    else if bytes_eq name (codes "ARRAY_CONTAINS_ANY") then Some ArrayContainsAny
    else if bytes_eq name (codes "NOT_IN") then Some NotIn
    else None

abbrev pub op_name : Op → List ℕ
op_name Less = codes "LESS_THAN"
op_name LessEqual = codes "LESS_THAN_OR_EQUAL"
op_name Greater = codes "GREATER_THAN"
op_name GreaterEqual = codes "GREATER_THAN_OR_EQUAL"
op_name Equal = codes "EQUAL"
op_name NotEqual = codes "NOT_EQUAL"
op_name ArrayContains = codes "ARRAY_CONTAINS"
op_name In = codes "IN"
op_name ArrayContainsAny = codes "ARRAY_CONTAINS_ANY"
op_name NotIn = codes "NOT_IN"

-- a string that is one of the names that this gives a meaning
abbrev pub named_at : {A : Type 0} → (List ℕ → Option A) → Data → List ℕ → Result A Bad
named_at meaning d place = or_fault G place (option_and_then meaning (as_str d))

abbrev pub op_at : Data → List ℕ → Result Op Bad
op_at d place = named_at op_of d place

-- ---- of a unary filter: whether it asks for null

abbrev pub is_null_of : List ℕ → Option Bool
is_null_of name = if bytes_eq name (codes "IS_NULL") then Some true else if bytes_eq name (codes "IS_NOT_NULL") then Some false else None

abbrev pub null_name : Bool → List ℕ
null_name null = if null then codes "IS_NULL" else codes "IS_NOT_NULL"

abbrev pub is_null_at : Data → List ℕ → Result Bool Bad
is_null_at d place = named_at is_null_of d place

-- ---- of a composite filter: whether all that it joins have to hold

abbrev pub is_and_of : List ℕ → Option Bool
is_and_of name = if bytes_eq name (codes "AND") then Some true else if bytes_eq name (codes "OR") then Some false else None

abbrev pub join_name : Bool → List ℕ
join_name all = if all then codes "AND" else codes "OR"

abbrev pub is_and_at : Data → List ℕ → Result Bool Bad
is_and_at d place = named_at is_and_of d place
