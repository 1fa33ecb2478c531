-- The rules of queries that are about filters, by their numbers (`Rules` has the list).
use Rattle.std.specs.Prelude.{ℕ, ◌+◌, Bool, true, false, not, ◌&&◌, ◌||◌, List, [], ◌∷◌, Option, Some, None, length, if◌then◌else◌, ◌==◌, nat_lt, count_by}
use Rattle.std.specs.List.{list_any, list_all}
use Rattle.std.specs.Option.{is_some}
use Rattle.fs_path.specs.FieldName.{is_bad_name}
use Rattle.fs_path.specs.declared.field.FieldPath.{FieldPath}
use Rattle.fs_value.specs.Data.{Data, reference}
use Rattle.fs_query.specs.Asked.{Asked}
use Rattle.fs_query.specs.Condition.{Condition, compared, is_null, is_not_null, all_of, any_of, no_more}
use Rattle.fs_value.specs.Elements.{elements}
use Rattle.fs_query.specs.Field.{is_name}
use Rattle.fs_query.specs.Limits.{max_not_in, max_disjuncts}
use Rattle.fs_query.specs.Normal.{equalities, conjunctions, disjuncts}
use Rattle.fs_query.specs.declared.op.Op.{Op}
use Rattle.fs_query.specs.declared.op.Op.TheVariants.{ArrayContains, In, ArrayContainsAny, NotIn}
use Rattle.fs_query.specs.FilterParts.{parts, has_part, is_by, is_in_op, is_not_in_op, is_not_equal_op, is_contains_op, is_contains_any_op, is_list_op}

-- ---- references, which alone `__name__` is compared with

abbrev pub is_reference : Data → Bool
is_reference (reference n) = true
is_reference d = false

-- ---- 2

abbrev pub is_bad_path : FieldPath → Bool
is_bad_path p = not (is_name p) && list_any is_bad_name p.parts

abbrev pub has_bad_path_itself : Condition → Bool
has_bad_path_itself (compared p op v) = is_bad_path p
has_bad_path_itself (is_null p) = is_bad_path p
has_bad_path_itself (is_not_null p) = is_bad_path p
has_bad_path_itself c = false

-- ---- 3

abbrev pub has_bad_list_itself : Condition → Bool
has_bad_list_itself (compared p op w) = is_list_op op && length (elements w) == 0
has_bad_list_itself c = false

abbrev pub has_bad_list : Asked → Bool
has_bad_list q = has_part has_bad_list_itself q.filter

-- ---- 4

-- the number of its values, if it is a NOT_IN with too many
abbrev pub long_not_in_itself : Condition → Option ℕ
long_not_in_itself (compared p NotIn w) = if nat_lt max_not_in (length (elements w)) then Some (length (elements w)) else None
long_not_in_itself c = None

abbrev pub first_some : List Condition → Option ℕ
first_some [] = None
first_some (c ∷ cs) = if is_some (long_not_in_itself c) then long_not_in_itself c else first_some cs

-- that of the first in the order of the text
abbrev pub long_not_in : Asked → Option ℕ
long_not_in q = first_some (parts q.filter)

-- ---- 5

abbrev pub disjunct_count : Asked → ℕ
disjunct_count q = length (disjuncts q.filter)

abbrev pub has_many_disjuncts : Asked → Bool
has_many_disjuncts q = nat_lt max_disjuncts (disjunct_count q)

-- ---- 6 and 7: conjunctions, before ARRAY_CONTAINS_ANY is split

abbrev pub contains_count : List Condition → ℕ
contains_count cs = count_by (is_by is_contains_op) cs

abbrev pub contains_any_count : List Condition → ℕ
contains_any_count cs = count_by (is_by is_contains_any_op) cs

abbrev pub has_two_contains : Asked → Bool
has_two_contains q = list_any (λ cs. nat_lt 1 (contains_count cs)) (conjunctions equalities q.filter)

abbrev pub has_contains_any_beside : Asked → Bool
has_contains_any_beside q =
    list_any (λ cs. nat_lt 0 (contains_any_count cs) && nat_lt 1 (contains_any_count cs + contains_count cs)) (conjunctions equalities q.filter)

-- ---- 8 and 9

abbrev pub has_not_in : Asked → Bool
has_not_in q = has_part (is_by is_not_in_op) q.filter

-- OR, IN, ARRAY_CONTAINS_ANY and NOT_EQUAL, whatever the operand of NOT_EQUAL is
abbrev pub is_kept_from_not_in : Condition → Bool
is_kept_from_not_in (any_of cs) = true
is_kept_from_not_in (compared p op v) = is_in_op op || (is_contains_any_op op || is_not_equal_op op)
is_kept_from_not_in c = false

abbrev pub has_not_in_beside_other : Asked → Bool
has_not_in_beside_other q = has_not_in q && has_part is_kept_from_not_in q.filter

abbrev pub is_is_not_null : Condition → Bool
is_is_not_null (is_not_null p) = true
is_is_not_null c = false

abbrev pub has_not_in_beside_its_like : Asked → Bool
has_not_in_beside_its_like q = has_not_in q && (has_part is_is_not_null q.filter || nat_lt 1 (count_by (is_by is_not_in_op) (parts q.filter)))

-- ---- 10

-- an operand for `__name__`
abbrev pub is_name_operand : Op → Data → Bool
is_name_operand ArrayContains w = false
is_name_operand ArrayContainsAny w = false
is_name_operand In w = list_all is_reference (elements w)
is_name_operand NotIn w = list_all is_reference (elements w)
is_name_operand op w = is_reference w

abbrev pub misuses_name : Condition → Bool
misuses_name (compared p op w) = is_name p && not (is_name_operand op w)
misuses_name (is_null p) = is_name p
misuses_name (is_not_null p) = is_name p
misuses_name c = false

abbrev pub has_misused_name : Asked → Bool
has_misused_name q = has_part misuses_name q.filter

-- ---- 14

abbrev pub is_without_filters : Condition → Bool
is_without_filters (all_of no_more) = true
is_without_filters (any_of no_more) = true
is_without_filters c = false

abbrev pub has_empty_composite : Asked → Bool
has_empty_composite q = has_part is_without_filters q.filter
