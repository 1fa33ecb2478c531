-- What a filter asks of a document, whatever memory it stands in. Contracts speak of a filter's `Condition`. So
-- `a > 1 AND (b == 2 OR c IS NULL)` is
-- `all_of [compared a Greater 1, any_of [compared b Equal 2, is_null c]]`, its lists made of `one_more` and `no_more`.
-- (v1 reference, "StructuredQuery.Filter".)
use Rattle.std.specs.Prelude.{ℕ, suc, ◌+◌, List, [], ◌∷◌}
use Rattle.fs_path.specs.declared.field.FieldPath.{FieldPath}
use Rattle.fs_value.specs.Data.{Data}
use Rattle.fs_query.specs.declared.op.Op.{Op}

mutual
  pub data Condition : Type 0 where
    anything : Condition
    compared : FieldPath → Op → Data → Condition
    is_null : FieldPath → Condition
    is_not_null : FieldPath → Condition
    all_of : Conditions → Condition
    any_of : Conditions → Condition

  pub data Conditions : Type 0 where
    no_more : Conditions
    one_more : Condition → Conditions → Conditions

-- ---- conditions as lists, and back

abbrev pub conditions_of : List Condition → Conditions
conditions_of [] = no_more
conditions_of (c ∷ cs) = one_more c (conditions_of cs)

abbrev pub condition_list : Conditions → List Condition
condition_list no_more = []
condition_list (one_more c cs) = c ∷ condition_list cs

-- ---- the measure of recursions over filters

-- each condition and the end of each list count 1
abbrev mutual
  pub weight : Condition → ℕ
  weight anything = 1
  weight (compared p op v) = 1
  weight (is_null p) = 1
  weight (is_not_null p) = 1
  weight (all_of cs) = suc (conditions_weight cs)
  weight (any_of cs) = suc (conditions_weight cs)

  pub conditions_weight : Conditions → ℕ
  conditions_weight no_more = 1
  conditions_weight (one_more c cs) = weight c + conditions_weight cs
