-- The parts of a filter: it itself, and those of the filters that it joins, in the order of the text.
use Rattle.std.specs.Prelude.{Bool, true, false, ◌||◌, List, [], ◌∷◌, ◌++◌}
use Rattle.std.specs.List.{list_any}
use Rattle.fs_query.specs.Condition.{Condition, compared, all_of, any_of, Conditions, no_more, one_more}
use Rattle.fs_query.specs.declared.op.Op.{Op}
use Rattle.fs_query.specs.declared.op.Op.TheVariants.{NotEqual, ArrayContains, In, ArrayContainsAny, NotIn}

abbrev mutual
  pub parts : Condition → List Condition
  parts (all_of cs) = all_of cs ∷ parts_of cs
  parts (any_of cs) = any_of cs ∷ parts_of cs
  parts c = c ∷ []

  pub parts_of : Conditions → List Condition
  parts_of no_more = []
  parts_of (one_more c cs) = parts c ++ parts_of cs

-- some part of a filter is like this
abbrev pub has_part : (Condition → Bool) → Condition → Bool
has_part test c = list_any test (parts c)

abbrev pub is_by : (Op → Bool) → Condition → Bool
is_by test (compared p op v) = test op
is_by test c = false

abbrev pub is_in_op : Op → Bool
is_in_op In = true
is_in_op op = false

abbrev pub is_not_in_op : Op → Bool
is_not_in_op NotIn = true
is_not_in_op op = false

abbrev pub is_not_equal_op : Op → Bool
is_not_equal_op NotEqual = true
is_not_equal_op op = false

abbrev pub is_contains_op : Op → Bool
is_contains_op ArrayContains = true
is_contains_op op = false

abbrev pub is_contains_any_op : Op → Bool
is_contains_any_op ArrayContainsAny = true
is_contains_any_op op = false

-- operators whose operand is a list
abbrev pub is_list_op : Op → Bool
is_list_op op = is_in_op op || (is_not_in_op op || is_contains_any_op op)
