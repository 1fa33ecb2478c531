-- A filter weighs less than its list.
use Rattle.std.proofs.Common.{ℕ, zero, suc, ◌<◌, List, [], ◌∷◌, map, length, get_or, arith}
use Rattle.fs_query.specs.Condition.{Condition, anything, compared, is_null, is_not_null, all_of, any_of, weight, conditions_weight, conditions_of}
use Rattle.fs_query.specs.View.{view}
use Rattle.fs_query.specs.declared.filter.Filter.{Filter}

weight_some : (c : Condition) → 0 < weight c
weight_some anything = omega arith
weight_some (compared p op v) = omega arith
weight_some (is_null p) = omega arith
weight_some (is_not_null p) = omega arith
weight_some (all_of cs) = omega arith
weight_some (any_of cs) = omega arith

conditions_weight_some : (cs : List Condition) → 0 < conditions_weight (conditions_of cs)
conditions_weight_some [] = omega arith
conditions_weight_some (c ∷ cs) = omega (arith, weight_some c)

pub filter_lighter : (fs : List Filter) (k : ℕ) (f : Filter) → k < length fs → weight (view (get_or fs k f)) < conditions_weight (conditions_of (map view fs))
filter_lighter [] k f h = absurd (omega arith)
filter_lighter (g ∷ fs) zero f h = omega (arith, conditions_weight_some (map view fs))
filter_lighter (g ∷ fs) (suc k) f h = omega (arith, filter_lighter fs k f (omega arith))
