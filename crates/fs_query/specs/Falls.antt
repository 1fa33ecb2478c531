-- Only the model of `Filters` cites this: each filter in a list weighs less than the list.
use Rattle.std.specs.Prelude.{◌≤◌, List, [], ◌∷◌, map}
use Rattle.std.proofs.Common.{arith}
use denote.Param.Weighed.{most}
use Rattle.fs_query.specs.Condition.{weight, conditions_weight, conditions_of}
use Rattle.fs_query.specs.View.{view}
use Rattle.fs_query.specs.declared.filter.Filter.TheVariants.{All, Field, IsNull, IsNotNull, And, Or}
use Rattle.fs_query.specs.declared.filter.Filter.{Filter}
use Rattle.fs_query.specs.declared.filter.Filters.TheDeep.{deep-Filter}

filter_falls : (f : Filter) → deep-Filter f ≤ weight (view f)
filter_falls All = omega arith
filter_falls (Field p op v) = omega arith
filter_falls (IsNull p) = omega arith
filter_falls (IsNotNull p) = omega arith
filter_falls (And fs) = omega arith
filter_falls (Or fs) = omega arith

pub filters_fall : (fs : List Filter) → most deep-Filter fs ≤ conditions_weight (conditions_of (map view fs))
filters_fall [] = omega arith
filters_fall (f ∷ fs) = omega (arith, filter_falls f, filters_fall fs)
