use Rattle.std.proofs.Common.{◌≡◌, map}
use Rattle.fs_query.specs.Normal.{conjunction}
use Rattle.fs_query.specs.View.{view}
use Rattle.fs_query.proofs.disjuncts.disjuncts.Given as goal

-- an AND of each so far
abbrev pub invariant-loop-filters : goal.invariant-loop-filters
invariant-loop-filters l = map view l.items.items ≡ map conjunction l.yielded
