use Rattle.std.proofs.Common.{◌≡◌, ◌++◌, map, take}
use Rattle.fs_query.specs.View.{view}
use Rattle.fs_query.proofs.disjuncts.followed.Given as goal

-- the filters so far stand behind the front
abbrev pub invariant-loop-filter : goal.invariant-loop-filter
invariant-loop-filter l = l.all ≡ l.initial.all ++ map view (take l.filter-index l.filter-items)
