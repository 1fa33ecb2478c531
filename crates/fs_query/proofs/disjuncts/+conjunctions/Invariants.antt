use Rattle.std.proofs.Common.{◌≡◌, map, take}
use Rattle.fs_query.specs.Condition.{conditions_of}
use Rattle.fs_query.specs.Normal.{alternatives, conjunctions_of_all, conjunctions_of_any}
use Rattle.fs_query.specs.View.{view}
use Rattle.fs_query.proofs.disjuncts.+conjunctions.Given as goal

-- those of the filters so far
abbrev pub invariant-conjunctions_of_all-loop-filter : goal.invariant-conjunctions_of_all-loop-filter
invariant-conjunctions_of_all-loop-filter l =
    l.all.items ≡ conjunctions_of_all alternatives (conditions_of (map view (take l.filter-index l.filter-items)))

-- those of the filters so far
abbrev pub invariant-conjunctions_of_any-loop-filter : goal.invariant-conjunctions_of_any-loop-filter
invariant-conjunctions_of_any-loop-filter l =
    l.all.items ≡ conjunctions_of_any alternatives (conditions_of (map view (take l.filter-index l.filter-items)))
