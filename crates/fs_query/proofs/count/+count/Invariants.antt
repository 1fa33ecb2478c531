use Rattle.std.proofs.Common.{◌≡◌, ◌+◌, ◌*◌, ◌≤◌, map, drop, length}
use Rattle.std.specs.Prelude.{min}
use Rattle.fs_query.specs.Condition.{conditions_of}
use Rattle.fs_query.specs.Normal.{alternatives, conjunctions_of_all, conjunctions_of_any}
use Rattle.fs_query.specs.View.{view}
use Rattle.fs_query.proofs.count.+count.Given as goal

-- times those of the filters from here on they are all
abbrev pub invariant-product_count-loop-filter : goal.invariant-product_count-loop-filter
invariant-product_count-loop-filter l =
    record {
      cut : l.count ≤ 1000;
      whole :
          min (l.count * length (conjunctions_of_all alternatives (conditions_of (map view (drop l.filter-index l.filter-items))))) 1000
          ≡ min (length (conjunctions_of_all alternatives (conditions_of (map view l.filter-items)))) 1000;
    }

-- with those of the filters from here on they are all
abbrev pub invariant-sum_count-loop-filter : goal.invariant-sum_count-loop-filter
invariant-sum_count-loop-filter l =
    record {
      cut : l.count ≤ 1000;
      whole :
          min (l.count + length (conjunctions_of_any alternatives (conditions_of (map view (drop l.filter-index l.filter-items))))) 1000
          ≡ min (length (conjunctions_of_any alternatives (conditions_of (map view l.filter-items)))) 1000;
    }
