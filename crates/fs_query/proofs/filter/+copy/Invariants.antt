use Rattle.std.proofs.Common.{◌≡◌, ◌*◌, ◌+◌, map, take}
use Rattle.fs_query.specs.Condition.{conditions_of, weight, conditions_weight}
use Rattle.fs_query.specs.View.{view}
use Rattle.fs_query.proofs.filter.+copy.Given as goal

abbrev pub decreases-Filter::copy : goal.decreases-Filter::copy
decreases-Filter::copy l = 2 * weight (view l.self.now)

abbrev pub decreases-Filters::copy : goal.decreases-Filters::copy
decreases-Filters::copy l = 2 * conditions_weight (conditions_of l.self.now)

abbrev pub decreases-Filters::push_copy : goal.decreases-Filters::push_copy
decreases-Filters::push_copy l = 2 * weight (view l.filter.now) + 1

-- the filters so far are copied
abbrev pub invariant-Filters::copy-loop-filter : goal.invariant-Filters::copy-loop-filter
invariant-Filters::copy-loop-filter l = l.all ≡ map view (take l.filter-index l.filter-items)
