use Rattle.std.proofs.Common.{◌≡◌, map, drop}
use Rattle.std.specs.Option.{option_copied}
use Rattle.fs_query.specs.Condition.{conditions_of}
use Rattle.fs_query.specs.Joining.{least_of}
use Rattle.fs_query.specs.Normal.{inequality_paths_of}
use Rattle.fs_query.specs.View.{view}
use Rattle.fs_query.proofs.whole_order.+joining.Given as goal

-- the rest decides from the least so far on
abbrev pub invariant-least_of_all-loop-filter : goal.invariant-least_of_all-loop-filter
invariant-least_of_all-loop-filter l =
    least_of l.given (option_copied l.after) (option_copied l.best) (inequality_paths_of (conditions_of (map view l.filter-items)))
    ≡ least_of l.given (option_copied l.after) (option_copied l.least) (inequality_paths_of (conditions_of (map view (drop l.filter-index l.filter-items))))
