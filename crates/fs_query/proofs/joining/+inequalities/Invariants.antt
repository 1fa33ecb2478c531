use Rattle.std.proofs.Common.{◌≡◌, ◌++◌, map, take}
use Rattle.fs_query.specs.Condition.{conditions_of}
use Rattle.fs_path.specs.FieldOrder.{paths_at}
use Rattle.fs_query.specs.Normal.{inequality_paths_of}
use Rattle.fs_query.specs.View.{view}
use Rattle.fs_query.proofs.joining.+inequalities.Given as goal

-- the paths of the filters so far are added
abbrev pub invariant-push_all_inequalities-loop-filter : goal.invariant-push_all_inequalities-loop-filter
invariant-push_all_inequalities-loop-filter l =
    paths_at l.paths.items ≡ paths_at l.initial.paths.items ++ inequality_paths_of (conditions_of (map view (take l.filter-index l.filter-items)))
