use Rattle.std.proofs.Common.{◌≡◌, take}
use Rattle.std.specs.List.{filter}
use Rattle.fs_path.specs.FieldOrder.{paths_at}
use Rattle.fs_query.specs.SortedPaths.{joins_given}
use Rattle.fs_query.proofs.joining.not_given.Given as goal

-- those of the paths so far
abbrev pub invariant-loop-path : goal.invariant-loop-path
invariant-loop-path l =
    paths_at l.joining.items ≡ filter (joins_given (paths_at l.given)) (paths_at (take l.path-index l.paths))
