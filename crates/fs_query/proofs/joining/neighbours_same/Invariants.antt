use Rattle.std.proofs.Common.{◌≡◌, ◌-◌, drop}
use Rattle.fs_path.specs.FieldOrder.{paths_at}
use Rattle.fs_query.specs.SortedPaths.{neighbours_same}
use Rattle.fs_query.proofs.joining.neighbours_same.Given as goal

-- no path so far is the one before it, so the rest decides
abbrev pub invariant-loop-i : goal.invariant-loop-i
invariant-loop-i l = neighbours_same (paths_at l.paths) ≡ neighbours_same (paths_at (drop (l.i - 1) l.paths))
