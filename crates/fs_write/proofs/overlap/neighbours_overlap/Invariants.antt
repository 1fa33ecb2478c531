use Rattle.std.proofs.Common.{◌≡◌, ◌-◌, drop}
use Rattle.fs_path.specs.FieldOrder.{paths_at}
use Rattle.fs_write.specs.Neighbours.{neighbours_overlap}
use Rattle.fs_write.proofs.overlap.neighbours_overlap.Given as goal

-- no path so far overlaps the next, so the rest decides
abbrev pub invariant-loop-i : goal.invariant-loop-i
invariant-loop-i l = neighbours_overlap (paths_at l.paths) ≡ neighbours_overlap (paths_at (drop (l.i - 1) l.paths))
