use Rattle.std.proofs.Common.{◌≡◌, drop}
use Rattle.fs_write.specs.Rules.{some_overlap}
use Rattle.fs_write.proofs.overlap.some_overlap.Given as goal

-- no path so far overlaps a later one, so the rest decides
abbrev pub invariant-loop-i : goal.invariant-loop-i
invariant-loop-i l = some_overlap l.paths ≡ some_overlap (drop l.i l.paths)
