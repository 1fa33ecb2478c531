use Rattle.std.proofs.Common.{take}
use Rattle.fs_locks.specs.Holds.{IsLeastOther}
use Rattle.fs_past.specs.Kept.{HoldsWritten}
use Rattle.fs_past.proofs.holds.first_holder.Given as goal

-- the least of those that hold a name of the writes so far
abbrev pub invariant-loop-write : goal.invariant-loop-write
invariant-loop-write l = IsLeastOther (HoldsWritten l.locks.exclusive (take l.write-index l.writes)) l.by l.first
