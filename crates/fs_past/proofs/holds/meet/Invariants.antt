use Rattle.std.proofs.Common.{◌≡◌, drop}
use Rattle.fs_machine.specs.Behind.{write_same}
use Rattle.fs_past.proofs.holds.meet.Given as goal

-- the writes so far write none of their names
abbrev pub invariant-loop-write : goal.invariant-loop-write
invariant-loop-write l = write_same l.writes l.others ≡ write_same (drop l.write-index l.writes) l.others
