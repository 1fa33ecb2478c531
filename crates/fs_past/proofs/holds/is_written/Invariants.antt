use Rattle.std.proofs.Common.{◌≡◌, drop}
use Rattle.fs_write.specs.WrittenName.{is_written}
use Rattle.fs_past.proofs.holds.is_written.Given as goal

-- the writes so far write another name
abbrev pub invariant-loop-write : goal.invariant-loop-write
invariant-loop-write l = is_written l.name l.writes ≡ is_written l.name (drop l.write-index l.writes)
