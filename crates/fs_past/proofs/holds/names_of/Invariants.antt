use Rattle.std.proofs.Common.{◌≡◌, map, take}
use Rattle.fs_write.specs.WrittenName.{written_name}
use Rattle.fs_past.proofs.holds.names_of.Given as goal

-- those of the writes so far
abbrev pub invariant-loop-write : goal.invariant-loop-write
invariant-loop-write l = l.names ≡ map written_name (take l.write-index l.writes)
