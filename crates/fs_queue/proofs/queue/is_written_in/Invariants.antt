use Rattle.std.proofs.Common.{◌≡◌, drop}
use Rattle.fs_write.specs.WrittenName.{is_written}
use Rattle.fs_queue.proofs.queue.is_written_in.Given as goal

-- none so far names the document, so the rest decides
abbrev pub invariant-loop-write : goal.invariant-loop-write
invariant-loop-write l = is_written l.name (drop l.write-index l.writes) ≡ is_written l.name l.writes
