-- A client writes a batch, at a moment of its own clock.
use Rattle.std.specs.Prelude.{ℤ, List}
use Rattle.fs_write.specs.declared.write.Write.{Write}
use Rattle.fs_queue.specs.Queue.{pushed}
use Rattle.fs_local.specs.State.{Client}

abbrev pub wrote : List Write → ℤ → Client → Client
wrote ws moment c = record c { queue = pushed ws moment c.queue }
