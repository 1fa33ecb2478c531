use Rattle.std.proofs.Common.{List, take}
use Rattle.fs_queue.specs.Overlay.{IsOverlay}
use Rattle.fs_queue.specs.declared.batch.LocalBatch.{LocalBatch}
use Rattle.fs_queue.proofs.Laying.{with_batch}
use Rattle.fs_queue.proofs.overlay.Overlay.add.Given as goal

-- the writes so far are laid
abbrev pub invariant-loop-write : goal.invariant-loop-write
invariant-loop-write g l =
    let docs = g.S.Shelf.docs l.shelf in
    (bs : List LocalBatch) → IsOverlay docs bs l.fn.self → IsOverlay docs (with_batch bs l.batch.moment (take l.write-index l.batch.writes)) l.self
