use Rattle.std.proofs.Common.{◌++◌, map, take}
use Rattle.fs_queue.specs.Overlay.{IsOverlay}
use Rattle.fs_queue.proofs.Laying.{batches_of}
use Rattle.fs_queue.proofs.queue.Queue.lay.Given as goal

-- those that are acknowledged, so far
abbrev pub invariant-loop-a : goal.invariant-loop-a
invariant-loop-a g l = IsOverlay (g.S.Shelf.docs l.shelf) (batches_of (take l.a-index l.a-items)) l.overlay

-- and those that aren't answered, so far
abbrev pub invariant-loop-batch : goal.invariant-loop-batch
invariant-loop-batch g l = IsOverlay (g.S.Shelf.docs l.shelf) (batches_of l.self.acknowledged ++ map (λ b. b.now) l.yielded) l.overlay
