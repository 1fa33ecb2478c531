use Rattle.fs_queue.proofs.Laying.{begun, written_at}
use Rattle.fs_queue.proofs.overlay.Overlay.add.Goals as goal

pub loop-write-init : goal.loop-write-init
loop-write-init g c = λ bs is. begun (g.S.Shelf.docs c.args.shelf.now) bs c.args.batch.now.moment c.args.self.now is

pub loop-write-preserved : goal.loop-write-preserved
loop-write-preserved g c = λ bs is.
    written_at (g.S.Shelf.docs c.args.shelf.now) bs c.args.batch.now.moment c.args.batch.now.writes c.as_slice-write-items.result.now c.loop-write.write-index
    c.write-item.result c.loop-write.self c.write.new.self c.as_slice-write-items.ensures c.loop-write-test.true c.write-item.is c.in_ok-write.ensures (c.loop-write.invariant bs is)
