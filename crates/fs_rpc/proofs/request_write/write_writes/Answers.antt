use Rattle.fs_json.proofs.Writings.{all_next, written_next}
use Rattle.fs_writejson.specs.Written.{write_json}
use Rattle.fs_rpc.specs.RequestSteps.{IsWriteHeld}
use Rattle.fs_rpc.proofs.request_write.write_writes.Goals as goal

pub loop-write-preserved : goal.loop-write-preserved
loop-write-preserved c =
    let xs = c.args.writes.now in
    let l = c.loop-write in
    let x = c.write-item.result in
    let j = c.in_ok-write_one.field-0 in
    rw c.in_ok-push.ensures.items (record {
      written = written_next write_json l.items.items j xs l.write-index x c.loop-write-test.true c.write-item.is l.invariant.written c.in_ok-write_one.ensures.value;
      held = all_next IsWriteHeld xs l.write-index x c.loop-write-test.true c.write-item.is l.invariant.held c.in_ok-write_one.ensures.held;
    })
