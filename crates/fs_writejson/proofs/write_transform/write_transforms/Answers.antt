use Rattle.fs_writejson.specs.Held.{IsTransformHeld}
use Rattle.fs_writejson.specs.Transform.{transform_json}
use Rattle.fs_json.proofs.Writings.{all_next, written_next}
use Rattle.fs_writejson.proofs.write_transform.write_transforms.Goals as goal

pub loop-transform-preserved : goal.loop-transform-preserved
loop-transform-preserved c =
    let xs = c.args.transforms.now in
    let l = c.loop-transform in
    let x = c.transform-item.result in
    let one = c.in_ok-write_transform.ensures in
    rw c.in_ok-push.ensures.items (record {
      written = written_next transform_json l.items.items c.in_ok-write_transform.field-0 xs l.transform-index x c.loop-transform-test.true c.transform-item.is l.invariant.written one.value;
      held = all_next IsTransformHeld xs l.transform-index x c.loop-transform-test.true c.transform-item.is l.invariant.held one.held;
    })
