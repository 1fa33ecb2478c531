use Rattle.fs_json.specs.Paths.{IsPathHeld, path_json}
use Rattle.fs_json.proofs.Writings.{all_next, written_next}
use Rattle.fs_writejson.proofs.mask.write_paths.Goals as goal

pub loop-path-preserved : goal.loop-path-preserved
loop-path-preserved c =
    let xs = c.args.paths.now in
    let l = c.loop-path in
    let x = c.path-item.result in
    let one = c.in_ok-write_field_path.ensures in
    rw c.in_ok-push.ensures.items (record {
      written = written_next path_json l.items.items c.in_ok-write_field_path.field-0 xs l.path-index x c.loop-path-test.true c.path-item.is l.invariant.written one.value;
      held = all_next IsPathHeld xs l.path-index x c.loop-path-test.true c.path-item.is l.invariant.held one.held;
    })
