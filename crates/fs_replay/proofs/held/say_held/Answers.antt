use Rattle.std.proofs.Common.{◌<◌, length, arith}
use Rattle.fs_replay.proofs.Playing.{found_at, held_next}
use Rattle.fs_replay.proofs.held.say_held.Goals as goal

pub loop-place-preserved : goal.loop-place-preserved
loop-place-preserved c =
    let s = c.args.state.now in
    let rs = s.server.parked in
    let test = c.loop-place-test.true in
    let end = c.parked-place-end.ensures in
    let within : c.loop-place.place < length rs = omega (arith, test, end) in
    let at = found_at rs c.loop-place.place within in
    held_next s.directory s.server rs c.loop-place.place at.0 c.loop-place.out.items c.say_one.new.out.items _ within at.2 (c.in_ok-say_one.ensures at.0 at.1) c.loop-place.invariant
