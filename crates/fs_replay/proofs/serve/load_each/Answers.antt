use Rattle.std.proofs.Common.{◌<◌, [], arith, get_or, length, ap, ◌∙◌, subst}
use Rattle.fs_replay.specs.Played.{Plays}
use Rattle.fs_replay.specs.Settling.{loads_each, loads_of}
use Rattle.fs_replay.specs.declared.directory.Named.{Named}
use Rattle.fs_replay.specs.declared.state.State.{State}
use Rattle.fs_replay.proofs.Serving.{loads_stay, next_loads}
use Rattle.fs_replay.proofs.serve.load_each.Goals as goal

pub loop-place-preserved : goal.loop-place-preserved
loop-place-preserved c =
    let s = c.loop-place.state in
    let t = c.load_at.new.state in
    let ns = c.args.state.now.directory in
    let place = c.loop-place.place in
    let now = c.loop-place.out.items in
    let next = c.load_at.new.out.items in
    let same = c.loop-place.invariant.same in
    let within : place < length ns = omega (arith, c.loop-place-test.true, c.len-place-end.ensures) in
    let plays : (n : Named) → Plays (loads_of (get_or ns place n) s) t now next = λ n. subst (λ ms. Plays (loads_of (get_or ms place n) s) t now next) same (c.in_ok-load_at.ensures n) in
    let none : Named = record { name = []; number = 0 } in
    record {
      goes = next_loads (loads_each ns c.args.state.now) c.args.out.now.items now next ns place s t within c.loop-place.invariant.goes plays;
      same = ap (λ (x : State). x.directory) (plays none).state ∙ loads_stay (get_or ns place none) s ∙ same;
    }
