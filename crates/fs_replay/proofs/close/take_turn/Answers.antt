use Rattle.std.proofs.Common.{◌≡◌, ap, ◌∙◌}
use Rattle.fs_replay.specs.Settling.{tries_all, turn}
use Rattle.fs_replay.specs.declared.state.State.{State}
use Rattle.fs_replay.proofs.Playing.{did_settle, did_try}
use Rattle.fs_replay.proofs.close.take_turn.Goals as goal

pub returns-then-settled-clause-done : goal.returns-then-settled-clause-done
returns-then-settled-clause-done c =
    let t = c.try_all.new.state in
    let is : t ≡ (turn c.args.state.now).state = c.in_ok-try_all.ensures.state ∙ ap (λ (x : State). (tries_all x).state) c.in_ok-settled.ensures.plays.state in
    did_settle c.args.state.now t c.in_ok-settled.settled is c.in_ok-settled.ensures.some c.if-settled.true

pub returns-else-settled-clause-done : goal.returns-else-settled-clause-done
returns-else-settled-clause-done c =
    let t = c.try_all.new.state in
    let is : t ≡ (turn c.args.state.now).state = c.in_ok-try_all.ensures.state ∙ ap (λ (x : State). (tries_all x).state) c.in_ok-settled.ensures.plays.state in
    did_try c.args.state.now t c.in_ok-settled.settled c.parked.result c.parked-waited.result is c.in_ok-settled.ensures.some c.if-settled.false c.parked.ensures c.parked-waited.ensures
