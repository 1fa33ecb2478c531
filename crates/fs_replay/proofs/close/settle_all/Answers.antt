use Rattle.std.proofs.Common.{sym, ◌∙◌}
use Rattle.fs_replay.specs.Settling.{settling}
use Rattle.fs_replay.proofs.Playing.{last_turn, next_turn}
use Rattle.fs_replay.proofs.close.settle_all.Goals as goal

pub turns-preserved : goal.turns-preserved
turns-preserved c =
    let turn = c.in_ok-take_turn.ensures in
    next_turn (settling c.args.state.now) c.args.out.now.items c.turns.out.items c.take_turn.new.out.items c.turns.state c.take_turn.new.state c.turns.invariant turn.plays (sym turn.done ∙ c.if-branch.true)

pub returns : goal.returns
returns c =
    let turn = c.in_ok-take_turn.ensures in
    last_turn (settling c.args.state.now) c.args.out.now.items c.turns.out.items c.take_turn.new.out.items c.turns.state c.take_turn.new.state c.turns.invariant turn.plays (sym turn.done ∙ c.if-branch.false)
