use Rattle.std.proofs.Common.{◌≡◌, ℕ, ℤ, List, ap, ◌∙◌, subst}
use Rattle.std.proofs.lemmas.Result.{on_ok_weaker}
use Rattle.fs_machine.specs.Tick.{later, ticked}
use Rattle.fs_replay.specs.Played.{Plays}
use Rattle.fs_replay.specs.Settling.{closed}
use Rattle.fs_replay.specs.Step.{clocks}
use Rattle.fs_replay.specs.declared.state.State.{State}
use Rattle.fs_replay.proofs.Kept.{ticked_by}
use Rattle.fs_replay.proofs.step.clock.Goals as goal

-- the tick, and what closes it
ticked_first : (s t : State) (time : ℤ) (before after : List ℕ) → Plays (closed (ticked_by s (later s.moment time))) t before after → Plays (clocks s time) t before after
ticked_first s t time before after plays = record { state = plays.state; output = plays.output }

pub returns : goal.returns
returns c =
    let s = c.args.state.now in
    let server : c.tick.new.self ≡ ticked s.server (later s.moment c.args.time) = c.in_ok-tick.ensures.ok ∙ ap (ticked s.server) c.later-now.ensures in
    let after : record s { server = c.tick.new.self; moment = c.later-now.result } ≡ ticked_by s (later s.moment c.args.time) = λ i. record s { server = server i; moment = c.later-now.ensures i } in
    on_ok_weaker c.close.result
    (λ plays. ticked_first s c.close.new.state c.args.time c.args.out.now.items c.close.new.out.items
    (subst (λ (t : State). Plays (closed t) c.close.new.state c.args.out.now.items c.close.new.out.items) after plays))
    c.close.ensures
