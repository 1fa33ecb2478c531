use Rattle.std.proofs.Common.{None, get_or, sym, ap, ◌∙◌}
use Rattle.std.specs.FinMap.{get}
use Rattle.fs_target.specs.Held.{position_in}
use Rattle.fs_target.specs.Prepared.{held_in}
use Rattle.fs_target.specs.Still.{in_own}
use Rattle.fs_target.proofs.MayStand.{position_none, position_still, shown_still}
use Rattle.fs_target.proofs.targets.Targets.position.Goals as goal

pub returns-in_err-own : goal.returns-in_err-own
returns-in_err-own c =
    c.from_residual.ensures
    ∙ sym (position_none c.self.inside.awake c.self.inside.still c.args.shard c.args.id (sym c.position.ensures ∙ c.in_err-own.was))
    ∙ ap (λ v. position_in c.args.shard (get (held_in v).listening.targets c.args.id)) c.self.view_is

pub returns-in-Some : goal.returns-in-Some
returns-in-Some c =
    let m = c.self.inside.awake in
    let s = c.in-Some.still in
    let shown = shown_still c.self.inside.still s m c.args.self.now c.in-Some.is c.self.view_is in
    c.position_in.ensures
    ∙ ap (λ ps. get_or ps c.args.shard None) c.as_slice.ensures.value
    ∙ ap (λ p. in_own p (get_or s.positions.items c.args.shard None)) (sym c.in_ok-own.was ∙ c.position.ensures)
    ∙ sym (position_still m s.positions.items c.args.shard c.args.id)
    ∙ ap (λ v. position_in c.args.shard (get (held_in v).listening.targets c.args.id)) shown
