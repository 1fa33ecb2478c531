use Rattle.std.proofs.Common.{◌≡◌, Some, ap, sym, ◌∙◌, subst}
use Rattle.std.specs.Prelude.{IfSome}
use Rattle.fs_target.specs.Held.{raised_at}
use Rattle.fs_target.specs.Prepared.{AreReady, held_in}
use Rattle.fs_target.specs.Still.{IsNextStill, as_awake}
use Rattle.fs_target.specs.declared.still.Still.{Still}
use Rattle.fs_target.proofs.MayStand.{held_then, raised_by, shown_none, still_then}
use Rattle.fs_target.proofs.targets.Targets.go_to.Goals as goal

pub returns-then-is_some : goal.returns-then-is_some
returns-then-is_some c = λ ready.
    ap (λ w. held_in (as_awake c.self.inside.still w)) c.raise_to.ensures
    ∙ raised_by c.self.inside.awake c.self.inside.still c.args.time (sym c.if-is_some.ensures) c.self.invariant.0
    ∙ ap (λ v. raised_at c.args.time (held_in v)) c.self.view_is

-- what it is still with is what was made ready
ready_at : (c : goal.Joined-self-still_at) → IfSome c.still_at.result (λ (s : Still). c.self.inside.next ≡ Some (record { time = c.args.time; still = s }))
ready_at c = subst (λ o. IfSome c.still_at.result (λ (s : Still). o ≡ Some (record { time = c.args.time; still = s }))) c.take.ensures.value c.still_at.ensures

pub invariant_of-self-2 : goal.invariant_of-self-2
invariant_of-self-2 c = (
  still_then c.self.inside.next c.args.time c.self.inside.awake c.go_to.new.self c.self.invariant.1 c.go_to.ensures.each c.still_at.result (ready_at c),
  subst (λ o. IfSome o (λ n. IsNextStill n c.go_to.new.self)) (sym c.take.ensures.after) tt,
)

pub returns : goal.returns
returns c = λ ready.
    let shown = shown_none c.self.inside.still c.self.inside.awake c.args.self.now (sym c.if-is_some.ensures) c.self.view_is in
    held_then c.self.inside.next c.args.time c.self.inside.awake c.go_to.new.self c.self.invariant.1 c.go_to.ensures.each c.still_at.result (ready_at c)
    ∙ c.go_to.ensures.held (subst (AreReady c.args.time) (sym shown) ready)
    ∙ ap (λ v. raised_at c.args.time (held_in v)) shown
