use Rattle.std.proofs.Common.{◌≡◌, sym, ap, ◌∙◌, subst, arith}
use Rattle.std.specs.Prelude.{IfOk}
use Rattle.std.proofs.lemmas.Grind.{common_steps}
use Rattle.std.proofs.lemmas.Result.{IfOk-weaker}
use Rattle.fs_target.specs.Held.{Held}
use Rattle.fs_target.specs.Prepared.{AreReady, held_in}
use Rattle.fs_target.specs.Raise.{kept_told}
use Rattle.fs_target.proofs.MayStand.{on_ok, ready_by, told_by}
use Rattle.fs_target.proofs.targets.Targets.messages.Goals as goal

pub returns-then-is_some-clause-told : goal.returns-then-is_some-clause-told
returns-then-is_some-clause-told c =
    IfOk-weaker c.no_change.result _ _
    (λ ms is. is
    ∙ sym (told_by c.self.inside.awake c.self.inside.still c.args.time (sym c.if-is_some.ensures) c.self.invariant.0)
    ∙ ap (λ v. kept_told c.args.time (held_in v)) c.self.view_is)
    c.no_change.ensures

pub returns-then-is_some-clause-ok : goal.returns-then-is_some-clause-ok
returns-then-is_some-clause-ok c =
    on_ok c.no_change.result (subst (AreReady c.args.time) c.self.view_is (ready_by c.self.inside.awake c.self.inside.still c.args.time (sym c.if-is_some.ensures) c.self.invariant.0))

pub returns-clause-told : goal.returns-clause-told
returns-clause-told c =
    let told = c.messages.ensures c.in_ok-make_ready.ensures.ok in
    let same : held_in c.make_ready.new.self ≡ held_in c.args.self.now = grind (arith, common_steps) in
    subst (λ (h : Held). IfOk c.messages.result (λ v. v.items ≡ kept_told c.args.time h)) same told
