use Rattle.std.proofs.Common.{◌≡◌, None, subst, ap, ◌∙◌}
use Rattle.std.specs.Prelude.{IfErr, OnOk}
use Rattle.fs_target.specs.Entries.{IsKeptOut}
use Rattle.fs_target.specs.Held.{Held, refusal}
use Rattle.fs_target.specs.Prepared.{held_in}
use Rattle.fs_target.proofs.Asked.{refused_by, taken_by}
use Rattle.fs_target.proofs.targets.Targets.add.Goals as goal

pub returns-clause-refused : goal.returns-clause-refused
returns-clause-refused c =
    let id = c.args.id in
    let r = c.add.result in
    let same : held_in c.wake.new.awake ≡ held_in c.args.self.now = c.wake.ensures.same ∙ ap held_in c.self.view_is in
    refused_by (refusal id (held_in c.args.self.now)) r (subst (λ (h : Held). OnOk r (refusal id h ≡ None)) same c.add.ensures.none)
    (subst (λ (h : Held). IfErr r (IsKeptOut (refusal id h))) same c.add.ensures.refused)

pub returns-clause-taken : goal.returns-clause-taken
returns-clause-taken c =
    let id = c.args.id in
    let r = c.add.result in
    let same : held_in c.wake.new.awake ≡ held_in c.args.self.now = c.wake.ensures.same ∙ ap held_in c.self.view_is in
    taken_by (refusal id (held_in c.args.self.now)) r (subst (λ (h : Held). IfErr r (IsKeptOut (refusal id h))) same c.add.ensures.refused)
