use Rattle.std.proofs.Common.{◌≡◌, ◌⊎◌, ℕ, Result, Err, None, IfSome, alloc_error, rules, subst}
use Rattle.fs_query.specs.declared.target.Target.{Target}
use Rattle.fs_local.proofs.Standing.{stands_after}
use Rattle.fs_local.specs.Ask.{add_request, asking}
use Rattle.fs_local.specs.Listen.{or_rule, place_refusal, with_target}
use Rattle.fs_local.specs.Runs.{listens}
use Rattle.fs_local.specs.Stands.{Stands}
use Rattle.fs_local.specs.State.{Client, Targets}
use Rattle.fs_local.specs.declared.error.ClientError.{ClientError}
use Rattle.fs_local.specs.declared.error.ClientError.TheVariants.{Memory}
use Rattle.fs_client.proofs.client.Client.listen.Goals as goal

-- a refusal is told, or that there was no memory
abbrev IsTold : ℕ → Target → Targets → Result (Unit {0}) ClientError → Type 0
IsTold id t ts r = IfSome (or_rule t (place_refusal id ts)) (λ e. (r ≡ Err e) ⊎ (r ≡ Err (Memory alloc_error)))

pub returns-in_err-check-clause-refused : goal.returns-in_err-check-clause-refused
returns-in_err-check-clause-refused c =
    let handed : Err c.in_err-check.field-0.0 ≡ c.from_residual.result = search rules in
    subst (λ (s : Client). IsTold c.args.id c.args.target s.targets c.from_residual.result) c.self.view_is (subst (IsTold c.args.id c.args.target c.self.inside.targets) handed c.in_err-check.ensures.refused)

pub invariant_of-self-in_default : goal.invariant_of-self-in_default
invariant_of-self-in_default c =
    let request : c.in_ok-add_request.field-0 ≡ add_request c.self.inside.root c.args.id c.args.target None = c.in_ok-add_request.ensures in
    let asked : c.ask.new.self ≡ asking c.in_ok-add_request.field-0 c.self.inside.hand = c.in_ok-ask.ensures.ok in
    let added : c.listen.new.self ≡ with_target c.args.id c.args.target c.self.inside.targets = c.in_default.ensures.ok in
    subst Stands (cc) (stands_after (listens c.args.id c.args.target) _ (c.requires.some, c.in_ok-check.ensures.ok) c.self.invariant)
