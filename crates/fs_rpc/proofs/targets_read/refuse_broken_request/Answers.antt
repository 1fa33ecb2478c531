use Rattle.std.proofs.Common.{codes, sym, ap, subst, ◌∙◌}
use Rattle.fs_path.specs.Place.{member_place}
use Rattle.fs_path.specs.Way.{place_of}
use Rattle.fs_json.specs.Answer.{Gives}
use Rattle.fs_query.specs.declared.target.Target.{Target}
use Rattle.fs_rpc.specs.ReadTargets.{permitted_request, permitted_target, target_query_place}
use Rattle.fs_request.specs.declared.request.Request.{Request}
use Rattle.fs_request.specs.declared.request.Request.TheVariants.{AddTarget}
use Rattle.fs_rpc.proofs.TargetSteps.{made_gives}
use Rattle.fs_rpc.proofs.targets_read.refuse_broken_request.Goals as goal

pub returns-in-AddTarget : goal.returns-in-AddTarget
returns-in-AddTarget c =
    let place = place_of c.args.way.now in
    let added = c.in-AddTarget in
    let answer = c.refuse_broken_target.result in
    let make = λ (x : Target). AddTarget added.database added.id x added.token in
    let there = c.member.ensures ∙ ap (λ p. member_place p (codes "structuredQuery")) (c.member-way-in-AddTarget.ensures ∙ ap (λ p. member_place p (codes "query")) c.member-way.ensures) in
    let gives = subst (λ p. Gives {X = Unit {0}} {Y = Target} (λ u. added.target) answer (permitted_target added.target p)) there c.refuse_broken_target.ensures in
    subst (λ r. Gives {X = Unit {0}} {Y = Request} (λ u. r) answer (permitted_request r place)) (sym added.is)
    (made_gives {X = Unit {0}} make added.target answer (permitted_target added.target (target_query_place place)) gives)
