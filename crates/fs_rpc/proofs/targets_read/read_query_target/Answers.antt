use Rattle.std.proofs.Common.{rules, ◌≡◌, Ok, Err, codes, sym, ap, subst, ◌∙◌}
use Rattle.fs_path.specs.Place.{member_place}
use Rattle.fs_path.specs.Way.{place_of}
use Rattle.serde_json.specs.View.{view as json}
use Rattle.fs_json.specs.Answer.{Gives, made}
use Rattle.fs_query.specs.Asked.{Asked}
use Rattle.fs_query.specs.declared.target.Target.{Target}
use Rattle.fs_query.specs.declared.target.Target.TheVariants as target
use Rattle.fs_queryjson.specs.Query.{listened_at}
use Rattle.fs_rpc.specs.ReadTargets.{query_target_at}
use Rattle.fs_rpc.specs.Requests.{parent_at}
use Rattle.fs_rpc.proofs.Structured.{passed_on}
use Rattle.fs_rpc.proofs.TargetSteps.{query_steps}
use Rattle.fs_rpc.proofs.targets_read.read_query_target.Goals as goal

pub returns-in_err-query : goal.returns-in_err-query
returns-in_err-query c =
    let root = c.args.root.now in
    let place = place_of c.args.way.now in
    let d = json c.args.v.now in
    let name = json c.in_ok-parent.parent.now in
    let s = json c.in_ok-structured.structured.now in
    let parent = c.in_ok-parent-2.parent in
    let bad = c.in_err-query.field-0.0 in
    let result : c.from_residual-in_err-query.result ≡ Err bad = search rules in
    let read = subst (λ p. parent_at root name p ≡ Ok parent) c.member.ensures c.in_ok-parent-2.ensures in
    let walked = subst (λ p. Gives {Y = Asked} (λ q. q) (Err bad) (listened_at parent s p)) c.member-2.ensures c.in_err-query.ensures in
    let steps = query_steps root d name s place parent c.in_ok-only.ensures c.in_ok-parent.ensures read c.in_ok-structured.ensures in
    subst (λ r. Gives {X = Target} (λ t. t) r (query_target_at root d place)) (sym result)
    (passed_on {X = Asked} {Y = Asked} {V = Target} {W = Target} (λ q. q) (λ t. t) bad (listened_at parent s (member_place place (codes "structuredQuery"))) (query_target_at root d place) walked
    (λ b h. steps ∙ ap (made target.Query) h))

pub returns : goal.returns
returns c =
    let root = c.args.root.now in
    let place = place_of c.args.way.now in
    let d = json c.args.v.now in
    let name = json c.in_ok-parent.parent.now in
    let s = json c.in_ok-structured.structured.now in
    let parent = c.in_ok-parent-2.parent in
    let read = subst (λ p. parent_at root name p ≡ Ok parent) c.member.ensures c.in_ok-parent-2.ensures in
    let walked = subst (λ p. listened_at parent s p ≡ Ok c.in_ok-query.query) c.member-2.ensures c.in_ok-query.ensures in
    query_steps root d name s place parent c.in_ok-only.ensures c.in_ok-parent.ensures read c.in_ok-structured.ensures ∙ ap (made target.Query) walked
