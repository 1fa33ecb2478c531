use Rattle.std.proofs.Common.{rules, ◌≡◌, Ok, Err, codes, sym, ap, subst, ◌∙◌}
use Rattle.fs_path.specs.Place.{member_place}
use Rattle.fs_path.specs.Way.{place_of}
use Rattle.serde_json.specs.View.{view as json}
use Rattle.fs_json.specs.Answer.{Gives}
use Rattle.fs_query.specs.Asked.{Asked}
use Rattle.fs_queryjson.specs.Query.{permitted_at, walked_at}
use Rattle.fs_rpc.specs.Requests.{structured_at}
use Rattle.fs_rpc.specs.When.{when_at}
use Rattle.fs_request.specs.declared.when.When.{When}
use Rattle.fs_rpc.proofs.Structured.{structured_fails, structured_gives, walk_fails, passed_on, asked_when}
use Rattle.fs_rpc.proofs.read.read_structured.Goals as goal

pub returns-in_err-walked : goal.returns-in_err-walked
returns-in_err-walked c =
    let place = place_of c.args.way.now in
    let d = json c.args.v.now in
    let s = json c.in_ok-structured.structured.now in
    let inside = member_place place (codes "structuredQuery") in
    let bad = c.in_err-walked.field-0.0 in
    let result : c.from_residual-in_err-walked.result ≡ Err bad = search rules in
    let walked = subst (λ p. Gives {Y = Asked} (λ q. q) (Err bad) (walked_at c.args.parent.now s p)) c.member.ensures c.in_err-walked.ensures in
    subst (λ r. Gives {Y = Asked × When} (λ asked. asked) r (structured_at c.args.parent.now d place)) (sym result)
    (passed_on {X = Asked} {Y = Asked} (λ q. q) (λ asked. asked) bad (walked_at c.args.parent.now s inside) (structured_at c.args.parent.now d place) walked
    (λ b e. walk_fails c.args.parent.now d s place b c.in_ok-structured.ensures e))

pub returns-in-Err : goal.returns-in-Err
returns-in-Err c =
    let place = place_of c.args.way.now in
    let d = json c.args.v.now in
    let s = json c.in_ok-structured.structured.now in
    let walked = subst (λ p. walked_at c.args.parent.now s p ≡ Ok c.in_ok-walked.walked) c.member.ensures c.in_ok-walked.ensures in
    passed_on {X = When} {Y = When} (λ w. w) (λ asked. asked) c.in-Err.bad (when_at d place) (structured_at c.args.parent.now d place) c.in-Err.ensures
    (λ b e. structured_fails c.args.parent.now d s place c.in_ok-walked.walked b c.in_ok-structured.ensures walked e)

pub returns-in_err-query : goal.returns-in_err-query
returns-in_err-query c =
    let place = place_of c.args.way.now in
    let d = json c.args.v.now in
    let s = json c.in_ok-structured.structured.now in
    let inside = member_place place (codes "structuredQuery") in
    let when = c.in-Ok.when in
    let walked = subst (λ p. walked_at c.args.parent.now s p ≡ Ok c.in_ok-walked.walked) c.member.ensures c.in_ok-walked.ensures in
    let gives = structured_gives c.args.parent.now d s place c.in_ok-walked.walked when c.in_ok-structured.ensures walked c.in-Ok.ensures in
    let bad = c.in_err-query.field-0.0 in
    let result : c.from_residual-in_err-query.result ≡ Err bad = search rules in
    let judged = subst (λ p. Gives {Y = Asked} (λ q. q) (Err bad) (permitted_at c.in_ok-walked.walked p)) c.member-2.ensures c.in_err-query.ensures in
    subst (λ r. Gives {Y = Asked × When} (λ asked. asked) r (structured_at c.args.parent.now d place)) (sym result)
    (passed_on {X = Asked} {Y = Asked} (λ q. q) (λ asked. asked) bad (permitted_at c.in_ok-walked.walked inside) (structured_at c.args.parent.now d place) judged
    (λ b e. gives ∙ ap (asked_when when) e))

pub returns : goal.returns
returns c =
    let place = place_of c.args.way.now in
    let d = json c.args.v.now in
    let s = json c.in_ok-structured.structured.now in
    let when = c.in-Ok.when in
    let query = c.in_ok-query.query in
    let walked = subst (λ p. walked_at c.args.parent.now s p ≡ Ok c.in_ok-walked.walked) c.member.ensures c.in_ok-walked.ensures in
    let gives = structured_gives c.args.parent.now d s place c.in_ok-walked.walked when c.in_ok-structured.ensures walked c.in-Ok.ensures in
    let judged = subst (λ p. permitted_at c.in_ok-walked.walked p ≡ Ok query) c.member-2.ensures c.in_ok-query.ensures in
    gives ∙ ap (asked_when when) judged
