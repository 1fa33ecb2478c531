use Rattle.std.proofs.Common.{◌≡◌, ℕ, Option, Result, Ok, Err, sym, ap, subst, ◌∙◌}
use Rattle.serde_json.specs.View.{view as json}
use Rattle.fs_path.specs.Way.{place_of}
use Rattle.fs_json.specs.Answer.{Gives, ◌>>=◌}
use Rattle.fs_json.specs.declared.bad.Bad.{Bad}
use Rattle.fs_request.specs.declared.request.Request.{Request}
use Rattle.fs_rpc.specs.RequestSteps.{judged_stream_at, labelled_token_at, stream_of_at}
use Rattle.fs_rpc.proofs.StreamSteps.{stream_of_parts}
use Rattle.fs_rpc.proofs.Structured.{passed_on}
use Rattle.fs_rpc.proofs.streams_read.read_stream_of.Goals as goal

pub returns-in-Ok : goal.returns-in-Ok
returns-in-Ok c =
    let root = c.args.root.now in
    let stream = c.args.stream in
    let drafts = c.args.drafts in
    let d = json c.args.v.now in
    let place = place_of c.args.way.now in
    let judged : Option ℕ → Result Request Bad = λ token. judged_stream_at root stream token drafts place in
    let told : labelled_token_at stream drafts d place ≡ Ok c.in-Ok.token = subst (λ xs. labelled_token_at stream xs d place ≡ Ok c.in-Ok.token) c.as_slice.ensures c.in-Ok.ensures in
    let same : judged c.in-Ok.token ≡ stream_of_at root stream drafts d place = sym (ap (λ o. o >>= judged) told) ∙ stream_of_parts root stream drafts d place in
    subst (λ r. Gives {X = Request} (λ x. x) c.judged_stream.result r) same c.judged_stream.ensures

pub returns-in-Err : goal.returns-in-Err
returns-in-Err c =
    let root = c.args.root.now in
    let stream = c.args.stream in
    let drafts = c.args.drafts in
    let d = json c.args.v.now in
    let place = place_of c.args.way.now in
    let judged : Option ℕ → Result Request Bad = λ token. judged_stream_at root stream token drafts place in
    let told = subst (λ xs. Gives {X = Option ℕ} {Y = Option ℕ} (λ n. n) (Err c.in-Err.bad) (labelled_token_at stream xs d place)) c.as_slice.ensures c.in-Err.ensures in
    passed_on {X = Option ℕ} {V = Request} (λ n. n) (λ r. r) c.in-Err.bad (labelled_token_at stream drafts d place) (stream_of_at root stream drafts d place) told
    (λ b h. sym (stream_of_parts root stream drafts d place) ∙ ap (λ o. o >>= judged) h)
