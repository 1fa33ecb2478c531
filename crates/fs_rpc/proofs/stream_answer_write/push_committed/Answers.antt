use Rattle.std.proofs.Common.{◌≡◌, ◌++◌, codes, map, OnOk, ap, ◌∙◌, subst, refl}
use Rattle.serde_json.specs.Data.{no_members}
use Rattle.serde_json.specs.View.{items_of}
use Rattle.fs_rpc.specs.MessageJson.{with_results, with_stream_and_token}
use Rattle.fs_time.specs.Rfc3339.{time_text}
use Rattle.fs_writejson.specs.Results.{result_json}
use Rattle.fs_valjson.proofs.Tokens.{behind_both}
use Rattle.fs_valjson.specs.Tokens.{member_tokens, text_member}
use Rattle.fs_valjson.proofs.Printed.{time_held}
use Rattle.fs_rpc.proofs.HeldParts.{committed_held}
use Rattle.fs_rpc.proofs.stream_answer_write.push_committed.Goals as goal

pub returns-clause-tokens : goal.returns-clause-tokens
returns-clause-tokens c =
    let old = c.args.line.now.tokens in
    let time = text_member (codes "commitTime") (time_text c.args.time) in
    let stream = member_tokens (with_stream_and_token c.args.stream c.args.token no_members) in
    let results = member_tokens (with_results (items_of (map result_json c.args.results.now))) in
    let first = c.in_ok-push_text.ensures.tokens ∙ ap (λ t. old ++ text_member (codes "commitTime") t) (c.deref.ensures ∙ c.in_ok-text.ensures.text) in
    let both = behind_both old _ _ time stream first c.in_ok-push_stream.ensures.tokens in
    subst (λ ts. OnOk c.push_results.result (c.push_results.new.line.tokens ≡ ts))
    (behind_both old c.push_stream.new.line.tokens _ (time ++ stream) results both refl) c.push_results.ensures.tokens

pub returns-clause-held : goal.returns-clause-held
returns-clause-held c = committed_held c.push_results.result c.args.stream c.args.token c.args.time c.args.results.now c.in_ok-push_stream.ensures.held (time_held c.args.time _ c.in_ok-text.ensures.text c.in_ok-text.ensures.again) c.push_results.ensures.held
