use Rattle.std.proofs.Common.{◌≡◌, ◌++◌, codes, map, OnOk, ap, ◌∙◌, subst}
use Rattle.json.specs.Token.{begin_object, end_object}
use Rattle.serde_json.specs.Data.{member}
use Rattle.serde_json.specs.View.{items_of}
use Rattle.fs_json.specs.Time.{time_json}
use Rattle.fs_rpc.specs.MessageJson.{with_results}
use Rattle.fs_time.specs.Rfc3339.{time_text}
use Rattle.fs_writejson.specs.Results.{result_json}
use Rattle.fs_valjson.proofs.Tokens.{around, behind_both, object_tokens}
use Rattle.fs_valjson.specs.Tokens.{member_tokens, text_member}
use Rattle.fs_json.proofs.Writings.{on_ok_always}
use Rattle.fs_rpc.proofs.commit_write.push_timed.Goals as goal

pub returns-clause-tokens : goal.returns-clause-tokens
returns-clause-tokens c =
    let results = with_results (items_of (map result_json c.args.results.now)) in
    let time = text_member (codes "commitTime") (time_text c.args.time) in
    let begun = c.begin_object.new.self.tokens in
    let first = c.in_ok-push_text.ensures.tokens ∙ ap (λ t. begun ++ text_member (codes "commitTime") t) c.requires in
    let both = behind_both begun _ _ time (member_tokens results) first c.in_ok-push_results.ensures.tokens in
    subst (λ ts. OnOk c.end_object.result (c.end_object.new.self.tokens ≡ ts))
    (around c.args.line.now.tokens _ _ begin_object end_object (time ++ member_tokens results) _ c.in_ok-begin_object.ensures.ok both (object_tokens (member (codes "commitTime") (time_json c.args.time) results)))
    c.end_object.ensures.ok

pub returns-clause-held : goal.returns-clause-held
returns-clause-held c = on_ok_always c.end_object.result c.in_ok-push_results.ensures.held
