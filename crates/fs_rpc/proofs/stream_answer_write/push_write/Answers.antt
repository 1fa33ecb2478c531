use Rattle.std.proofs.Common.{◌≡◌, codes, OnOk, ◌∙◌, subst}
use Rattle.json.specs.Token.{begin_object, end_object}
use Rattle.fs_rpc.specs.MessageJson.{stream_answer_json, stream_answer_members}
use Rattle.fs_valjson.proofs.Tokens.{around, object_tokens}
use Rattle.fs_valjson.specs.Tokens.{member_tokens}
use Rattle.fs_rpc.proofs.Listened.{one_alone}
use Rattle.fs_json.proofs.Writings.{on_ok_always}
use Rattle.fs_rpc.proofs.stream_answer_write.push_write.Goals as goal

pub returns-clause-tokens : goal.returns-clause-tokens
returns-clause-tokens c =
    let answer = c.args.answer.now in
    let members = stream_answer_members c.args.stream c.args.token answer in
    let keyed = c.key.new.self.tokens in
    let whole = around keyed _ _ begin_object end_object (member_tokens members) _ c.in_ok-begin_object.ensures.ok c.in_ok-push_answer.ensures.tokens (object_tokens members) in
    subst (λ ts. OnOk c.end_object.result (c.end_object.new.self.tokens ≡ ts))
    (whole ∙ one_alone c.args.line.now.tokens keyed (codes "write") (stream_answer_json c.args.stream c.args.token answer) c.in_ok-key.ensures.ok) c.end_object.ensures.ok

pub returns-clause-held : goal.returns-clause-held
returns-clause-held c = on_ok_always c.end_object.result c.in_ok-push_answer.ensures.held
