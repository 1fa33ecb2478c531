use Rattle.std.proofs.Common.{◌≡◌, codes, OnOk, subst}
use Rattle.json.specs.Token.{begin_object, end_object}
use Rattle.serde_json.specs.Data.{put, string}
use Rattle.fs_rpc.specs.MessageJson.{message_members}
use Rattle.fs_valjson.proofs.Tokens.{around, object_tokens}
use Rattle.fs_valjson.specs.Tokens.{member_tokens}
use Rattle.fs_rpc.proofs.message_write.push_message_on.Goals as goal

pub returns-clause-tokens : goal.returns-clause-tokens
returns-clause-tokens c =
    let m = c.args.message.now in
    let session = c.args.session.now in
    let members = put (codes "session") (string session) (message_members m) in
    subst (λ ts. OnOk c.end_object.result (c.end_object.new.self.tokens ≡ ts))
    (around c.args.line.now.tokens _ _ begin_object end_object (member_tokens members) _ c.in_ok-begin_object.ensures.ok c.in_ok-push_on.ensures.tokens (object_tokens members)) c.end_object.ensures.ok
