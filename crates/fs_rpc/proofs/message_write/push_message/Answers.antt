use Rattle.std.proofs.Common.{◌≡◌, OnOk, subst}
use Rattle.json.specs.Token.{begin_object, end_object}
use Rattle.fs_json.proofs.Writings.{on_ok_always}
use Rattle.fs_valjson.proofs.Tokens.{around, object_tokens}
use Rattle.fs_valjson.specs.Tokens.{member_tokens}
use Rattle.fs_rpc.specs.MessageJson.{message_members}
use Rattle.fs_rpc.proofs.message_write.push_message.Goals as goal

pub returns-clause-tokens : goal.returns-clause-tokens
returns-clause-tokens c =
    let members = message_members c.args.message.now in
    subst (λ ts. OnOk c.end_object.result (c.end_object.new.self.tokens ≡ ts))
    (around c.args.line.now.tokens _ _ begin_object end_object (member_tokens members) _ c.in_ok-begin_object.ensures.ok c.in_ok-push_members.ensures.tokens (object_tokens members)) c.end_object.ensures.ok

pub returns-clause-held : goal.returns-clause-held
returns-clause-held c = on_ok_always c.end_object.result c.in_ok-push_members.ensures.held
