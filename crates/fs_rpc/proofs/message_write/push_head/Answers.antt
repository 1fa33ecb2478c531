use Rattle.std.proofs.Common.{◌≡◌, ◌∷◌, [], codes, OnOk, subst}
use Rattle.json.specs.Token.{key}
use Rattle.serde_json.specs.Data.{no_members}
use Rattle.fs_rpc.specs.MessageJson.{with_id}
use Rattle.fs_valjson.proofs.Tokens.{behind_both}
use Rattle.fs_valjson.specs.Tokens.{member_tokens}
use Rattle.fs_rpc.proofs.message_write.push_head.Goals as goal
use Rattle.std.proofs.Common.{refl}

pub returns-clause-tokens : goal.returns-clause-tokens
returns-clause-tokens c =
    subst (λ ts. OnOk c.key.result (c.key.new.self.tokens ≡ ts))
    (behind_both c.args.line.now.tokens c.push_id.new.line.tokens _ (member_tokens (with_id c.args.id.now no_members)) (key (codes "result") ∷ []) c.in_ok-push_id.ensures.tokens refl) c.key.ensures.ok
