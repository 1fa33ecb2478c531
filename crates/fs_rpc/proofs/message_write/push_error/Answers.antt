use Rattle.std.proofs.Common.{◌≡◌, ◌∷◌, [], codes, OnOk, subst, refl}
use Rattle.json.specs.Token.{key}
use Rattle.serde_json.specs.Data.{no_members}
use Rattle.fs_rpc.specs.MessageJson.{error_json, with_id}
use Rattle.fs_valjson.proofs.Tokens.{behind_both}
use Rattle.fs_valjson.specs.Tokens.{member_tokens, tokens_of}
use Rattle.fs_rpc.proofs.message_write.push_error.Goals as goal

pub returns-clause-tokens : goal.returns-clause-tokens
returns-clause-tokens c =
    let error = tokens_of (error_json c.args.code c.args.message.now) in
    let id = member_tokens (with_id c.args.id.now no_members) in
    let both = behind_both c.args.line.now.tokens _ _ (key (codes "error") ∷ []) error c.in_ok-key.ensures.ok c.in_ok-push_status.ensures.tokens in
    subst (λ ts. OnOk c.push_id.result (c.push_id.new.line.tokens ≡ ts))
    (behind_both c.args.line.now.tokens _ _ (key (codes "error") ∷ error) id both refl) c.push_id.ensures.tokens
