use Rattle.std.proofs.Common.{◌≡◌, ◌∷◌, [], codes, OnOk, subst, refl}
use Rattle.json.specs.Token.{key}
use Rattle.serde_json.specs.Data.{no_members}
use Rattle.fs_rpc.specs.MessageJson.{error_json, with_stream_and_token}
use Rattle.fs_valjson.proofs.Tokens.{behind_both}
use Rattle.fs_valjson.specs.Tokens.{member_tokens, tokens_of}
use Rattle.fs_rpc.proofs.HeldParts.{refused_held}
use Rattle.fs_rpc.proofs.stream_answer_write.push_refused.Goals as goal

pub returns-clause-tokens : goal.returns-clause-tokens
returns-clause-tokens c =
    let error = tokens_of (error_json c.args.code c.args.message.now) in
    let stream = member_tokens (with_stream_and_token c.args.stream c.args.token no_members) in
    let both = behind_both c.args.line.now.tokens _ _ (key (codes "error") ∷ []) error c.in_ok-key.ensures.ok c.in_ok-push_status.ensures.tokens in
    subst (λ ts. OnOk c.push_stream.result (c.push_stream.new.line.tokens ≡ ts))
    (behind_both c.args.line.now.tokens _ _ (key (codes "error") ∷ error) stream both refl) c.push_stream.ensures.tokens

pub returns-clause-held : goal.returns-clause-held
returns-clause-held c = refused_held c.push_stream.result c.args.stream c.args.token c.args.code c.args.message.now c.push_stream.ensures.held
