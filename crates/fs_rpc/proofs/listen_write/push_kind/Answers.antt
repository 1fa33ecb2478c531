use Rattle.std.proofs.Common.{◌≡◌, codes, OnOk, subst, refl}
use Rattle.serde_json.specs.Data.{no_members}
use Rattle.fs_rpc.specs.ListenJson.{with_targets}
use Rattle.fs_valjson.proofs.Tokens.{behind_both}
use Rattle.fs_valjson.specs.Tokens.{member_tokens, text_member}
use Rattle.fs_rpc.proofs.listen_write.push_kind.Goals as goal

pub returns-clause-tokens : goal.returns-clause-tokens
returns-clause-tokens c =
    let kind = text_member (codes "targetChangeType") c.args.kind.now in
    let targets = member_tokens (with_targets (codes "targetIds") c.args.targets.now no_members) in
    subst (λ ts. OnOk c.push_targets.result (c.push_targets.new.line.tokens ≡ ts))
    (behind_both c.args.line.now.tokens c.push_text.new.line.tokens _ kind targets c.in_ok-push_text.ensures.tokens refl) c.push_targets.ensures.tokens
