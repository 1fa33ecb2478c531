use Rattle.std.proofs.Common.{◌≡◌, ◌++◌, codes, OnOk, ap, ◌∙◌, subst, refl}
use Rattle.serde_json.specs.Data.{no_members}
use Rattle.fs_rpc.specs.ListenJson.{kind_members, with_cause}
use Rattle.fs_valjson.proofs.Tokens.{behind_both}
use Rattle.fs_valjson.specs.Tokens.{member_tokens}
use Rattle.fs_rpc.proofs.Listened.{cause_first}
use Rattle.fs_rpc.proofs.listen_write.push_remove.Goals as goal

pub returns-clause-tokens : goal.returns-clause-tokens
returns-clause-tokens c =
    let old = c.args.line.now.tokens in
    let kind = kind_members (codes "REMOVE") c.args.targets.now in
    let cause = member_tokens (with_cause c.args.cause.now no_members) in
    subst (λ ts. OnOk c.push_kind.result (c.push_kind.new.line.tokens ≡ ts))
    (behind_both old c.push_cause.new.line.tokens _ cause (member_tokens kind) c.in_ok-push_cause.ensures.tokens refl ∙ ap (λ ts. old ++ ts) (cause_first c.args.cause.now kind))
    c.push_kind.ensures.tokens
