use Rattle.std.proofs.Common.{◌≡◌, codes, OnOk, subst, refl}
use Rattle.serde_json.specs.Data.{no_members}
use Rattle.fs_rpc.specs.ListenJson.{kind_members, with_moment}
use Rattle.fs_valjson.proofs.Tokens.{behind_both}
use Rattle.fs_valjson.specs.Tokens.{member_tokens}
use Rattle.fs_json.proofs.Writings.{on_ok_always}
use Rattle.fs_rpc.proofs.listen_write.push_current.Goals as goal

pub returns-clause-tokens : goal.returns-clause-tokens
returns-clause-tokens c =
    let kind = member_tokens (kind_members (codes "CURRENT") c.args.targets.now) in
    let moment = member_tokens (with_moment c.args.time c.args.token.now no_members) in
    subst (λ ts. OnOk c.push_kind.result (c.push_kind.new.line.tokens ≡ ts))
    (behind_both c.args.line.now.tokens c.push_moment.new.line.tokens _ moment kind c.in_ok-push_moment.ensures.tokens refl) c.push_kind.ensures.tokens

pub returns-clause-held : goal.returns-clause-held
returns-clause-held c = on_ok_always c.push_kind.result c.in_ok-push_moment.ensures.held
