use Rattle.std.proofs.Common.{◌≡◌, ◌++◌, true, false, codes, OnOk, refl, sym, ap, ◌∙◌, subst}
use Rattle.fs_rpc.specs.MessageJson.{message_members}
use Rattle.fs_valjson.proofs.Tokens.{behind_both}
use Rattle.fs_valjson.specs.Tokens.{member_tokens, text_member}
use Rattle.fs_rpc.specs.Tokens.{session_first}
use Rattle.fs_rpc.proofs.Tokens.{placed, session_placed}
use Rattle.fs_rpc.proofs.message_write.push_on.Goals as goal

pub returns-then-session_first-clause-tokens : goal.returns-then-session_first-clause-tokens
returns-then-session_first-clause-tokens c =
    let m = c.args.message.now in
    let old = c.args.line.now.tokens in
    let session = text_member (codes "session") c.args.session.now in
    let members = member_tokens (message_members m) in
    let first : session_first m ≡ true = sym c.session_first.ensures ∙ c.if-session_first.true in
    let same = ap (λ b. placed b members session) (sym first) ∙ session_placed m c.args.session.now in
    subst (λ ts. OnOk c.push_members.result (c.push_members.new.line.tokens ≡ ts))
    (behind_both old c.push_text.new.line.tokens _ session members c.in_ok-push_text.ensures.tokens refl ∙ ap (λ ts. old ++ ts) same) c.push_members.ensures.tokens

pub returns-clause-tokens : goal.returns-clause-tokens
returns-clause-tokens c =
    let m = c.args.message.now in
    let old = c.args.line.now.tokens in
    let session = text_member (codes "session") c.args.session.now in
    let members = member_tokens (message_members m) in
    let first : session_first m ≡ false = sym c.session_first.ensures ∙ c.if-session_first.false in
    let same = ap (λ b. placed b members session) (sym first) ∙ session_placed m c.args.session.now in
    subst (λ ts. OnOk c.push_text-2.result (c.push_text-2.new.line.tokens ≡ ts))
    (behind_both old c.push_members-2.new.line.tokens _ members session c.in_ok-push_members.ensures.tokens refl ∙ ap (λ ts. old ++ ts) same) c.push_text-2.ensures.tokens
