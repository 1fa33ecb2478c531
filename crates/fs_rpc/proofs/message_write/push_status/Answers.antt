use Rattle.std.proofs.Common.{◌≡◌, ◌++◌, codes, OnOk, ap, ◌∙◌, subst, refl}
use Rattle.json.specs.Token.{begin_object, end_object}
use Rattle.fs_status.specs.Status.{status_text}
use Rattle.fs_valjson.proofs.Tokens.{around, behind_both}
use Rattle.fs_valjson.specs.Tokens.{text_member}
use Rattle.fs_rpc.specs.Tokens.{code_member}
use Rattle.fs_rpc.proofs.message_write.push_status.Goals as goal

pub returns-clause-tokens : goal.returns-clause-tokens
returns-clause-tokens c =
    let code = code_member c.args.code in
    let message = text_member (codes "message") c.args.message.now in
    let status = text_member (codes "status") (status_text c.args.code) in
    let begun = c.begin_object.new.self.tokens in
    let last = c.in_ok-push_text-2.ensures.tokens ∙ ap (λ t. c.push_text.new.line.tokens ++ text_member (codes "status") t) c.status.ensures in
    let both = behind_both begun _ _ code message c.in_ok-push_code.ensures.tokens c.in_ok-push_text.ensures.tokens in
    let all = behind_both begun _ _ (code ++ message) status both last in
    subst (λ ts. OnOk c.end_object.result (c.end_object.new.self.tokens ≡ ts))
    (around c.args.line.now.tokens _ _ begin_object end_object ((code ++ message) ++ status) _ c.in_ok-begin_object.ensures.ok all refl) c.end_object.ensures.ok
