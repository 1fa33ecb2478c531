use Rattle.std.proofs.Common.{◌≡◌, ◌++◌, codes, OnOk, ap, ◌∙◌, subst, refl}
use Rattle.json.specs.Token.{begin_object, end_object}
use Rattle.fs_rpc.specs.Eight.{eight_text}
use Rattle.fs_valjson.proofs.Tokens.{around}
use Rattle.fs_valjson.specs.Tokens.{text_member}
use Rattle.fs_rpc.proofs.message_write.push_transaction.Goals as goal

pub returns-clause-tokens : goal.returns-clause-tokens
returns-clause-tokens c =
    let begun = c.begin_object.new.self.tokens in
    let one = text_member (codes "transaction") (eight_text c.args.transaction) in
    let pushed = c.in_ok-push_text.ensures.tokens ∙ ap (λ t. begun ++ text_member (codes "transaction") t) c.requires in
    subst (λ ts. OnOk c.end_object.result (c.end_object.new.self.tokens ≡ ts))
    (around c.args.line.now.tokens _ _ begin_object end_object one _ c.in_ok-begin_object.ensures.ok pushed refl) c.end_object.ensures.ok
