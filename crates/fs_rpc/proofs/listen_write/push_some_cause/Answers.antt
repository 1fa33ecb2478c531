use Rattle.std.proofs.Common.{◌≡◌, ◌∷◌, ◌++◌, [], codes, OnOk, ap, ◌∙◌, subst, refl}
use Rattle.json.specs.Token.{begin_object, end_object, key}
use Rattle.fs_rpc.specs.ListenJson.{number_json}
use Rattle.fs_valjson.proofs.Tokens.{around, behind_both}
use Rattle.fs_valjson.specs.Tokens.{text_member, tokens_of}
use Rattle.fs_rpc.proofs.listen_write.push_some_cause.Goals as goal

pub returns-clause-tokens : goal.returns-clause-tokens
returns-clause-tokens c =
    let cause = key (codes "cause") ∷ [] in
    let code = key (codes "code") ∷ [] in
    let number = tokens_of (number_json c.args.cause.now.code) in
    let message = text_member (codes "message") c.args.cause.now.message in
    let named = c.key.new.self.tokens in
    let begun = c.begin_object.new.self.tokens in
    let last = c.in_ok-push_text.ensures.tokens ∙ ap (λ t. c.push_number.new.line.tokens ++ text_member (codes "message") t) c.as_str.ensures.value in
    let numbered = behind_both begun _ _ code number c.in_ok-key-2.ensures.ok c.in_ok-push_number.ensures.tokens in
    let told = behind_both begun _ _ (code ++ number) message numbered last in
    let whole = around named _ _ begin_object end_object ((code ++ number) ++ message) _ c.in_ok-begin_object.ensures.ok told refl in
    subst (λ ts. OnOk c.end_object.result (c.end_object.new.self.tokens ≡ ts))
    (behind_both c.args.line.now.tokens named _ cause _ c.in_ok-key.ensures.ok whole) c.end_object.ensures.ok
