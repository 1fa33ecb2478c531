use Rattle.std.proofs.Common.{◌≡◌, ◌++◌, codes, OnOk, ap, ◌∙◌, subst, refl}
use Rattle.std.specs.Prelude.{decimal}
use Rattle.fs_rpc.specs.Eight.{eight_text}
use Rattle.fs_valjson.proofs.Tokens.{behind_both}
use Rattle.fs_valjson.specs.Tokens.{text_member}
use Rattle.fs_json.proofs.Writings.{on_ok_always}
use Rattle.fs_rpc.proofs.Decimals.{decimal_again}
use Rattle.fs_rpc.proofs.stream_answer_write.push_stream.Goals as goal

pub returns-clause-tokens : goal.returns-clause-tokens
returns-clause-tokens c =
    let old = c.args.line.now.tokens in
    let id = text_member (codes "streamId") (decimal c.args.stream) in
    let token = text_member (codes "streamToken") (eight_text c.args.token) in
    let first = c.in_ok-push_text.ensures.tokens ∙ ap (λ t. old ++ text_member (codes "streamId") t) (c.deref.ensures ∙ c.in_ok-number.ensures.ok) in
    let second = ap (λ t. c.push_text.new.line.tokens ++ text_member (codes "streamToken") t) (c.as_str.ensures.value ∙ c.in_ok-text.ensures.text) in
    subst (λ ts. OnOk c.push_text-2.result (c.push_text-2.new.line.tokens ≡ ts))
    (second ∙ behind_both old c.push_text.new.line.tokens _ id token first refl) c.push_text-2.ensures.tokens

pub returns-clause-held : goal.returns-clause-held
returns-clause-held c = on_ok_always c.push_text-2.result (record { stream = decimal_again c.args.stream c.ranges.stream.fits; token = c.in_ok-text.ensures.held; answer = tt })
