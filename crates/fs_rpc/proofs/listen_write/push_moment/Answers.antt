use Rattle.std.proofs.Common.{◌≡◌, ◌++◌, codes, OnOk, ap, ◌∙◌, subst, refl, Some, string_bytes, sym}
use Rattle.base64.specs.Engines.{standard}
use Rattle.base64.specs.GeneralPurpose.{encode_of}
use Rattle.fs_time.specs.Rfc3339.{time_text}
use Rattle.fs_valjson.proofs.Tokens.{behind_both}
use Rattle.fs_valjson.specs.Tokens.{text_member}
use Rattle.fs_json.specs.Base64.{decoded}
use Rattle.fs_json.proofs.Written.{decoded-standard}
use Rattle.fs_json.proofs.Writings.{on_ok_always}
use Rattle.fs_valjson.proofs.Printed.{time_held}
use Rattle.fs_rpc.proofs.listen_write.push_moment.Goals as goal

pub returns-clause-tokens : goal.returns-clause-tokens
returns-clause-tokens c =
    let old = c.args.line.now.tokens in
    let time = text_member (codes "readTime") (time_text c.args.time) in
    let token = text_member (codes "resumeToken") (encode_of standard c.args.token.now) in
    let first = c.in_ok-push_text.ensures.tokens ∙ ap (λ t. old ++ text_member (codes "readTime") t) (c.deref.ensures ∙ c.in_ok-print.ensures.text) in
    let text = c.deref-2.ensures ∙ c.in_ok-encode.ensures.text ∙ ap (encode_of standard) c.as_slice.ensures in
    subst (λ ts. OnOk c.push_text-2.result (c.push_text-2.new.line.tokens ≡ ts))
    (ap (λ t. c.push_text.new.line.tokens ++ text_member (codes "resumeToken") t) text ∙ behind_both old c.push_text.new.line.tokens _ time token first refl)
    c.push_text-2.ensures.tokens

pub returns-clause-held : goal.returns-clause-held
returns-clause-held c =
    let text = string_bytes c.in_ok-encode.field-0 in
    let same : text ≡ encode_of standard c.args.token.now = c.in_ok-encode.ensures.text ∙ ap (encode_of standard) c.as_slice.ensures in
    let token = ap decoded (sym same) ∙ decoded-standard text _ (c.in_ok-encode.ensures.round_trip refl) ∙ ap Some c.as_slice.ensures in
    on_ok_always c.push_text-2.result (time_held c.args.time _ c.in_ok-print.ensures.text c.in_ok-print.ensures.again, token)
