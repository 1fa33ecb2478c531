use Rattle.std.proofs.Common.{◌≡◌, ◌++◌, Some, codes, string_bytes, OnOk, refl, sym, ap, subst, ◌∙◌}
use Rattle.base64.specs.Engines.{standard}
use Rattle.base64.specs.GeneralPurpose.{encode_of}
use Rattle.serde_json.specs.Data.{string}
use Rattle.fs_valjson.specs.Tokens.{tokens_of}
use Rattle.fs_json.specs.Members.{with_one}
use Rattle.fs_json.specs.Base64.{decoded}
use Rattle.fs_json.proofs.Writings.{on_ok_always}
use Rattle.fs_json.proofs.Written.{decoded-standard}
use Rattle.fs_valjson.proofs.push.push_bytes.Goals as goal

pub returns-clause-tokens : goal.returns-clause-tokens
returns-clause-tokens c =
    subst (λ text. OnOk c.push_one.result (c.push_one.new.line.tokens ≡ c.args.line.now.tokens ++ tokens_of (with_one (codes "bytesValue") (string text))))
    (c.deref.ensures ∙ c.in_ok-encode.ensures.text ∙ ap (encode_of standard) c.as_slice.ensures) c.push_one.ensures.tokens

pub returns-clause-held : goal.returns-clause-held
returns-clause-held c =
    let text = string_bytes c.in_ok-encode.field-0 in
    let same : text ≡ encode_of standard c.args.b.now = c.in_ok-encode.ensures.text ∙ ap (encode_of standard) c.as_slice.ensures in
    on_ok_always c.push_one.result (ap decoded (sym same) ∙ decoded-standard text _ (c.in_ok-encode.ensures.round_trip refl) ∙ ap Some c.as_slice.ensures)
