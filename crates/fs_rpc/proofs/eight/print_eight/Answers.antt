use Rattle.std.proofs.Common.{◌≡◌, Some, string_bytes, refl, sym, ap, ◌∙◌}
use Rattle.std.specs.Int.{w64, to_be_bytes}
use Rattle.base64.specs.Engines.{standard}
use Rattle.base64.specs.GeneralPurpose.{encode_of}
use Rattle.fs_json.specs.Base64.{decoded}
use Rattle.fs_json.proofs.Written.{decoded-standard}
use Rattle.fs_rpc.specs.Eight.{eight_text}
use Rattle.fs_rpc.proofs.Numbers.{eight_again}
use Rattle.fs_rpc.proofs.eight.print_eight.Goals as goal

pub returns-clause-text : goal.returns-clause-text
unfolding eight_text
returns-clause-text c =
    let bytes : c.to_be_bytes.result ≡ to_be_bytes w64 c.args.n = c.to_be_bytes.ensures in
    c.of.ensures ∙ c.in_ok-encode.ensures.text ∙ ap (encode_of standard) bytes

pub returns-clause-held : goal.returns-clause-held
unfolding eight_text
returns-clause-held c =
    let bytes : c.to_be_bytes.result ≡ to_be_bytes w64 c.args.n = c.to_be_bytes.ensures in
    let text : eight_text c.args.n ≡ string_bytes c.in_ok-encode.field-0 = sym (c.in_ok-encode.ensures.text ∙ ap (encode_of standard) bytes) in
    eight_again c.args.n c.ranges.n.fits
    (ap decoded text ∙ decoded-standard (string_bytes c.in_ok-encode.field-0) _ (c.in_ok-encode.ensures.round_trip refl) ∙ ap Some bytes)
