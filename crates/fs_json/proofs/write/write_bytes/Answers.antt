use Rattle.std.proofs.Common.{◌≡◌, string_bytes, Some, refl, ap, ◌∙◌, rules}
use Rattle.serde_json.specs.Data.{string}
use Rattle.serde_json.specs.View.{view as json}
use Rattle.serde_json.specs.declared.value.Value.{String, the_lemmas}
use Rattle.fs_json.specs.Base64.{bytes_of}
use Rattle.fs_json.proofs.Written.{decoded-standard}
use Rattle.fs_json.proofs.write.write_bytes.Goals as goal

pub returns-clause-reads_back : goal.returns-clause-reads_back
returns-clause-reads_back c =
    let text = c.in_ok-encode.field-0 in
    let seen : json (String text) ≡ string (string_bytes text) = search (rules, the_lemmas) in
    ap bytes_of seen ∙ decoded-standard (string_bytes text) _ (c.in_ok-encode.ensures.round_trip refl) ∙ ap Some c.as_slice.ensures
