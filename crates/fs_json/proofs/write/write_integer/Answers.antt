use Rattle.std.proofs.Common.{◌≡◌, string_bytes, ap, ◌∙◌, rules}
use Rattle.std.specs.Fmt.{signed_decimal}
use Rattle.serde_json.specs.Data.{string}
use Rattle.serde_json.specs.View.{view as json}
use Rattle.serde_json.specs.declared.value.Value.{String, the_lemmas}
use Rattle.fs_json.specs.Integer.{integer_of, integer_in_text}
use Rattle.fs_json.proofs.Written.{integer_in_text-signed_decimal}
use Rattle.fs_json.proofs.write.write_integer.Goals as goal

pub returns-clause-reads_back : goal.returns-clause-reads_back
returns-clause-reads_back c =
    let text = c.in_ok-to_string.field-0 in
    let seen : json (String text) ≡ string (string_bytes text) = search (rules, the_lemmas) in
    let digits : string_bytes text ≡ signed_decimal c.args.n = search rules in
    ap integer_of seen ∙ ap integer_in_text digits ∙ integer_in_text-signed_decimal c.args.n c.ranges.n.sfits
