use Rattle.std.proofs.Common.{◌≡◌, string_bytes, sym, ap, ◌∙◌, rules}
use Rattle.fs_path.specs.Field.{field_of, field_text}
use Rattle.serde_json.specs.Data.{string}
use Rattle.serde_json.specs.View.{view as json}
use Rattle.serde_json.specs.declared.value.Value.{String, the_lemmas}
use Rattle.fs_json.specs.Paths.{field_path_at, IsPathHeld}
use Rattle.fs_json.proofs.FieldPaths.{path_again}
use Rattle.fs_json.proofs.paths.write_field_path.Goals as goal

pub returns-clause-reads_back : goal.returns-clause-reads_back
returns-clause-reads_back c = λ place.
    let p = c.args.path.now in
    let text = c.into_string.result in
    let is : string_bytes text ≡ field_text p.parts = search rules in
    let seen : json (String text) ≡ string (string_bytes text) = search (rules, the_lemmas) in
    let held : IsPathHeld p = ap field_of (sym c.in_ok-print_field.ensures.text) ∙ c.in_ok-print_field.ensures.again in
    ap (λ d. field_path_at d place) (seen ∙ ap string is) ∙ path_again p place held

pub returns-clause-held : goal.returns-clause-held
returns-clause-held c = ap field_of (sym c.in_ok-print_field.ensures.text) ∙ c.in_ok-print_field.ensures.again
