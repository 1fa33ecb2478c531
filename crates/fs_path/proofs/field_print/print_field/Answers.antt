use Rattle.std.proofs.Common.{◌≡◌, ◌<◌, ◌++◌, length, string_bytes, arith, ap, ◌∙◌}
use Rattle.std.proofs.lemmas.List.{take_all}
use Rattle.fs_path.specs.Field.{field_of, field_text, name_text}
use Rattle.fs_path.proofs.FieldReads.{field_again}
use Rattle.fs_path.proofs.Escapes.{first_name, next_name}
use Rattle.fs_path.proofs.field_print.print_field.Goals as goal
use Rattle.fs_path.proofs.field_print.print_field.Goals.{then-i-gt0+in_ok-push_str, else-i-gt0}

pub loop-i-preserved : goal.loop-i-preserved
loop-i-preserved c =
    let names = c.as_slice-names.result.now in
    let i = c.loop-i.i in
    let name = c.index-names-i.result in
    let within : i < length names = omega arith in
    let pushed : string_bytes c.push_name.new.text ≡ string_bytes c.if-i-gt0.text ++ name_text name = c.in_ok-push_name.ensures ∙ ap (λ x. string_bytes c.if-i-gt0.text ++ name_text x) c.as_str.ensures.value in
    elim c.if-i-gt0.branch [
      | then-i-gt0+in_ok-push_str w ↦
          pushed
          ∙ (ap (λ x. x ++ name_text name) (ap string_bytes w.text-is ∙ w.in_ok-push_str.ensures.bytes)
          ∙ next_name names name (string_bytes c.loop-i.text) i w.if-i-gt0.true within c.index-names-i.is c.loop-i.invariant)
      | else-i-gt0 w ↦
          pushed
          ∙ (ap (λ x. string_bytes x ++ name_text name) w.text-is
          ∙ first_name names name (string_bytes c.loop-i.text) i w.if-i-gt0.false within c.index-names-i.is c.loop-i.invariant)
    ]

pub returns-clause-again : goal.returns-clause-again
returns-clause-again c =
    let names = c.as_slice-names.result.now in
    let text : c.of.result ≡ field_text c.args.path.now.parts =
    c.of.ensures ∙ (c.loop-i.invariant ∙ (ap field_text (take_all c.loop-i.i names (omega arith)) ∙ ap field_text c.as_slice-names.ensures)) in
    ap field_of text ∙ field_again c.args.path.now.parts c.args.path.now.some
