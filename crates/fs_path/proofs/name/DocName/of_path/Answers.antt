use Rattle.std.proofs.Common.{◌∷◌, string_bytes, ap, sym, ◌∙◌}
use Rattle.std.specs.Option.{option_copied}
use Rattle.fs_path.specs.Cursor.{rest_segments}
use Rattle.fs_path.specs.Segment.{segments}
use Rattle.fs_path.proofs.NameTexts.{some_rest}
use Rattle.fs_path.proofs.name.DocName.of_path.Goals as goal

pub invariant_of-result : goal.invariant_of-result
invariant_of-result c =
    let first = c.first_segment.result.0.now in
    some_rest (string_bytes c.args.path) first c.in-Some.field-0.now
    (ap segments (sym c.as_str.ensures.value) ∙ (c.first_segment.ensures.parts ∙ ap (λ o. first ∷ rest_segments (option_copied o)) c.in-Some.is))

pub returns-in-Some-clause-none : goal.returns-in-Some-clause-none
returns-in-Some-clause-none c = (λ h. cc, λ h. absurd (h (invariant_of-result c)))
