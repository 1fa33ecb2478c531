use Rattle.std.proofs.Common.{◌∙◌}
use Rattle.fs_value.specs.Same.{same_fields}
use Rattle.fs_value.proofs.Alike.{same_tested}
use Rattle.fs_value.proofs.document.are_same.Goals as goal

pub returns : goal.returns
returns c =
    same_tested c.as_fields.result.now c.as_fields-2.result.now c.fields_same.result c.fields_same.ensures
    ∙ (λ i. same_fields (c.as_fields.ensures i) (c.as_fields-2.ensures i))
