use Rattle.std.proofs.Common.{◌∙◌}
use Rattle.fs_value.specs.Same.{same_fields}
use Rattle.fs_value.proofs.Alike.{same_tested}
use Rattle.fs_write.proofs.one_write.is_same.Goals as goal

pub returns : goal.returns
returns c =
    same_tested c.as_fields-one.result.now c.as_fields-other.result.now c.fields_same.result c.fields_same.ensures
    ∙ (λ i. same_fields (c.as_fields-one.ensures i) (c.as_fields-other.ensures i))
