use Rattle.fs_value.proofs.Folds.{items_size_more, members_size_more}
use Rattle.fs_value.proofs.counted.+size.Goals as goal

pub items_size-loop-value-preserved : goal.items_size-loop-value-preserved
items_size-loop-value-preserved t c =
    items_size_more c.as_slice-value-items.result.now c.loop-value.value-index c.value-item.result c.loop-value-test.true c.value-item.is _ _ _ c.loop-value.invariant c.value_size.ensures c.saturating_add-size.ensures

pub fields_size-loop-field-preserved : goal.fields_size-loop-field-preserved
fields_size-loop-field-preserved t c =
    members_size_more c.as_slice-field-items.result.now c.loop-field.field-index c.field-item.result c.loop-field-test.true c.field-item.is _ _ _ _ _ c.loop-field.invariant c.text_size.ensures c.saturating_add.ensures c.value_size.ensures c.saturating_add-size.ensures
