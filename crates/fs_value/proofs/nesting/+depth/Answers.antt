use Rattle.fs_value.proofs.Folds.{items_depth_more, members_depth_more}
use Rattle.fs_value.proofs.nesting.+depth.Goals as goal

pub items_depth-loop-value-preserved : goal.items_depth-loop-value-preserved
items_depth-loop-value-preserved t c =
    items_depth_more c.as_slice-value-items.result.now c.loop-value.value-index c.value-item.result c.loop-value-test.true c.value-item.is _ _ _ c.loop-value.invariant c.depth.ensures.value c.max-deepest.ensures

pub fields_depth-loop-field-preserved : goal.fields_depth-loop-field-preserved
fields_depth-loop-field-preserved t c =
    members_depth_more c.as_slice-field-items.result.now c.loop-field.field-index c.field-item.result c.loop-field-test.true c.field-item.is _ _ _ c.loop-field.invariant c.depth.ensures.value c.max-deepest.ensures
