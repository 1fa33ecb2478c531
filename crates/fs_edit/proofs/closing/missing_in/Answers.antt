use Rattle.std.proofs.Common.{sym, map, subst, take}
use Rattle.fs_value.specs.View.{view}
use Rattle.fs_edit.specs.Closing.{HasMissing}
use Rattle.fs_value.proofs.Folds.{one_value}
use Rattle.fs_edit.proofs.ValueSets.{lost}
use Rattle.fs_edit.proofs.closing.missing_in.Goals as goal

pub loop-element-preserved : goal.loop-element-preserved
loop-element-preserved c =
    let vs = c.as_slice-element-items.result.now in
    let i = c.loop-element.element-index in
    let v = c.element-item.result in
    let new = c.remove-was_given.new.self in
    subst (λ ds. HasMissing new ds c.args.values.now) (sym (one_value vs i v c.loop-element-test.true c.element-item.is))
    (lost c.loop-element.missing new (view v) (map view (take i vs)) c.args.values.now c.remove-was_given.ensures.updates c.loop-element.invariant)
