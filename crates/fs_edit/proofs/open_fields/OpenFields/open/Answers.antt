use Rattle.std.proofs.Common.{length, ap, sym, ◌∙◌, subst, map, arith}
use Rattle.std.specs.Prelude.{IsTrue}
use Rattle.std.specs.FinMap.{is_sorted}
use Rattle.std.specs.Vec.Iter.{into_iter_items}
use Rattle.fs_path.specs.TextOrder.{text_cmp}
use Rattle.fs_value.specs.View.{field_view}
use Rattle.fs_edit.proofs.Entries.{moved_more}
use Rattle.fs_edit.proofs.open_fields.OpenFields.open.Goals as goal

pub loop-key-preserved : goal.loop-key-preserved
loop-key-preserved c =
    let at = c.loop-key in
    let begun = c.into_iter-key-iterator.ensures.into_iter_gives.0 in
    let steps = c.in-Some.ensures.steps in
    let vec = c.into_vec-key-items.ensures in
    let rise : IsTrue (is_sorted text_cmp (map field_view (into_iter_items c.into_iter-key-iterator.result))) =
    subst (λ xs. IsTrue (is_sorted text_cmp xs)) (sym (ap (map field_view) begun ∙ vec.value)) vec.rise in
    record {
      moved = moved_more at.opened c.put.new.self (into_iter_items at.key-iterator) (into_iter_items c.next.new.self) c.in-Some.field-0.key c.in-Some.field-0.value _ rise at.invariant.moved steps.0 c.in_ok-put.ensures;
      left = omega (arith, ap length steps.0, steps.1, at.invariant.left);
    }
