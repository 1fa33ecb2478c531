use Rattle.fs_json.proofs.Writings.{on_ok_always}
use Rattle.fs_queryjson.proofs.Written.{one_filter, items_push, held_push}
use Rattle.fs_queryjson.proofs.write_filter.+write.Goals as goal

pub write_filter-returns-in_ok-write_compare-in-Field-clause-held : goal.write_filter-returns-in_ok-write_compare-in-Field-clause-held
write_filter-returns-in_ok-write_compare-in-Field-clause-held t c =
    let w = c.in_ok-write_compare-in-Field.ensures in
    rw c.in-Field.is (on_ok_always c.with_one.result (w.path, w.operand))

pub write_items-loop-filter-preserved : goal.write_items-loop-filter-preserved
write_items-loop-filter-preserved t c =
    let l = c.loop-filter in
    let one = one_filter c.as_slice-filter-items.result.now l.filter-index c.filter-item.result c.loop-filter-test.true c.filter-item.is in
    rw (c.in_ok-push.ensures.items, one) (record {
      written = items_push l.items.items c.in_ok-write_filter.field-0 _ _ l.invariant.written c.in_ok-write_filter.ensures.value;
      held = held_push _ _ l.invariant.held c.in_ok-write_filter.ensures.held;
    })
