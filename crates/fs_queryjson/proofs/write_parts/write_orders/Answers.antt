use Rattle.fs_json.proofs.Writings.{all_next, written_next}
use Rattle.fs_queryjson.specs.Order.{order_json}
use Rattle.fs_queryjson.specs.Held.{IsOrderHeld}
use Rattle.fs_queryjson.proofs.write_parts.write_orders.Goals as goal

pub loop-order-preserved : goal.loop-order-preserved
loop-order-preserved c =
    let xs = c.args.orders.now in
    let l = c.loop-order in
    let x = c.order-item.result in
    let one = c.in_ok-write_order.ensures in
    rw c.in_ok-push.ensures.items (record {
      written = written_next order_json l.items.items c.in_ok-write_order.field-0 xs l.order-index x c.loop-order-test.true c.order-item.is l.invariant.written one.value;
      held = all_next IsOrderHeld xs l.order-index x c.loop-order-test.true c.order-item.is l.invariant.held one.held;
    })
