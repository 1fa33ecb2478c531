use Rattle.std.proofs.Common.{◌≡◌, map, take}
use Rattle.std.specs.List.{AllByRecursion}
use Rattle.serde_json.specs.View.{view as json}
use Rattle.fs_queryjson.specs.Order.{order_json}
use Rattle.fs_queryjson.specs.Held.{IsOrderHeld}
use Rattle.fs_queryjson.proofs.write_parts.write_orders.Given as goal

-- the orders so far are written
abbrev pub invariant-loop-order : goal.invariant-loop-order
invariant-loop-order l = record {
  written : map json l.items.items ≡ map order_json (take l.order-index l.orders);
  held : AllByRecursion IsOrderHeld (take l.order-index l.orders);
}
