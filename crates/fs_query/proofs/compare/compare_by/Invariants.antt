use Rattle.std.proofs.Common.{◌≡◌, drop}
use Rattle.fs_query.specs.DocumentOrder.{orders_cmp}
use Rattle.fs_query.proofs.compare.compare_by.Given as goal

-- the orders so far tell the two not apart, so the rest decides
abbrev pub invariant-loop-order : goal.invariant-loop-order
invariant-loop-order l = orders_cmp l.orders l.a l.b ≡ orders_cmp (drop l.order-index l.orders) l.a l.b
