use Rattle.std.proofs.Common.{sym}
use Rattle.fs_query.proofs.WholeOrdering.{last_is}
use Rattle.fs_query.proofs.whole_order.last_descending.Goals as goal

pub returns-in-Some : goal.returns-in-Some
returns-in-Some c = last_is c.args.orders.now c.in-Some.order.now (sym c.in-Some.ensures.value)
