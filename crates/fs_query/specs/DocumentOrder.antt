-- The order of documents by the fields of a query: the first field at which two differ decides, the other way round where
-- it descends. Ordered by b descending, and then by their names, {b: 2} of c/x, {b: 1} of c/a and {b: 1} of c/d stand in
-- the order c/x, c/d, c/a: the name takes the direction of b.
-- (Cloud Firestore documentation, "Order and limit data".)
use Rattle.std.specs.Prelude.{Bool, List, [], ◌∷◌, Option, if◌then◌else◌}
use Rattle.std.specs.Option.{option_cmp}
use Rattle.std.specs.Ordering.{ordering_then, ordering_reverse}
use Rattle.std.specs.declared.cmp.Ordering.{Ordering}
use Rattle.std.specs.declared.cmp.Ordering.TheVariants.{Equal}
use Rattle.fs_value.specs.Data.{Data}
use Rattle.fs_value.specs.ValueOrder.{value_cmp}
use Rattle.fs_value.specs.declared.document.Document.{Document}
use Rattle.fs_query.specs.Field.{value_at}
use Rattle.fs_query.specs.declared.order.Order.{Order}

abbrev pub turned : Bool → Ordering → Ordering
turned descending o = if descending then ordering_reverse o else o

-- what is absent comes first. Documents that fit have each field of their order
abbrev pub found_cmp : Option Data → Option Data → Ordering
found_cmp = option_cmp value_cmp

abbrev pub order_cmp : Order → Document → Document → Ordering
order_cmp o a b = turned o.descending (found_cmp (value_at o.path a) (value_at o.path b))

abbrev pub orders_cmp : List Order → Document → Document → Ordering
orders_cmp [] a b = Equal
orders_cmp (o ∷ os) a b = ordering_then (order_cmp o a b) (orders_cmp os a b)
