use Rattle.std.proofs.Common.{◌≡◌, take}
use Rattle.fs_path.specs.FieldOrder.{paths_at}
use Rattle.fs_query.specs.SortedPaths.{paths_of}
use Rattle.fs_query.proofs.joining.given_paths.Given as goal

-- the paths of the orders so far
abbrev pub invariant-loop-order : goal.invariant-loop-order
invariant-loop-order l = paths_at l.given.items ≡ paths_of (take l.order-index l.orders)
