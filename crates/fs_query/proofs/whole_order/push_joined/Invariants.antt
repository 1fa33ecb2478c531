use Rattle.std.proofs.Common.{◌≡◌, ◌++◌, map, take}
use Rattle.fs_path.specs.FieldOrder.{paths_at}
use Rattle.fs_query.specs.Normal.{joined}
use Rattle.fs_query.proofs.whole_order.push_joined.Given as goal

-- the orders by the paths so far are added
abbrev pub invariant-loop-path : goal.invariant-loop-path
invariant-loop-path l = l.orders ≡ l.initial.orders ++ map (joined l.q) (paths_at (take l.path-index l.paths))
