use Rattle.std.proofs.Common.{◌≡◌, ◌++◌}
use Rattle.fs_rpc.proofs.distinct.in_order.Given as goal

-- the names so far, and then the rest, are all
abbrev pub invariant-loop-name : goal.invariant-loop-name
invariant-loop-name l = l.names.items ++ l.name-iterator ≡ l.initial.name-iterator
