use Rattle.std.proofs.Common.{take}
use Rattle.std.specs.Prelude.{IsTrue}
use Rattle.std.specs.List.{list_any}
use Rattle.fs_locks.specs.Holds.{IsLeastOther}
use Rattle.fs_locks.specs.Tree.{held}
use Rattle.fs_locks.proofs.tree.first_among.Given as goal

-- the least other id of those that hold one of the names so far
abbrev pub invariant-loop-name : goal.invariant-loop-name
invariant-loop-name l = IsLeastOther (λ i. IsTrue (list_any (held l.tree.entries i) (take l.name-index l.names))) l.by l.first
