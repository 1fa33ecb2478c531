use Rattle.std.proofs.Common.{take}
use Rattle.fs_locks.specs.Tree.{HasLess}
use Rattle.fs_locks.proofs.tree.take_all.Given as goal

-- those so far are out
abbrev pub invariant-loop-name : goal.invariant-loop-name
invariant-loop-name l = HasLess l.initial.tree.entries l.tree.entries l.id (take l.name-index l.names)
