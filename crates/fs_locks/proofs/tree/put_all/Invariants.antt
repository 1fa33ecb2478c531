use Rattle.std.proofs.Common.{take}
use Rattle.fs_locks.specs.Tree.{HasMore}
use Rattle.fs_locks.proofs.tree.put_all.Given as goal

-- those so far are in
abbrev pub invariant-loop-name : goal.invariant-loop-name
invariant-loop-name l = HasMore l.initial.tree.entries l.tree.entries l.id (take l.name-index l.names)
