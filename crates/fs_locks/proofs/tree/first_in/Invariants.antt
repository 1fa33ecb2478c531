use Rattle.fs_locks.proofs.Searching.{Walked}
use Rattle.fs_locks.proofs.tree.first_in.Given as goal

abbrev pub invariant-loop-name : goal.invariant-loop-name
invariant-loop-name l = Walked l.scope l.by l.tree.entries l.name-iterator l.first
