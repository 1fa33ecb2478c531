use Rattle.std.proofs.Common.{◌≡◌, ◌++◌}
use Rattle.fs_write.proofs.StageChanges.{changes_in}
use Rattle.fs_write.proofs.batch.changes_of.Given as goal

-- the changes so far, and then those of what is left, are the whole
abbrev pub invariant-loop-name : goal.invariant-loop-name
invariant-loop-name l = l.changes ++ changes_in l.name-iterator ≡ changes_in l.initial.name-iterator
