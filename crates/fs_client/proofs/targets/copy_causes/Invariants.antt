use Rattle.std.proofs.Common.{◌≡◌, ◌++◌}
use Rattle.fs_client.proofs.targets.copy_causes.Given as goal

-- the copies, and then what is left, are the whole
abbrev pub invariant-loop-id : goal.invariant-loop-id
invariant-loop-id l = l.copy.entries ++ l.id-iterator ≡ l.initial.id-iterator
