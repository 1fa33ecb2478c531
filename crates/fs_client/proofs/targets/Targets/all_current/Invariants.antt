use Rattle.std.proofs.Common.{◌≡◌}
use Rattle.fs_client.proofs.Walks.{all_in}
use Rattle.fs_client.proofs.targets.Targets.all_current.Given as goal

-- all before those that are left are
abbrev pub invariant-loop-listened : goal.invariant-loop-listened
invariant-loop-listened l = all_in l.listened-iterator ≡ all_in l.initial.listened-iterator
