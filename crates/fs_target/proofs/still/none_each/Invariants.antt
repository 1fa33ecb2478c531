use Rattle.std.proofs.Common.{◌≡◌}
use Rattle.fs_target.specs.Still.{nones}
use Rattle.fs_target.proofs.still.none_each.Given as goal

abbrev pub invariant-loop : goal.invariant-loop
invariant-loop l = l.positions.items ≡ nones l.positions.items
