use Rattle.std.proofs.Common.{◌≡◌, ◌+◌, ◌≤◌, ◌++◌, vec_len, vec_capacity}
use Rattle.std.specs.Prelude.{reverse}
use Rattle.fs_target.proofs.staged.set_aside.Given as goal

abbrev pub invariant-loop-staged : goal.invariant-loop-staged
invariant-loop-staged l = record {
  whole : l.staged.items ++ reverse l.aside.items ≡ l.initial.staged.items ++ reverse l.initial.aside.items;
  len : vec_len l.staged + vec_len l.aside ≡ vec_len l.initial.staged + vec_len l.initial.aside;
  capacity : vec_capacity l.initial.staged ≤ vec_capacity l.staged;
}

abbrev pub decreases-loop-staged : goal.decreases-loop-staged
decreases-loop-staged l = vec_len l.staged
