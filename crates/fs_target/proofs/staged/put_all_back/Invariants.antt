use Rattle.std.proofs.Common.{◌≡◌, ◌+◌, ◌≤◌, ◌++◌, vec_len, vec_capacity}
use Rattle.std.specs.Prelude.{reverse}
use Rattle.fs_target.proofs.staged.put_all_back.Given as goal

abbrev pub invariant-loop-aside : goal.invariant-loop-aside
invariant-loop-aside l = record {
  whole : l.staged.items ++ reverse l.aside.items ≡ l.initial.staged.items ++ reverse l.initial.aside.items;
  room : vec_len l.staged + vec_len l.aside ≤ vec_capacity l.staged;
}

abbrev pub decreases-loop-aside : goal.decreases-loop-aside
decreases-loop-aside l = vec_len l.aside
