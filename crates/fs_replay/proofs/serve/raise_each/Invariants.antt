use Rattle.std.proofs.Common.{◌≡◌, drop}
use Rattle.fs_replay.specs.Settling.{raises_each}
use Rattle.fs_replay.proofs.Playing.{Goes}
use Rattle.fs_replay.proofs.serve.raise_each.Given as goal

-- the sessions so far, and those that are left
abbrev pub invariant-loop-place : goal.invariant-loop-place
invariant-loop-place l = record {
  goes : Goes (raises_each l.fn.state.directory l.fn.state) l.fn.out.items l.out.items (raises_each (drop l.place l.fn.state.directory) l.state);
  same : l.state.directory ≡ l.fn.state.directory;
}
