use Rattle.std.proofs.Common.{◌≡◌, get_or}
use Rattle.fs_replay.specs.Settling.{loads_of, unloaded_count}
use Rattle.fs_replay.specs.declared.directory.Named.{Named}
use Rattle.fs_replay.proofs.Playing.{Goes}
use Rattle.fs_replay.proofs.serve.load_at.Given as goal

-- the targets so far, and those that are left
abbrev pub invariant-targets : goal.invariant-targets
invariant-targets l = record {
  goes : (n : Named) → Goes (loads_of (get_or l.fn.state.directory l.place n) l.fn.state) l.fn.out.items l.out.items (loads_of (get_or l.fn.state.directory l.place n) l.state);
  same : l.state.directory ≡ l.fn.state.directory;
}

abbrev pub decreases-targets : goal.decreases-targets
decreases-targets l = unloaded_count l.state.server l.session
