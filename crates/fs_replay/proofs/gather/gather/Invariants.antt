use Rattle.std.proofs.Common.{◌≡◌, ◌-◌, ◌≤◌, vec_len}
use Rattle.fs_replay.specs.Limits.{longest_input}
use Rattle.fs_replay.specs.Moved.{Taken}
use Rattle.fs_replay.specs.declared.limits.TheConstants.{PIECE}
use Rattle.fs_replay.proofs.gather.gather.Given as goal

-- what was taken so far, in a buffer that keeps its size
abbrev pub invariant-loop-bytes : goal.invariant-loop-bytes
invariant-loop-bytes g l = record {
  taken : Taken (g.S.Source.left l.fn.source) (g.S.Source.left l.source) l.bytes.items;
  faults : g.S.Source.faults l.source ≡ g.S.Source.faults l.fn.source;
  ends : g.S.Source.ends l.source ≡ g.S.Source.ends l.fn.source;
  within : vec_len l.bytes ≤ longest_input;
  buffer : vec_len l.buffer ≡ PIECE;
}

abbrev pub decreases-loop-bytes : goal.decreases-loop-bytes
decreases-loop-bytes g l = longest_input - vec_len l.bytes
