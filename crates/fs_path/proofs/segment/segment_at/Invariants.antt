use Rattle.std.proofs.Common.{◌≡◌, ◌≤◌, drop}
use Rattle.std.specs.Option.{option_copied}
use Rattle.fs_path.specs.Cursor.{rest_segments, left}
use Rattle.fs_path.proofs.segment.segment_at.Given as goal

-- so many segments are passed, and the others are left
abbrev pub invariant-loop-rest : goal.invariant-loop-rest
invariant-loop-rest l = record {
  rest : rest_segments (option_copied l.rest) ≡ drop l.passed (rest_segments (option_copied l.path));
  before : l.passed ≤ l.i;
}

abbrev pub decreases-loop-rest : goal.decreases-loop-rest
decreases-loop-rest l = left (option_copied l.rest)
