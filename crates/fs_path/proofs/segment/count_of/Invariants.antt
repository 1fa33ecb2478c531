use Rattle.std.proofs.Common.{◌≡◌, ◌+◌, ◌≤◌, length}
use Rattle.std.specs.Option.{option_copied}
use Rattle.fs_path.specs.Cursor.{rest_segments, left}
use Rattle.fs_path.proofs.segment.count_of.Given as goal

-- the segments so far, and those that are left
abbrev pub invariant-loop-rest : goal.invariant-loop-rest
invariant-loop-rest l = record {
  whole : l.count + length (rest_segments (option_copied l.rest)) ≡ length (rest_segments (option_copied l.path));
  fits : l.count + left (option_copied l.rest) ≤ left (option_copied l.path);
}

abbrev pub decreases-loop-rest : goal.decreases-loop-rest
decreases-loop-rest l = left (option_copied l.rest)
