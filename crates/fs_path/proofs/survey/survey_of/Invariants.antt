use Rattle.std.proofs.Common.{◌≡◌, ◌+◌, ◌≤◌}
use Rattle.std.specs.Option.{option_copied}
use Rattle.fs_path.specs.Cursor.{rest_segments, left}
use Rattle.fs_path.specs.Findings.{findings}
use Rattle.fs_path.proofs.Surveyed.{surveyed}
use Rattle.fs_path.proofs.survey.survey_of.Given as goal

-- what the rest adds makes the whole
abbrev pub invariant-loop-rest : goal.invariant-loop-rest
invariant-loop-rest l = record {
  seen : surveyed l.seen (rest_segments (option_copied l.rest)) ≡ findings (rest_segments (option_copied l.ids));
  count : l.seen.count + left (option_copied l.rest) ≤ left (option_copied l.ids);
}

abbrev pub decreases-loop-rest : goal.decreases-loop-rest
decreases-loop-rest l = left (option_copied l.rest)
