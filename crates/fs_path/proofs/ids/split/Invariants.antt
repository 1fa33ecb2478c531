use Rattle.std.proofs.Common.{◌≡◌, ◌++◌}
use Rattle.std.specs.Option.{option_copied}
use Rattle.fs_path.specs.Cursor.{rest_segments, left}
use Rattle.fs_path.proofs.ids.split.Given as goal

-- the ids so far, and those that are left
abbrev pub invariant-loop-rest : goal.invariant-loop-rest
invariant-loop-rest l = l.items.items ++ rest_segments (option_copied l.rest) ≡ rest_segments (option_copied l.path)

abbrev pub decreases-loop-rest : goal.decreases-loop-rest
decreases-loop-rest l = left (option_copied l.rest)
