use Rattle.std.proofs.Common.{length}
use Rattle.std.specs.Option.{option_copied}
use Rattle.fs_path.specs.Cursor.{rest_segments}
use Rattle.fs_locks.proofs.Above.{Climbed}
use Rattle.fs_locks.proofs.parents.Parents.first_above.Given as goal

-- the least other id of those below what was passed
abbrev pub invariant-loop-rest : goal.invariant-loop-rest
invariant-loop-rest l = Climbed l.self l.by (rest_segments (option_copied l.path)) (rest_segments (option_copied l.rest)) l.first

abbrev pub decreases-loop-rest : goal.decreases-loop-rest
decreases-loop-rest l = length (rest_segments (option_copied l.rest))
