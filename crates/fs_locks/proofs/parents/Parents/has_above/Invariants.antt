use Rattle.std.proofs.Common.{length}
use Rattle.std.specs.Option.{option_copied}
use Rattle.fs_path.specs.Cursor.{rest_segments}
use Rattle.fs_locks.proofs.Above.{Passed}
use Rattle.fs_locks.proofs.parents.Parents.has_above.Given as goal

-- the id holds nothing below what was passed
abbrev pub invariant-loop-rest : goal.invariant-loop-rest
invariant-loop-rest l = Passed l.self l.id (rest_segments (option_copied l.path)) (rest_segments (option_copied l.rest))

abbrev pub decreases-loop-rest : goal.decreases-loop-rest
decreases-loop-rest l = length (rest_segments (option_copied l.rest))
