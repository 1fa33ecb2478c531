use Rattle.std.proofs.Common.{◌≡◌}
use Rattle.fs_board.specs.Board.{posted}
use Rattle.fs_locks.specs.Holds.{lesser_of}
use Rattle.fs_machine.specs.Behind.{least}
use Rattle.fs_machine.specs.Past.{batches}
use Rattle.fs_past.specs.Kept.{all_unreleased}
use Rattle.fs_past.specs.Touching.{numbers_since}
use Rattle.fs_past.proofs.touching.first_on_board.Given as goal

-- the least so far, and of those that are left, is that of all
abbrev pub invariant-loop-entry : goal.invariant-loop-entry
invariant-loop-entry l =
    lesser_of l.first (least (numbers_since l.time l.reads (batches (all_unreleased (posted l.entry-iterator)))))
    ≡ least (numbers_since l.time l.reads (batches (all_unreleased (posted l.initial.entry-iterator))))
