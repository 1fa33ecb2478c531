use Rattle.std.proofs.Common.{◌≡◌, drop}
use Rattle.fs_locks.specs.Holds.{lesser_of}
use Rattle.fs_machine.specs.Behind.{least}
use Rattle.fs_past.specs.Touching.{numbers_since}
use Rattle.fs_past.proofs.touching.first_in_journal.Given as goal

-- the least so far, and of those that are left, is that of all
abbrev pub invariant-loop-later : goal.invariant-loop-later
invariant-loop-later l = lesser_of l.first (least (numbers_since l.time l.reads (drop l.later l.journal.history))) ≡ least (numbers_since l.time l.reads l.journal.history)
