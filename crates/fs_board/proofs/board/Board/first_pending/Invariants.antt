use Rattle.std.proofs.Common.{◌≡◌}
use Rattle.fs_board.specs.Board.{posted}
use Rattle.fs_board.specs.Held.{first_pending_in}
use Rattle.fs_board.proofs.board.Board.first_pending.Given as goal

-- none is pending before those that are left
abbrev pub invariant-loop-time : goal.invariant-loop-time
invariant-loop-time g l = first_pending_in (posted l.time-iterator) ≡ first_pending_in (posted l.initial.time-iterator)
