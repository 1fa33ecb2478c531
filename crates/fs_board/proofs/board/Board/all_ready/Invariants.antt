use Rattle.std.proofs.Common.{◌≡◌, ◌++◌, map}
use Rattle.fs_board.specs.Board.{posted, all_ready}
use Rattle.fs_board.proofs.board.Board.all_ready.Given as goal

-- what the commits so far have and bring, and then what is ready of those that are left, is the whole
abbrev pub invariant-loop-entry : goal.invariant-loop-entry
invariant-loop-entry g l = map (λ r. (r.0.now, r.1.now)) l.ready.items ++ all_ready (posted l.entry-iterator) ≡ all_ready (posted l.initial.entry-iterator)
