use Rattle.std.proofs.Common.{◌≡◌, List, [], ◌∷◌, ◌++◌, Option, Some, None}
use Rattle.std.specs.Option.{option_map}
use Rattle.fs_board.specs.Board.{posted, all_ready}
use Rattle.fs_board.proofs.board.Board.only_ready.Given as goal

-- as a list, what was found
abbrev listed : {A : Type 0} → Option A → List A
listed None = []
listed (Some r) = r ∷ []

-- that, and then what is ready of those that are left, is the whole
abbrev pub invariant-loop-entry : goal.invariant-loop-entry
invariant-loop-entry g l = listed (option_map (λ r. (r.0.now, r.1.now)) l.found) ++ all_ready (posted l.entry-iterator) ≡ all_ready (posted l.initial.entry-iterator)
