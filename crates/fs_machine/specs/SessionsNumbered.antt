-- Always: the numbers of sessions rise in the order of opening, and each was given: so no two sessions have one, and none has that
-- of the next.
use Rattle.std.specs.Prelude.{ℕ, ◌+◌, ◌≤◌, List, [], ◌∷◌, map}
use Rattle.fs_machine.specs.declared.session.Session.{Session}

-- they rise, from one on and below another
abbrev pub NumbersRise : ℕ → ℕ → List ℕ → Type 0
NumbersRise from to [] = from ≤ to
NumbersRise from to (n ∷ ns) = (from ≤ n) × NumbersRise (n + 1) to ns

abbrev pub SessionsNumbered : List Session → ℕ → Type 0
SessionsNumbered ss given = NumbersRise 0 given (map (λ s. s.number) ss)
