-- The limits of queries.
-- (Cloud Firestore documentation, "Query operators": "Limits on OR queries", "not-in".)
use Rattle.std.specs.Prelude.{ℕ}

-- values that NOT_IN may have
abbrev pub max_not_in : ℕ
max_not_in = 10

-- disjuncts that a filter may have
abbrev pub max_disjuncts : ℕ
max_disjuncts = 30

-- no greater number of disjuncts is told (this project's own)
abbrev pub most_told : ℕ
most_told = 1000
