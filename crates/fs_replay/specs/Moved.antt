-- What went from a source and into a sink, where they tell.
use Rattle.std.specs.Prelude.{◌≡◌, ℕ, ◌≤◌, List, ◌++◌, length, take, Option, Some, option_map}

-- What was left is these bytes, which were taken, and then what is left.
abbrev pub Taken : Option (List ℕ) → Option (List ℕ) → List ℕ → Type 0
Taken before after bytes = before ≡ option_map (λ rest. bytes ++ rest) after

-- Some bytes were taken, and no more than so many.
abbrev pub TakenUpTo : ℕ → Option (List ℕ) → Option (List ℕ) → Type 0
TakenUpTo most before after = (bytes : List ℕ) × Taken before after bytes × (length bytes ≤ most)

-- A fact of the bytes that were taken from a source that tells.
abbrev pub IfTaken : Option (List ℕ) → Option (List ℕ) → (List ℕ → Type 0) → Type 0
IfTaken before after P = (taken rest : List ℕ) → before ≡ Some (taken ++ rest) → after ≡ Some rest → P taken

-- The sink has gained these bytes and no others.
abbrev pub Gained : Option (List ℕ) → Option (List ℕ) → List ℕ → Type 0
Gained before after bytes = after ≡ option_map (λ had. had ++ bytes) before

-- The sink has gained some front of these bytes, and nothing else.
abbrev pub GainedFront : Option (List ℕ) → Option (List ℕ) → List ℕ → Type 0
GainedFront before after bytes = (n : ℕ) × Gained before after (take n bytes)
