-- What a clock tells.
use Rattle.std.specs.Prelude.{◌≡◌, ℤ, List, [], ◌∷◌, Option, Some, None}

-- A clock that tells what it will tell goes through its moments in order, and tells the last of them again and again.
abbrev pub Tells : ℤ → Option (List ℤ) → Option (List ℤ) → Type 0
Tells now None after = after ≡ None
Tells now (Some []) after = ⊥
Tells now (Some (moment ∷ [])) after = (now ≡ moment) × (after ≡ Some (moment ∷ []))
Tells now (Some (moment ∷ next ∷ moments)) after = (now ≡ moment) × (after ≡ Some (next ∷ moments))
