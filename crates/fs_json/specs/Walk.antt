-- How lists in a request are walked: each item is read at its place, and the first that is at fault ends the walk.
use Rattle.std.specs.Prelude.{ℕ, ◌+◌, List, [], ◌∷◌, Result, Ok}
use Rattle.fs_path.specs.Place.{item_place}
use Rattle.fs_path.specs.declared.place.Rule.TheVariants.{G}
use Rattle.serde_json.specs.Data.{Data, Items, no_items, item}
use Rattle.serde_json.specs.Find.{as_array}
use Rattle.fs_json.specs.Answer.{or_fault, ◌>>=◌}
use Rattle.fs_json.specs.declared.bad.Bad.{Bad}

-- the items from this number on, each as this reader has it
abbrev pub each_at : {A : Type 0} → (Data → List ℕ → Result A Bad) → Items → ℕ → List ℕ → Result (List A) Bad
each_at read no_items i place = Ok []
each_at read (item d ds) i place = read d (item_place place i) >>= λ x. each_at read ds (i + 1) place >>= λ xs. Ok (x ∷ xs)

-- a list
abbrev pub all_at : {A : Type 0} → (Data → List ℕ → Result A Bad) → Data → List ℕ → Result (List A) Bad
all_at read d place = or_fault G place (as_array d) >>= λ items. each_at read items 0 place
