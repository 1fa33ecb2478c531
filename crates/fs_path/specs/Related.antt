-- Whether two of a list are related, as two paths of a mask that overlap, and whether two neighbours are.
use Rattle.std.specs.Prelude.{Bool, false, ◌||◌, List, [], ◌∷◌}
use Rattle.std.specs.List.{list_any}

abbrev pub some_related : {X : Type 0} → (X → X → Bool) → List X → Bool
some_related r [] = false
some_related r (x ∷ xs) = list_any (r x) xs || some_related r xs

abbrev pub neighbours_related : {X : Type 0} → (X → X → Bool) → List X → Bool
neighbours_related r [] = false
neighbours_related r (x ∷ []) = false
neighbours_related r (x ∷ y ∷ xs) = r x y || neighbours_related r (y ∷ xs)
