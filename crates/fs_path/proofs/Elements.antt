-- The elements of a list with one more in front: those and that one. Writes, queries and what lies above cite it.
use Rattle.std.proofs.Common.{suc, List, ◌∷◌, refl, arith}
use Rattle.std.specs.List.{Contains}

module _ {A : Type 0} (x : A) (xs : List A) where
  pub has_first : Contains (x ∷ xs) x
  has_first = (0, omega arith, refl)

  pub has_later : (y : A) → Contains xs y → Contains (x ∷ xs) y
  has_later y h = (suc h.0, omega (arith, h.1), h.2)
