-- Tests of times, as crates above make them.
use Rattle.std.proofs.Common.{◌≡◌, ℤ, ◌≤ℤ◌, ◌<ℤ◌, true, false, arith}
use Rattle.std.specs.Prelude.{int_le}
use Rattle.std.proofs.lemmas.Int.{ints}

pub not_after : (s t : ℤ) → s ≤ℤ t → int_le s t ≡ true
not_after s t h = grind (arith, ints)

pub after : (s t : ℤ) → t <ℤ s → int_le s t ≡ false
after s t h = grind (arith, ints)

pub at_most : (s t : ℤ) → int_le s t ≡ true → s ≤ℤ t
at_most s t h = grind (arith, ints)

pub above : (s t : ℤ) → int_le s t ≡ false → t <ℤ s
above s t h = grind (arith, ints)

pub not_after_later : (s t u : ℤ) → int_le s t ≡ true → t ≤ℤ u → int_le s u ≡ true
not_after_later s t u h later = grind (arith, ints)

pub through : (s t u : ℤ) → s ≤ℤ t → t ≤ℤ u → s ≤ℤ u
through s t u first rest = omega (arith, ints)
