-- In an order by which what is related stands side by side, two of a list are related exactly where two neighbours are: so
-- that whoever sorts has to compare each with the next alone.
use Rattle.std.proofs.Common.{◌≡◌, suc, ◌+◌, Bool, true, false, List, [], ◌∷◌, get_or, refl, sym, ap, ◌∙◌, subst, arith}
use Rattle.std.specs.Prelude.{◌||◌}
use Rattle.std.specs.Cmp.{IsTotalOrder}
use Rattle.std.specs.List.{list_any, IsDistinct, AllByRecursion}
use Rattle.std.specs.List.Sorted.{IsPermutation, IsSorted}
use Rattle.std.specs.Ordering.{is_gt, is_lt}
use Rattle.std.specs.declared.cmp.Ordering.{Ordering}
use Rattle.std.proofs.lemmas.Bool.{or_parts, or_from}
use Rattle.std.proofs.lemmas.Cmp.{upto}
use Rattle.std.proofs.lemmas.List.Sorted.{IsPermutation-sym}
use Rattle.std.proofs.lemmas.Map.Keys.{IsDistinct-IsPermutation}
use Rattle.fs_path.specs.Related.{some_related, neighbours_related}
use Rattle.fs_path.proofs.Bools.{fail_alike, or_within}
use Rattle.fs_path.proofs.Orders.{not_after}

-- ---- whatever their order

module _ {X : Type 0} (r : X → X → Bool) where
  none_from : (x : X) (xs : List X) → list_any (r x) xs ≡ false → AllByRecursion (λ y. r x y ≡ false) xs
  none_from x [] h = tt
  none_from x (y ∷ ys) h = let both = or_parts (r x y) (list_any (r x) ys) h in (both.0, none_from x ys both.1)

  none_to : (x : X) (xs : List X) → AllByRecursion (λ y. r x y ≡ false) xs → list_any (r x) xs ≡ false
  none_to x [] h = refl
  none_to x (y ∷ ys) h = or_from (r x y) (list_any (r x) ys) h.0 (none_to x ys h.1)

  distinct_from : (xs : List X) → some_related r xs ≡ false → IsDistinct r xs
  unfolding IsDistinct
  distinct_from [] h = tt
  distinct_from (x ∷ xs) h = let both = or_parts (list_any (r x) xs) (some_related r xs) h in (none_from x xs both.0, distinct_from xs both.1)

  distinct_to : (xs : List X) → IsDistinct r xs → some_related r xs ≡ false
  unfolding IsDistinct
  distinct_to [] h = refl
  distinct_to (x ∷ xs) h = or_from (list_any (r x) xs) (some_related r xs) (none_to x xs h.0) (distinct_to xs h.1)

  permuted : ((x y : X) → r x y ≡ r y x) → (xs ys : List X) → IsPermutation xs ys → some_related r xs ≡ some_related r ys
  permuted flips xs ys moved =
      fail_alike (some_related r xs) (some_related r ys)
      (λ h. distinct_to ys (IsDistinct-IsPermutation r flips xs ys moved (distinct_from xs h)))
      (λ h. distinct_to xs (IsDistinct-IsPermutation r flips ys xs (IsPermutation-sym xs ys moved) (distinct_from ys h)))

-- ---- where they stand in order

module _ {X : Type 0} (cmp : X → X → Ordering) (total : IsTotalOrder cmp) where
  -- none is after the next
  Rise : List X → Type 0
  Rise [] = Unit {0}
  Rise (x ∷ []) = Unit {0}
  Rise (x ∷ y ∷ xs) = (is_gt (cmp x y) ≡ false) × Rise (y ∷ xs)

  next_rises : (x y : X) → is_lt (cmp y x) ≡ false → is_gt (cmp x y) ≡ false
  next_rises x y h = not_after (cmp x y) (subst (λ o. is_lt o ≡ false) (total.antisymm y x) h)

  rest_rises : (x : X) (xs : List X) → IsSorted cmp (x ∷ xs) → IsSorted cmp xs
  rest_rises x xs h k d low high =
      let e : suc k + 1 ≡ suc (k + 1) = omega arith in
      subst (λ n. is_lt (cmp (get_or (x ∷ xs) n d) (get_or xs k d)) ≡ false) e (h (suc k) d (omega arith) (omega arith))

  rises : (xs : List X) → IsSorted cmp xs → Rise xs
  unfolding Rise
  rises [] h = tt
  rises (x ∷ []) h = tt
  rises (x ∷ y ∷ xs) h = (next_rises x y (h 0 x (omega arith) (omega arith)), rises (y ∷ xs) (rest_rises x (y ∷ xs) h))

  module _ (r : X → X → Bool) (between : (x y z : X) → is_gt (cmp x y) ≡ false → is_gt (cmp y z) ≡ false → r x z ≡ true → r x y ≡ true) where
    -- what is related to a later one is related to the next
    next_related : (x y : X) (xs : List X) → is_gt (cmp x y) ≡ false → Rise (y ∷ xs) → list_any (r x) xs ≡ true → r x y ≡ true
    unfolding Rise
    next_related x y [] g up h = absurd (cc)
    next_related x y (z ∷ xs) g up h =
        let further : is_gt (cmp x z) ≡ false = upto total x y z g up.0 in
        between x y z g up.0 (sym (or_within (r x z) (list_any (r x) xs) (next_related x z xs further up.1)) ∙ h)

    by_neighbours : (xs : List X) → Rise xs → some_related r xs ≡ neighbours_related r xs
    unfolding Rise
    by_neighbours [] up = refl
    by_neighbours (x ∷ []) up = refl
    by_neighbours (x ∷ y ∷ xs) up =
        ap (λ b. b || some_related r (y ∷ xs)) (or_within (r x y) (list_any (r x) xs) (next_related x y xs up.0 up.1))
        ∙ ap (λ b. r x y || b) (by_neighbours (y ∷ xs) up.1)

    pub neighbours_tell : ((x y : X) → r x y ≡ r y x) → (xs sorted : List X) → IsPermutation xs sorted → IsSorted cmp sorted → neighbours_related r sorted ≡ some_related r xs
    neighbours_tell flips xs sorted moved up = sym (by_neighbours sorted (rises sorted up)) ∙ sym (permuted r flips xs sorted moved)
