-- Rising lists: what is made of two of them is the same where each element that is in one alone makes nothing.
use Rattle.std.proofs.Common.{◌≡◌, false, ◌||◌, List, [], ◌∷◌, ◌++◌, map, refl, sym, ap, ◌∙◌, subst}
use Rattle.std.specs.Prelude.{IsTrue}
use Rattle.std.specs.Cmp.{IsTotalOrder, first_so, second_so}
use Rattle.std.specs.FinMap.{IsAntisymmetric, is_sorted}
use Rattle.std.specs.FinMap.Entries.{below_all}
use Rattle.std.specs.List.{AllByRecursion, flat_map, list_any}
use Rattle.std.specs.List.Sorted.{IsStrictlySortedBy}
use Rattle.std.specs.Ordering.{eq_by_cmp, is_eq, ordering_reverse}
use Rattle.std.specs.declared.cmp.Ordering.{Ordering}
use Rattle.std.specs.declared.cmp.Ordering.TheVariants.{Less, Equal, Greater}
use Rattle.fs_path.proofs.Orders.{less_is}

-- ---- keys in order

module _ {K X : Type 0} (R : K → K → Ordering) where
  below_keys : (x : K) (es : List (K × X)) → IsTrue (below_all R x es) → AllByRecursion (λ y. R x y ≡ Less) (map (λ (e : K × X). e.0) es)
  below_keys x [] below = tt
  below_keys x (e ∷ es) below = (less_is (R x e.0) (first_so _ _ below), below_keys x es (second_so _ _ below))

  pub rising_keys : (es : List (K × X)) → IsTrue (is_sorted R es) → IsStrictlySortedBy R (map (λ (e : K × X). e.0) es)
  unfolding IsStrictlySortedBy
  rising_keys [] rise = tt
  rising_keys (e ∷ es) rise = (below_keys e.0 es (first_so _ _ rise), rising_keys es (second_so _ _ rise))

-- ---- what is made of them

module _ {K A : Type 0} {R : K → K → Ordering} (o : IsTotalOrder R) (same : IsAntisymmetric R) (f : K → List A) where
  -- what isn't in ys makes nothing
  abbrev Only : List K → List K → Type 0
  Only ys xs = AllByRecursion (λ x. list_any (eq_by_cmp R x) ys ≡ false → f x ≡ []) xs

  only_all : (ys xs : List K) → ((x : K) → list_any (eq_by_cmp R x) ys ≡ false → f x ≡ []) → Only ys xs
  only_all ys [] each = tt
  only_all ys (x ∷ xs) each = (each x, only_all ys xs each)

  -- one before all of them isn't in them
  before_all : (x : K) (ys : List K) → AllByRecursion (λ y. R x y ≡ Less) ys → list_any (eq_by_cmp R x) ys ≡ false
  before_all x [] less = refl
  before_all x (y ∷ ys) less = (λ i. is_eq (less.0 i) || list_any (eq_by_cmp R x) ys) ∙ before_all x ys less.1

  behind_is : (x y : K) → R x y ≡ Less → eq_by_cmp R y x ≡ false
  behind_is x y less = ap is_eq (o.antisymm y x ∙ ap ordering_reverse less)

  -- nor are they in it
  without_first : (x : K) (xs ys : List K) → AllByRecursion (λ y. R x y ≡ Less) ys → Only (x ∷ xs) ys → Only xs ys
  without_first x xs [] less only = tt
  without_first x xs (y ∷ ys) less only =
      (λ none. only.0 ((λ i. behind_is x y less.0 i || list_any (eq_by_cmp R y) xs) ∙ none), without_first x xs ys less.1 only.1)

  less_through : (x y : K) (ys : List K) → R x y ≡ Less → AllByRecursion (λ z. R y z ≡ Less) ys → AllByRecursion (λ z. R x z ≡ Less) ys
  less_through x y [] less all = tt
  less_through x y (z ∷ ys) less all = (o.trans x y z less all.0, less_through x y ys less all.1)

  made_of_none : (ys : List K) → Only [] ys → flat_map f ys ≡ []
  made_of_none [] only = refl
  made_of_none (y ∷ ys) only = (λ i. only.0 refl i ++ made_of_none ys only.1 i)

  abbrev Alike : List K → List K → Type 0
  Alike xs ys = IsStrictlySortedBy R xs → IsStrictlySortedBy R ys → Only ys xs → Only xs ys → flat_map f xs ≡ flat_map f ys

  step : (x : K) (xs : List K) (y : K) (ys : List K) (order : Ordering) → R x y ≡ order
      → Alike xs (y ∷ ys) → Alike xs ys → Alike (x ∷ xs) ys → Alike (x ∷ xs) (y ∷ ys)
  unfolding IsStrictlySortedBy
  step x xs y ys Less is first both second rise rises only onlys =
      let below : AllByRecursion (λ z. R x z ≡ Less) (y ∷ ys) = (is, less_through x y ys is rises.0) in
      ap (λ zs. zs ++ flat_map f xs) (only.0 (before_all x (y ∷ ys) below))
      ∙ first rise.1 rises only.1 (without_first x xs (y ∷ ys) below onlys)
  step x xs y ys Greater is first both second rise rises only onlys =
      let less : R y x ≡ Less = o.antisymm y x ∙ ap ordering_reverse is in
      let below : AllByRecursion (λ z. R y z ≡ Less) (x ∷ xs) = (less, less_through y x xs less rise.0) in
      second rise rises.1 (without_first y ys (x ∷ xs) below only) onlys.1
      ∙ sym (ap (λ zs. zs ++ flat_map f ys) (onlys.0 (before_all y (x ∷ xs) below)))
  step x xs y ys Equal is first both second rise rises only onlys =
      let one = same x y is in
      (λ i. f (one i) ++ both rise.1 rises.1
      (without_first y ys xs (subst (λ z. AllByRecursion (λ w. R z w ≡ Less) xs) one rise.0) only.1)
      (without_first x xs ys (subst (λ z. AllByRecursion (λ w. R z w ≡ Less) ys) (sym one) rises.0) onlys.1) i)

  walk : (x : K) (xs : List K) → ((ys : List K) → Alike xs ys) → (ys : List K) → Alike (x ∷ xs) ys
  walk x xs again [] rise rises only onlys = made_of_none (x ∷ xs) only
  walk x xs again (y ∷ ys) rise rises only onlys = step x xs y ys (R x y) refl (again (y ∷ ys)) (again ys) (walk x xs again ys) rise rises only onlys

  made : (xs ys : List K) → Alike xs ys
  made [] ys rise rises only onlys = sym (made_of_none ys onlys)
  made (x ∷ xs) ys rise rises only onlys = walk x xs (made xs) ys rise rises only onlys

  pub made_alike : (xs ys : List K) → IsStrictlySortedBy R xs → IsStrictlySortedBy R ys
      → ((x : K) → list_any (eq_by_cmp R x) ys ≡ false → f x ≡ []) → ((x : K) → list_any (eq_by_cmp R x) xs ≡ false → f x ≡ [])
      → flat_map f xs ≡ flat_map f ys
  made_alike xs ys rise rises only onlys = made xs ys rise rises (only_all ys xs only) (only_all xs ys onlys)
