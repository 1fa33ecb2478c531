-- Lists of what passes a test.
use Rattle.std.proofs.Common.{◌≡◌, Bool, true, false, cond, List, [], ◌∷◌, refl, ap, ◌∙◌}
use Rattle.std.specs.Prelude.{◌&&◌}
use Rattle.std.specs.List.{AllByRecursion, filter}

-- ---- one test and another

module _ {X : Type 0} (p q : X → Bool) where
  pub filter_twice : (xs : List X) → filter p (filter q xs) ≡ filter (λ x. q x && p x) xs
  filter_twice [] = refl
  filter_twice (x ∷ xs) = by_test (q x) (filter_twice xs) where
    by_test : (passes : Bool) → filter p (filter q xs) ≡ filter (λ y. q y && p y) xs
        → filter p (cond passes (x ∷ filter q xs) (filter q xs)) ≡ cond (passes && p x) (x ∷ filter (λ y. q y && p y) xs) (filter (λ y. q y && p y) xs)
    by_test true rest = ap (λ ys. cond (p x) (x ∷ ys) ys) rest
    by_test false rest = rest

  -- tests that tell the same of each tell the same of all
  pub filter_alike : (xs : List X) → AllByRecursion (λ x. p x ≡ q x) xs → filter p xs ≡ filter q xs
  filter_alike [] same = refl
  filter_alike (x ∷ xs) same = (λ i. cond (same.0 i) (x ∷ filter_alike xs same.1 i) (filter_alike xs same.1 i))

module _ {X : Type 0} (p : X → Bool) where
  pub filter_all : (xs : List X) → AllByRecursion (λ x. p x ≡ true) xs → filter p xs ≡ xs
  filter_all [] pass = refl
  filter_all (x ∷ xs) pass = (λ i. cond (pass.0 i) (x ∷ filter p xs) (filter p xs)) ∙ ap (λ ys. x ∷ ys) (filter_all xs pass.1)

  pub filter_none : (xs : List X) → AllByRecursion (λ x. p x ≡ false) xs → filter p xs ≡ []
  filter_none [] none = refl
  filter_none (x ∷ xs) none = (λ i. cond (none.0 i) (x ∷ filter p xs) (filter p xs)) ∙ filter_none xs none.1
