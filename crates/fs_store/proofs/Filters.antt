-- What passes a test is a stretch of a list.
use Rattle.std.proofs.Common.{◌≡◌, ℕ, zero, suc, ◌-◌, ◌<◌, ◌≤◌, Bool, true, false, cond, List, [], ◌∷◌, length, take, drop, get_or, refl, sym, ap, ◌∙◌, arith}
use Rattle.std.specs.List.{filter}

module _ {X : Type 0} (p : X → Bool) where
  pub filter_none : (xs : List X) → ((k : ℕ) (d : X) → k < length xs → p (get_or xs k d) ≡ false) → filter p xs ≡ []
  filter_none [] none = refl
  filter_none (x ∷ xs) none =
      ap (λ b. cond b (x ∷ filter p xs) (filter p xs)) (none 0 x (omega arith)) ∙ filter_none xs (λ k d within. none (suc k) d (omega arith))

  pub filter_front : (n : ℕ) (xs : List X) → n ≤ length xs → ((k : ℕ) (d : X) → k < n → p (get_or xs k d) ≡ true)
      → ((k : ℕ) (d : X) → n ≤ k → k < length xs → p (get_or xs k d) ≡ false) → filter p xs ≡ take n xs
  filter_front zero xs short inside beyond = filter_none xs (λ k d within. beyond k d (omega arith) within)
  filter_front (suc n) [] short inside beyond = absurd (omega (arith, short))
  filter_front (suc n) (x ∷ xs) short inside beyond =
      ap (λ b. cond b (x ∷ filter p xs) (filter p xs)) (inside 0 x (omega arith))
      ∙ ap (λ ys. x ∷ ys) (filter_front n xs (omega (arith, short)) (λ k d below. inside (suc k) d (omega arith)) (λ k d behind within. beyond (suc k) d (omega arith) (omega arith)))

  pub filter_stretch : (m n : ℕ) (xs : List X) → m ≤ n → n ≤ length xs → ((k : ℕ) (d : X) → k < m → p (get_or xs k d) ≡ false)
      → ((k : ℕ) (d : X) → m ≤ k → k < n → p (get_or xs k d) ≡ true) → ((k : ℕ) (d : X) → n ≤ k → k < length xs → p (get_or xs k d) ≡ false)
      → filter p xs ≡ take (n - m) (drop m xs)
  filter_stretch zero n xs order short before inside beyond =
      let all : n - 0 ≡ n = omega arith in
      filter_front n xs short (λ k d below. inside k d (omega arith) below) beyond ∙ ap (λ j. take j xs) (sym all)
  filter_stretch (suc m) n [] order short before inside beyond = absurd (omega (arith, order, short))
  filter_stretch (suc m) n (x ∷ xs) order short before inside beyond =
      let size : n - 1 - m ≡ n - suc m = omega arith in
      ap (λ b. cond b (x ∷ filter p xs) (filter p xs)) (before 0 x (omega arith))
      ∙ filter_stretch m (n - 1) xs (omega (arith, order)) (omega (arith, short)) (λ k d below. before (suc k) d (omega arith)) (λ k d behind below. inside (suc k) d (omega arith) (omega arith)) (λ k d behind within. beyond (suc k) d (omega arith) (omega arith))
      ∙ ap (λ j. take j (drop m xs)) size

-- ---- one test and another

module _ {X : Type 0} (p q : X → Bool) where
  pub filter_alike : (xs : List X) → ((x : X) → p x ≡ q x) → filter p xs ≡ filter q xs
  filter_alike [] same = refl
  filter_alike (x ∷ xs) same = ap (λ b. cond b (x ∷ filter p xs) (filter p xs)) (same x) ∙ ap (λ ys. cond (q x) (x ∷ ys) ys) (filter_alike xs same)
