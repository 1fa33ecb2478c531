-- What of a list passes a test, and how many do. Where it is one at most, it is left alone, whatever goes or is told apart.
use Rattle.std.proofs.Common.{◌≡◌, ℕ, zero, suc, ◌+◌, ◌≤◌, Bool, true, false, cond, List, [], ◌∷◌, ◌++◌, Some, length, refl, sym, ap, ◌∙◌, arith}
use Rattle.std.specs.Prelude.{not, remove, slice_get}
use Rattle.std.specs.List.{filter}
use Rattle.std.proofs.lemmas.List.{nil_from_length}
use Rattle.std.proofs.lemmas.Option.{same_Some}
use Rattle.fs_machine.specs.Settle.{dropped_from, is_it, pending_in}
use Rattle.fs_machine.specs.StreamsHold.{one_if, tally}
use Rattle.fs_machine.specs.declared.unreleased.Unreleased.{Unreleased}

-- ---- counts

pub count_more : {X : Type 0} (p : X → Bool) (xs : List X) (x : X) → tally p (xs ++ x ∷ []) ≡ tally p xs + one_if (p x)
count_more p [] x = omega arith
count_more p (y ∷ xs) x = let more = count_more p xs x in omega (arith, more)

passing_next : {X : Type 0} (p : X → Bool) (x : X) (xs : List X) (b : Bool) → length (filter p xs) ≡ tally p xs → length (cond b (x ∷ filter p xs) (filter p xs)) ≡ one_if b + tally p xs
passing_next p x xs true rest = omega (arith, rest)
passing_next p x xs false rest = omega (arith, rest)

pub passing_count : {X : Type 0} (p : X → Bool) (xs : List X) → length (filter p xs) ≡ tally p xs
passing_count p [] = refl
passing_count p (x ∷ xs) = passing_next p x xs (p x) (passing_count p xs)

pub none_pass : {X : Type 0} (p : X → Bool) (xs : List X) → tally p xs ≡ 0 → filter p xs ≡ []
none_pass p xs none = nil_from_length (filter p xs) (passing_count p xs ∙ none)

-- ---- without one

-- the same list without one that stands in it
abbrev pub IsWithout : {X : Type 0} → X → List X → List X → Type 0
IsWithout {X} x xs ys = (front : List X) × (back : List X) × (xs ≡ front ++ x ∷ back) × (ys ≡ front ++ back)

pub without_place : {X : Type 0} (xs : List X) (place : ℕ) (x : X) → slice_get xs place ≡ Some x → IsWithout x xs (remove xs place)
without_place [] place x is = absurd (cc)
without_place (y ∷ xs) zero x is = ([], xs, ap (λ z. z ∷ xs) (same_Some y x is), refl)
without_place (y ∷ xs) (suc place) x is = let (front, back, all, rest) = without_place xs place x is in (y ∷ front, back, ap (λ zs. y ∷ zs) all, ap (λ zs. y ∷ zs) rest)

dropped_next : (id : ℕ) (v : Unreleased) (us : List Unreleased) (u : Unreleased) (b : Bool) → cond b (Some v) (pending_in id us) ≡ Some u → (pending_in id us ≡ Some u → IsWithout u us (dropped_from id us))
    → IsWithout u (v ∷ us) (cond b us (v ∷ dropped_from id us))
dropped_next id v us u true is more = ([], us, ap (λ z. z ∷ us) (same_Some v u is), refl)
dropped_next id v us u false is more = let (front, back, all, rest) = more is in (v ∷ front, back, ap (λ zs. v ∷ zs) all, ap (λ zs. v ∷ zs) rest)

pub without_dropped : (id : ℕ) (us : List Unreleased) (u : Unreleased) → pending_in id us ≡ Some u → IsWithout u us (dropped_from id us)
without_dropped id [] u is = absurd (cc)
without_dropped id (v ∷ us) u is = dropped_next id v us u (is_it id v) is (without_dropped id us u)

module _ {X : Type 0} (p : X → Bool) where
  count_between : (front back : List X) (x : X) → tally p (front ++ x ∷ back) ≡ tally p (front ++ back) + one_if (p x)
  count_between [] back x = omega arith
  count_between (y ∷ front) back x = let rest = count_between front back x in omega (arith, rest)

  pub count_without : (x : X) (xs ys : List X) → IsWithout x xs ys → tally p xs ≡ tally p ys + one_if (p x)
  count_without x xs ys (front, back, all, rest) = ap (tally p) all ∙ count_between front back x ∙ ap (λ zs. tally p zs + one_if (p x)) (sym rest)

  -- one that doesn't pass leaves those that do
  other_between : (front back : List X) (x : X) → p x ≡ false → filter p (front ++ x ∷ back) ≡ filter p (front ++ back)
  other_between [] back x is = ap (λ b. cond b (x ∷ filter p back) (filter p back)) is
  other_between (y ∷ front) back x is = ap (λ zs. cond (p y) (y ∷ zs) zs) (other_between front back x is)

  pub other_gone : (x : X) (xs ys : List X) → IsWithout x xs ys → p x ≡ false → filter p xs ≡ filter p ys
  other_gone x xs ys (front, back, all, rest) is = ap (filter p) all ∙ other_between front back x is ∙ ap (filter p) (sym rest)

  -- the one that passes
  only_next : (y x : X) (front back : List X) (b : Bool) → one_if b + tally p (front ++ back) ≡ 0 → (tally p (front ++ back) ≡ 0 → filter p (front ++ x ∷ back) ≡ x ∷ [])
      → cond b (y ∷ filter p (front ++ x ∷ back)) (filter p (front ++ x ∷ back)) ≡ x ∷ []
  only_next y x front back true none more = absurd (omega (arith, none))
  only_next y x front back false none more = more (omega (arith, none))

  only_between : (front back : List X) (x : X) → p x ≡ true → tally p (front ++ back) ≡ 0 → filter p (front ++ x ∷ back) ≡ x ∷ []
  only_between [] back x is none = ap (λ b. cond b (x ∷ filter p back) (filter p back)) is ∙ ap (λ zs. x ∷ zs) (none_pass p back none)
  only_between (y ∷ front) back x is none = only_next y x front back (p y) none (only_between front back x is)

  pub only_gone : (x : X) (xs ys : List X) → IsWithout x xs ys → p x ≡ true → tally p ys ≡ 0 → (filter p xs ≡ x ∷ []) × (filter p ys ≡ [])
  only_gone x xs ys (front, back, all, rest) is none = (ap (filter p) all ∙ only_between front back x is (ap (tally p) (sym rest) ∙ none), none_pass p ys none)

-- ---- in two parts

counts_next : {X : Type 0} (p q : X → Bool) (x : X) (xs : List X) (b : Bool) → tally p xs ≡ tally p (filter q xs) + tally p (filter (λ x. not (q x)) xs)
    → one_if (p x) + tally p xs ≡ tally p (cond b (x ∷ filter q xs) (filter q xs)) + tally p (cond (not b) (x ∷ filter (λ x. not (q x)) xs) (filter (λ x. not (q x)) xs))
counts_next p q x xs true rest = omega (arith, rest)
counts_next p q x xs false rest = omega (arith, rest)

pub count_parts : {X : Type 0} (p q : X → Bool) (xs : List X) → tally p xs ≡ tally p (filter q xs) + tally p (filter (λ x. not (q x)) xs)
count_parts p q [] = refl
count_parts p q (x ∷ xs) = counts_next p q x xs (q x) (count_parts p q xs)

pub both_nil : {X : Type 0} (xs ys : List X) → xs ++ ys ≡ [] → (xs ≡ []) × (ys ≡ [])
both_nil [] ys is = (refl, is)
both_nil (x ∷ xs) ys is = absurd (cc)

module _ {X : Type 0} (p q : X → Bool) where
  abbrev Parts : List X → Type 0
  Parts xs = filter p xs ≡ filter p (filter q xs) ++ filter p (filter (λ x. not (q x)) xs)

  behind : (x : X) (xs : List X) (b : Bool) → one_if b + tally p xs ≤ 1 → Parts xs
      → cond b (x ∷ filter p xs) (filter p xs) ≡ filter p (filter q xs) ++ cond b (x ∷ filter p (filter (λ x. not (q x)) xs)) (filter p (filter (λ x. not (q x)) xs))
  behind x xs true one rest =
      let none = none_pass p xs (omega (arith, one)) in
      let both = both_nil (filter p (filter q xs)) (filter p (filter (λ x. not (q x)) xs)) (sym rest ∙ none) in
      rw (none, both.0, both.1) refl
  behind x xs false one rest = rest

  before : (x : X) (xs : List X) (b : Bool) → Parts xs
      → cond b (x ∷ filter p xs) (filter p xs) ≡ cond b (x ∷ filter p (filter q xs)) (filter p (filter q xs)) ++ filter p (filter (λ x. not (q x)) xs)
  before x xs true rest = ap (λ zs. x ∷ zs) rest
  before x xs false rest = rest

  parts_next : (x : X) (xs : List X) (b : Bool) → one_if (p x) + tally p xs ≤ 1 → Parts xs
      → cond (p x) (x ∷ filter p xs) (filter p xs) ≡ filter p (cond b (x ∷ filter q xs) (filter q xs)) ++ filter p (cond (not b) (x ∷ filter (λ x. not (q x)) xs) (filter (λ x. not (q x)) xs))
  parts_next x xs true one rest = before x xs (p x) rest
  parts_next x xs false one rest = behind x xs (p x) one rest

  -- those that pass a second test, and those that don't, behind them
  pub in_parts : (xs : List X) → tally p xs ≤ 1 → Parts xs
  in_parts [] one = refl
  in_parts (x ∷ xs) one = parts_next x xs (q x) one (in_parts xs (omega (arith, one)))
