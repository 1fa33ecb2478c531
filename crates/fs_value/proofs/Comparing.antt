-- Lists compared place by place.
use Rattle.std.proofs.Common.{◌≡◌, ℕ, zero, suc, ◌<◌, ◌+◌, Bool, true, false, List, [], ◌∷◌, drop, length, Option, Some, None, option_map, Ordering, Less, Equal, Greater, refl, sym, ap, ◌∙◌, subst, arith}
use Rattle.std.specs.Prelude.{min, not, ◌==◌, IsTrue, slice_get}
use Rattle.std.specs.Ordering.{nat_cmp, ordering_index, ordering_then, is_eq}
use Rattle.std.specs.Cmp.{Equal-is}
use Rattle.std.proofs.lemmas.Bool.Decides.{nat_tests}
use Rattle.std.proofs.lemmas.Cmp.{is_eq_index}
use Rattle.std.proofs.lemmas.Option.{same_Some}
use Rattle.fs_path.specs.TextOrder.{text_cmp}
use Rattle.fs_value.specs.Data.{Data, items_of, members_of}
use Rattle.fs_value.specs.ValueOrder.{value_cmp, items_cmp, members_cmp}

-- where the comparison at a place tells the two apart, it decides
pub then_apart : (o rest : Ordering) → not (ordering_index o == 1) ≡ true → ordering_then o rest ≡ o
then_apart Less rest h = refl
then_apart Equal rest h = absurd (cc)
then_apart Greater rest h = refl

-- and else the rest does
pub then_tied : (o rest : Ordering) → not (ordering_index o == 1) ≡ false → ordering_then o rest ≡ rest
then_tied Less rest h = absurd (cc)
then_tied Equal rest h = refl
then_tied Greater rest h = absurd (cc)

drop_next : {X : Type 0} (xs : List X) (i : ℕ) (x : X) → slice_get xs i ≡ Some x → drop i xs ≡ x ∷ drop (i + 1) xs
drop_next [] i x is = absurd (cc)
drop_next (y ∷ xs) zero x is = ap (λ z. z ∷ xs) (same_Some y x is)
drop_next (y ∷ xs) (suc i) x is =
    let e : suc i + 1 ≡ suc (i + 1) = omega arith in
    subst (λ (n : ℕ). drop i xs ≡ x ∷ drop n (y ∷ xs)) (sym e) (drop_next xs i x is)

keyed : {A B : Type 0} (o : Option (A × B)) (a : A) → option_map (λ p. p.0) o ≡ Some a → (b : B) × (o ≡ Some (a, b))
keyed None a e = absurd (cc)
keyed (Some p) a e = (p.1, λ i. Some (same_Some p.0 a e i, p.1))

paired : {A B : Type 0} (o : Option (A × B)) (a : A) (b : B) → option_map (λ p. p.0) o ≡ Some a → option_map (λ p. p.1) o ≡ Some b → o ≡ Some (a, b)
paired None a b e f = absurd (cc)
paired (Some p) a b e f = λ i. Some (same_Some p.0 a e i, same_Some p.1 b f i)

-- the comparison of two lists goes on at i
abbrev pub ItemsFrom : List Data → List Data → ℕ → Type 0
ItemsFrom xs ys i = items_cmp (items_of xs) (items_of ys) ≡ items_cmp (items_of (drop i xs)) (items_of (drop i ys))

abbrev pub MembersFrom : List (List ℕ × Data) → List (List ℕ × Data) → ℕ → Type 0
MembersFrom xs ys i = members_cmp (members_of xs) (members_of ys) ≡ members_cmp (members_of (drop i xs)) (members_of (drop i ys))

module _ (xs ys : List Data) (i : ℕ) (x y : Data) (o : Ordering) (from : ItemsFrom xs ys i) (p : slice_get xs i ≡ Some x) (q : slice_get ys i ≡ Some y) (is : o ≡ value_cmp x y) where
  items_step : items_cmp (items_of xs) (items_of ys) ≡ ordering_then o (items_cmp (items_of (drop (i + 1) xs)) (items_of (drop (i + 1) ys)))
  items_step =
      from
      ∙ (λ j. items_cmp (items_of (drop_next xs i x p j)) (items_of (drop_next ys i y q j)))
      ∙ ap (λ r. ordering_then r (items_cmp (items_of (drop (i + 1) xs)) (items_of (drop (i + 1) ys)))) (sym is)

  pub items_apart : not (ordering_index o == 1) ≡ true → o ≡ items_cmp (items_of xs) (items_of ys)
  items_apart h = sym (items_step ∙ then_apart o _ h)

  pub items_tied : not (ordering_index o == 1) ≡ false → ItemsFrom xs ys (i + 1)
  items_tied h = items_step ∙ then_tied o _ h

module _ (xs ys : List (List ℕ × Data)) (i : ℕ) (k l : List ℕ) (o : Ordering) (from : MembersFrom xs ys i)
    (p : option_map (λ f. f.0) (slice_get xs i) ≡ Some k) (q : option_map (λ f. f.0) (slice_get ys i) ≡ Some l) (is : o ≡ text_cmp k l) where
  -- the values under equal keys, and what comes after
  rest : Data → Data → Ordering
  rest x y = ordering_then (value_cmp x y) (members_cmp (members_of (drop (i + 1) xs)) (members_of (drop (i + 1) ys)))

  members_step : (x y : Data) → slice_get xs i ≡ Some (k, x) → slice_get ys i ≡ Some (l, y) → members_cmp (members_of xs) (members_of ys) ≡ ordering_then o (rest x y)
  unfolding rest
  members_step x y r s =
      from
      ∙ (λ j. members_cmp (members_of (drop_next xs i (k, x) r j)) (members_of (drop_next ys i (l, y) s j)))
      ∙ ap (λ r. ordering_then r (ordering_then (value_cmp x y) (members_cmp (members_of (drop (i + 1) xs)) (members_of (drop (i + 1) ys))))) (sym is)

  pub keys_apart : not (ordering_index o == 1) ≡ true → o ≡ members_cmp (members_of xs) (members_of ys)
  keys_apart h =
      let a = keyed (slice_get xs i) k p in
      let b = keyed (slice_get ys i) l q in
      sym (members_step a.0 b.0 a.1 b.1 ∙ then_apart o _ h)

  module _ (x y : Data) (v : Ordering) (alike : not (ordering_index o == 1) ≡ false) (r : option_map (λ f. f.1) (slice_get xs i) ≡ Some x) (s : option_map (λ f. f.1) (slice_get ys i) ≡ Some y) (means : v ≡ value_cmp x y) where
    values_step : members_cmp (members_of xs) (members_of ys) ≡ ordering_then v (members_cmp (members_of (drop (i + 1) xs)) (members_of (drop (i + 1) ys)))
    unfolding rest
    values_step =
        members_step x y (paired _ k x p r) (paired _ l y q s)
        ∙ then_tied o _ alike
        ∙ ap (λ w. ordering_then w (members_cmp (members_of (drop (i + 1) xs)) (members_of (drop (i + 1) ys)))) (sym means)

    pub values_apart : not (ordering_index v == 1) ≡ true → v ≡ members_cmp (members_of xs) (members_of ys)
    values_apart h = sym (values_step ∙ then_apart v _ h)

    pub members_tied : not (ordering_index v == 1) ≡ false → MembersFrom xs ys (i + 1)
    members_tied h = values_step ∙ then_tied v _ h

less_cmp : (m n : ℕ) → m < n → Less ≡ nat_cmp m n
less_cmp m n h = grind (arith, nat_tests)

greater_cmp : (m n : ℕ) → n < m → Greater ≡ nat_cmp m n
greater_cmp m n h = grind (arith, nat_tests)

suc_cmp : (m n : ℕ) → nat_cmp m n ≡ nat_cmp (suc m) (suc n)
suc_cmp m n = grind (arith, nat_tests)

-- where one of two lists ends and none differed, the shorter is less
module _ {X : Type 0} (compared : List X → List X → Ordering) (none : compared [] [] ≡ Equal) (shorter : (y : X) (ys : List X) → compared [] (y ∷ ys) ≡ Less) (longer : (x : X) (xs : List X) → compared (x ∷ xs) [] ≡ Greater) where
  pub compared_end : (xs ys : List X) (i : ℕ) → i ≡ min (length xs) (length ys) → compared (drop i xs) (drop i ys) ≡ nat_cmp (length xs) (length ys)
  compared_end [] [] zero e = none
  compared_end [] [] (suc i) e = absurd (omega arith)
  compared_end [] (y ∷ ys) zero e = shorter y ys ∙ less_cmp 0 (suc (length ys)) (omega arith)
  compared_end [] (y ∷ ys) (suc i) e = absurd (omega arith)
  compared_end (x ∷ xs) [] zero e = longer x xs ∙ greater_cmp (suc (length xs)) 0 (omega arith)
  compared_end (x ∷ xs) [] (suc i) e = absurd (omega arith)
  compared_end (x ∷ xs) (y ∷ ys) zero e = absurd (omega arith)
  compared_end (x ∷ xs) (y ∷ ys) (suc i) e = compared_end xs ys i (omega arith) ∙ suc_cmp (length xs) (length ys)

-- what `== Equal` says of an order that tells all values apart
module _ {A : Type 0} (R : A → A → Ordering) (itself : (a : A) → R a a ≡ Equal) (same : (a b : A) → R a b ≡ Equal → a ≡ b) where
  pub told_same : (a b : A) (o : Ordering) (r : Bool) → o ≡ R a b → r ≡ (ordering_index o == 1) → (IsTrue r → a ≡ b) × (a ≡ b → IsTrue r)
  told_same a b o r is told =
      (λ t. same a b (sym is ∙ (Equal-is o).0 (is_eq_index o ∙ sym told ∙ t)), λ e. told ∙ sym (is_eq_index o) ∙ ap is_eq (is ∙ ap (R a) (sym e) ∙ itself a))
