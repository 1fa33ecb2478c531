-- The laws of appending and taking out elements.
use Rattle.std.proofs.Common.{◌≡◌, ◌⊎◌, ℕ, zero, suc, ◌<◌, ◌≤◌, Bool, true, false, not, cond, List, [], ◌∷◌, ◌++◌, length, take, refl, sym, ap, ◌∙◌, subst, arith, append_assoc, length-append, inl, inr}
use Rattle.std.specs.Prelude.{if◌then◌else◌}
use Rattle.std.specs.List.{Contains}
use Rattle.std.specs.Cmp.{Equal-is}
use Rattle.std.proofs.lemmas.Bool.{not-true}
use Rattle.std.proofs.lemmas.Cmp.{eq_by_cmp_equiv}
use Rattle.std.proofs.lemmas.List.{append-nil}
use Rattle.std.proofs.lemmas.List.Elements.{All-contains, filter_passes, Contains-append_left, Contains-append_right, Contains-push, Contains-push_cases}
use Rattle.std.proofs.lemmas.Map.Views.{list_any-from_Contains, Contains-from_any}
use Rattle.std.proofs.Math.Seq.{take-append_seam}
use Rattle.fs_value.specs.Data.{Data}
use Rattle.fs_value.specs.ValueOrder.{value_cmp}
use Rattle.fs_value.specs.ValueOrderLaws.{value_cmp_total, value_same}
use Rattle.fs_value.specs.Elements.{array_contains}
use Rattle.fs_edit.specs.Arrays.{append_missing, remove_all}

-- ---- whether a value is among these

has_from : (ds : List Data) (d : Data) → Contains ds d → array_contains ds d ≡ true
has_from ds d h = list_any-from_Contains (eq_by_cmp_equiv value_cmp_total) d ds h

contains_from : (ds : List Data) (d : Data) → array_contains ds d ≡ true → Contains ds d
contains_from ds d h = Contains-from_any (λ x y e. value_same x y ((Equal-is (value_cmp x y)).0 e)) d ds h

has_not : (ds : List Data) (d : Data) → array_contains ds d ≡ false → ¬ Contains ds d
has_not ds d h within = let g = has_from ds d within in absurd (cc)

lacks_by : (b : Bool) (ds : List Data) (d : Data) → array_contains ds d ≡ b → ¬ Contains ds d → array_contains ds d ≡ false
lacks_by true ds d h lacks = absurd (lacks (contains_from ds d h))
lacks_by false ds d h lacks = h

lacks : (ds : List Data) (d : Data) → ¬ Contains ds d → array_contains ds d ≡ false
lacks ds d h = lacks_by (array_contains ds d) ds d refl h

-- ---- one element

-- the elements with one more, unless it is there
abbrev with_one : Bool → List Data → Data → List Data
with_one b there d = if b then there else there ++ d ∷ []

with_one_has : (b : Bool) (there : List Data) (d : Data) → array_contains there d ≡ b → Contains (with_one b there d) d
with_one_has true there d h = contains_from there d h
with_one_has false there d h = Contains-push there d

with_one_only : (b : Bool) (there : List Data) (d x : Data) → Contains (with_one b there d) x → Contains there x ⊎ (d ≡ x)
with_one_only true there d x h = inl h
with_one_only false there d x h = Contains-push_cases there d x h

-- ---- what is appended stands behind what is there

added_by : (b : Bool) (there : List Data) (d : Data) (ds : List Data) → ((t : List Data) → (more : List Data) × (append_missing t ds ≡ t ++ more))
    → (more : List Data) × (append_missing (with_one b there d) ds ≡ there ++ more)
added_by true there d ds ih = ih there
added_by false there d ds ih = let r = ih (there ++ d ∷ []) in (d ∷ r.0, r.1 ∙ append_assoc there (d ∷ []) r.0)

added : (there ds : List Data) → (more : List Data) × (append_missing there ds ≡ there ++ more)
added there [] = ([], sym (append-nil there))
added there (d ∷ ds) = added_by (array_contains there d) there d ds (λ t. added t ds)

pub append_keeps : (there ds : List Data) → take (length there) (append_missing there ds) ≡ there
append_keeps there ds = let r = added there ds in ap (take (length there)) r.1 ∙ take-append_seam there r.0

stays : (there ds : List Data) (d : Data) → Contains there d → Contains (append_missing there ds) d
stays there ds d h = let r = added there ds in subst (λ xs. Contains xs d) (sym r.1) (Contains-append_left there r.0 d h)

-- ---- which elements there are afterwards

first_or_rest : (e : Data) (ds : List Data) (d : Data) → Contains (e ∷ ds) d → (e ≡ d) ⊎ Contains ds d
first_or_rest e ds d (zero, h, is) = inl is
first_or_rest e ds d (suc k, h, is) = inr (k, omega arith, is)

pub append_all : (there ds : List Data) (d : Data) → Contains ds d → Contains (append_missing there ds) d
append_all there [] d (k, h, is) = absurd (omega arith)
append_all there (e ∷ ds) d h =
    elim (first_or_rest e ds d h) [
      | inl same ↦ subst (λ x. Contains (append_missing there (e ∷ ds)) x) same (stays (with_one (array_contains there e) there e) ds e (with_one_has (array_contains there e) there e refl))
      | inr later ↦ append_all (with_one (array_contains there e) there e) ds d later
    ]

later_given : (e : Data) (ds : List Data) (d : Data) → Contains ds d → Contains (e ∷ ds) d
later_given e ds d h = Contains-append_right (e ∷ []) ds d h

only_by : (b : Bool) (there : List Data) (e : Data) (ds : List Data) (d : Data) → Contains (with_one b there e) d ⊎ Contains ds d → Contains there d ⊎ Contains (e ∷ ds) d
only_by b there e ds d (inr h) = inr (later_given e ds d h)
only_by b there e ds d (inl h) = elim (with_one_only b there e d h) [ inl was ↦ inl was | inr same ↦ inr (0, omega arith, same) ]

pub append_only : (there ds : List Data) (d : Data) → Contains (append_missing there ds) d → Contains there d ⊎ Contains ds d
append_only there [] d h = inl h
append_only there (e ∷ ds) d h = only_by (array_contains there e) there e ds d (append_only (with_one (array_contains there e) there e) ds d h)

-- ---- twice is as once

none_by : (b : Bool) (there : List Data) (e : Data) → b ≡ true → with_one b there e ≡ there
none_by true there e h = refl
none_by false there e h = absurd (cc)

none_missing : (there ds : List Data) → ((d : Data) → Contains ds d → Contains there d) → append_missing there ds ≡ there
none_missing there [] h = refl
none_missing there (e ∷ ds) h =
    ap (λ t. append_missing t ds) (none_by (array_contains there e) there e (has_from there e (h e (0, omega arith, refl)))) ∙ none_missing there ds (λ d g. h d (later_given e ds d g))

pub append_twice : (there ds : List Data) → append_missing (append_missing there ds) ds ≡ append_missing there ds
append_twice there ds = none_missing (append_missing there ds) ds (λ d h. append_all there ds d h)

-- ---- taking out

pub remove_gone : (there ds : List Data) (d : Data) → Contains ds d → ¬ Contains (remove_all there ds) d
remove_gone there ds d given left =
    has_not ds d (not-true (array_contains ds d) (All-contains (λ x. not (array_contains ds x) ≡ true) (remove_all there ds) d (filter_passes (λ x. not (array_contains ds x)) there) left)) given

kept_first : (b : Bool) (e : Data) (rest : List Data) → b ≡ false → Contains (cond (not b) (e ∷ rest) rest) e
kept_first true e rest h = absurd (cc)
kept_first false e rest h = (0, omega arith, refl)

kept_later : (b : Bool) (e : Data) (rest : List Data) (d : Data) → Contains rest d → Contains (cond b (e ∷ rest) rest) d
kept_later true e rest d h = later_given e rest d h
kept_later false e rest d h = h

pub remove_others : (there ds : List Data) (d : Data) → Contains there d → ¬ Contains ds d → Contains (remove_all there ds) d
remove_others [] ds d (k, h, is) lack = absurd (omega arith)
remove_others (e ∷ there) ds d h lack =
    elim (first_or_rest e there d h) [
      | inl same ↦ subst (λ x. Contains (remove_all (e ∷ there) ds) x) same (kept_first (array_contains ds e) e (remove_all there ds) (subst (λ x. array_contains ds x ≡ false) (sym same) (lacks ds d lack)))
      | inr later ↦ kept_later (not (array_contains ds e)) e (remove_all there ds) d (remove_others there ds d later lack)
    ]

-- ---- what is appended isn't there yet

ends_alike : (there front : List Data) (d e : Data) (more back : List Data) → length front ≡ length there → there ++ e ∷ more ≡ front ++ d ∷ back → (front ≡ there) × (d ≡ e)
ends_alike [] [] d e more back n h = (refl, cc)
ends_alike [] (f ∷ front) d e more back n h = absurd (omega arith)
ends_alike (x ∷ there) [] d e more back n h = absurd (omega arith)
ends_alike (x ∷ there) (f ∷ front) d e more back n h =
    let heads : f ≡ x = cc in
    let tails : there ++ e ∷ more ≡ front ++ d ∷ back = cc in
    let r = ends_alike there front d e more back (omega arith) tails in
    ((λ i. heads i ∷ r.0 i), r.1)

module _ (front : List Data) (d : Data) (back : List Data) where
  abbrev New : List Data → List Data → Type 0
  New there ds = append_missing there ds ≡ front ++ d ∷ back → length there ≤ length front → ¬ Contains front d

  new_here : (there : List Data) (e : Data) (ds : List Data) → array_contains there e ≡ false → append_missing (there ++ e ∷ []) ds ≡ front ++ d ∷ back → length front ≡ length there → ¬ Contains front d
  new_here there e ds lack h n within =
      let r = added (there ++ e ∷ []) ds in
      let both = ends_alike there front d e r.0 back n (sym (append_assoc there (e ∷ []) r.0) ∙ sym r.1 ∙ h) in
      has_not there e lack (subst (λ x. Contains there x) both.1 (subst (λ xs. Contains xs d) both.0 within))

  new_after : (there : List Data) (e : Data) (ds : List Data) → New (there ++ e ∷ []) ds → array_contains there e ≡ false → append_missing (there ++ e ∷ []) ds ≡ front ++ d ∷ back → (length front ≡ length there) ⊎ (length there < length front) → ¬ Contains front d
  new_after there e ds ih lack h (inl n) = new_here there e ds lack h n
  new_after there e ds ih lack h (inr n) = ih h (omega (arith, length-append there (e ∷ [])))

  split : (m n : ℕ) → m ≤ n → (n ≡ m) ⊎ (m < n)
  split zero zero h = inl refl
  split zero (suc n) h = inr (omega arith)
  split (suc m) zero h = absurd (omega arith)
  split (suc m) (suc n) h = elim (split m n (omega arith)) [ inl e ↦ inl (ap suc e) | inr l ↦ inr (omega arith) ]

  new_by : (b : Bool) (there : List Data) (e : Data) (ds : List Data) → array_contains there e ≡ b → ((t : List Data) → New t ds) → append_missing (with_one b there e) ds ≡ front ++ d ∷ back → length there ≤ length front → ¬ Contains front d
  new_by true there e ds is ih h n = ih there h n
  new_by false there e ds is ih h n = new_after there e ds (ih (there ++ e ∷ [])) is h (split (length there) (length front) n)

  pub append_new : (there ds : List Data) → New there ds
  append_new there [] h n = absurd (omega (arith, ap length h, length-append front (d ∷ back)))
  append_new there (e ∷ ds) h n = new_by (array_contains there e) there e ds refl (λ t. append_new t ds) h n
