-- What is told of a name, target by target.
use Rattle.std.proofs.Common.{◌≡◌, ℕ, ℤ, ◌+◌, ◌<◌, ◌≤◌, zero, suc, Bool, true, false, cond, ◌||◌, List, [], ◌∷◌, ◌++◌, map, length, get_or, drop, Option, refl, sym, ap, ◌∙◌, subst, add-one, drop-cons}
use Rattle.std.specs.Prelude.{is_some}
use Rattle.std.specs.FinMap.{get}
use Rattle.std.specs.List.{AllByRecursion, filter, list_any}
use Rattle.std.proofs.lemmas.List.{append_assoc, append-nil, drop_all}
use Rattle.fs_path.specs.declared.name.DocName.{DocName}
use Rattle.fs_value.specs.declared.document.Document.{Document}
use Rattle.fs_listen.specs.Told.{Views, shown_in}
use Rattle.fs_target.specs.Looks.{AreAlike, AreAt, IsAt, all_views, views_of}
use Rattle.fs_target.specs.declared.told.Look.{Look}

-- ---- one of them and those behind it

pub from_place : {X : Type 0} (xs : List X) (i : ℕ) (x : X) → i < length xs → x ≡ get_or xs i x → drop i xs ≡ x ∷ drop (i + 1) xs
from_place xs i x within is = drop-cons xs i x within ∙ (λ j. sym is j ∷ drop (sym (add-one i) j) xs)

-- what holds of each of them holds of those from a place on
pub all_from : {X : Type 0} (P : X → Type 0) (xs : List X) (i : ℕ) → AllByRecursion P xs → AllByRecursion P (drop i xs)
all_from P xs zero all = all
all_from P [] (suc i) all = all
all_from P (x ∷ xs) (suc i) all = all_from P xs i all.1

-- ---- the numbers of those that pass a test

module _ (time : ℤ) (p : Views → Bool) where
  abbrev pub passing : List Look → List ℕ
  passing ls = map (λ (v : Views). v.id) (filter p (all_views time ls))

  one_passes : (l : Look) (ls : List Look) (ids : List ℕ) (passes : Bool)
      → cond passes (ids ++ l.id ∷ []) ids ++ passing ls ≡ ids ++ map (λ (v : Views). v.id) (cond passes (views_of time l ∷ filter p (all_views time ls)) (filter p (all_views time ls)))
  one_passes l ls ids true = append_assoc ids (l.id ∷ []) (passing ls)
  one_passes l ls ids false = refl

  pub passing_next : (ls : List Look) (i : ℕ) (l : Look) (ids : List ℕ) (passes : Bool) → i < length ls → AreAt time ls → l ≡ get_or ls i l
      → (IsAt time l → passes ≡ p (views_of time l))
      → ids ++ passing (drop i ls) ≡ passing ls
      → cond passes (ids ++ l.id ∷ []) ids ++ passing (drop (i + 1) ls) ≡ passing ls
  passing_next ls i l ids passes within are is says before =
      let rest = drop (i + 1) ls in
      let here = from_place ls i l within is in
      let at = subst (AreAt time) here (all_from (λ (m : Look). IsAt time m) ls i are) in
      one_passes l rest ids passes
      ∙ ap (λ b. ids ++ map (λ (v : Views). v.id) (cond b (views_of time l ∷ filter p (all_views time rest)) (filter p (all_views time rest)))) (says at.0)
      ∙ ap (λ ms. ids ++ passing ms) (sym here)
      ∙ before

  pub passing_all : (ls : List Look) (i : ℕ) (ids : List ℕ) → length ls ≤ i → ids ++ passing (drop i ls) ≡ passing ls → ids ≡ passing ls
  passing_all ls i ids past before = sym (append-nil ids) ∙ ap (λ ms. ids ++ passing ms) (sym (drop_all i ls past)) ∙ before

-- ---- whether one of them passes

module _ (time : ℤ) (p : Views → Bool) where
  abbrev pub one_of : List Look → Bool
  one_of ls = list_any p (all_views time ls)

  pub one_next : (ls : List Look) (i : ℕ) (l : Look) (passes : Bool) → i < length ls → AreAt time ls → l ≡ get_or ls i l
      → (IsAt time l → passes ≡ p (views_of time l)) → one_of (drop i ls) ≡ (passes || one_of (drop (i + 1) ls))
  one_next ls i l passes within are is says =
      let here = from_place ls i l within is in
      let at = subst (AreAt time) here (all_from (λ (m : Look). IsAt time m) ls i are) in
      ap one_of here ∙ ap (λ b. b || one_of (drop (i + 1) ls)) (sym (says at.0))

-- ---- what the first of them shows

module _ (time : ℤ) (name : DocName) where
  abbrev pub shown : List Look → Option Document
  shown ls = shown_in name (all_views time ls)

  pub shown_next : (ls : List Look) (i : ℕ) (l : Look) (o : Option Document) → i < length ls → AreAt time ls → l ≡ get_or ls i l
      → (IsAt time l → o ≡ get (views_of time l).new name) → shown (drop i ls) ≡ cond (is_some o) o (shown (drop (i + 1) ls))
  shown_next ls i l o within are is says =
      let here = from_place ls i l within is in
      let at = subst (AreAt time) here (all_from (λ (m : Look). IsAt time m) ls i are) in
      ap shown here ∙ ap (λ (x : Option Document). cond (is_some x) x (shown (drop (i + 1) ls))) (sym (says at.0))

-- ---- whether nothing differs

pub alike_next : (time : ℤ) (name : DocName) (ls : List Look) (i : ℕ) (l : Look) → i < length ls → AreAt time ls → l ≡ get_or ls i l
    → (IsAt time l → get (views_of time l).sent name ≡ get (views_of time l).new name)
    → AreAlike name (all_views time (drop (i + 1) ls)) → AreAlike name (all_views time (drop i ls))
alike_next time name ls i l within are is says rest =
    let here = from_place ls i l within is in
    let at = subst (AreAt time) here (all_from (λ (m : Look). IsAt time m) ls i are) in
    subst (λ ms. AreAlike name (all_views time ms)) (sym here) (says at.0, rest)
