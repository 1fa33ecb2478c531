-- Who holds something below a path, or below one with which it begins.
use Rattle.std.proofs.Common.{◌≡◌, ℕ, ◌+◌, Bool, true, false, inl, inr, List, [], ◌∷◌, ◌++◌, length, take, Option, Some, None, refl, sym, ap, ◌∙◌, subst, arith}
use Rattle.std.specs.Prelude.{◌↔◌, IsTrue}
use Rattle.std.specs.BTreeMap.{get_by_text}
use Rattle.std.proofs.lemmas.Bool.{cases_lt}
use Rattle.std.proofs.lemmas.List.{append-nil, length-append, take_at}
use Rattle.fs_locks.specs.Holds.{IsLeastOther, lesser_of}
use Rattle.fs_locks.specs.Paths.{path_text}
use Rattle.fs_locks.specs.Spots.{HoldsAbove, StandsAbove, under}
use Rattle.fs_locks.specs.Tree.{has}
use Rattle.fs_locks.specs.declared.parents.Parents.{Parents}
use Rattle.fs_locks.specs.declared.scopes.Scopes.{Scopes}
use Rattle.fs_locks.proofs.Ids.{least_both}
use Rattle.fs_locks.proofs.Searching.{same_property}
use Rattle.fs_locks.proofs.TextMaps.{below}

-- fronts of one list that are of one length are one
same_front : (xs ys x y : List (List ℕ)) → xs ++ x ≡ ys ++ y → length xs ≡ length ys → xs ≡ ys
same_front xs ys x y same count = sym (take_at xs x (length xs) refl) ∙ ap (take (length xs)) same ∙ take_at ys y (length xs) (sym count)

-- who holds something below a path with which this one begins, of at least so many ids, holds it there or below a longer one
split : (parents : Parents) (ids rest above : List (List ℕ)) (j : ℕ) (Z : Type 0) → rest ++ above ≡ ids → HoldsAbove parents ids (length rest) j
    → (HoldsAbove parents ids (length rest + 1) j → Z) → (IsTrue (has j (under parents (path_text rest))) → Z) → Z
split parents ids rest above j Z parts r f g =
    elim (cases_lt (length rest) (length r.0)) [
      | inl longer ↦ f (r.0, r.1, r.2, omega (arith, longer), r.4)
      | inr short ↦
          let far = r.3 in
          let same = same_front r.0 rest r.1 above (r.2 ∙ sym parts) (omega arith) in
          g (subst (λ front. IsTrue (has j (under parents (path_text front)))) same r.4)
    ]

-- what is passed of a path as it is gone up by one
moved : (xs above : List (List ℕ)) (last : List ℕ) → (xs ++ last ∷ []) ++ above ≡ xs ++ last ∷ above
moved [] above last = refl
moved (x ∷ xs) above last = ap (λ ys. x ∷ ys) (moved xs above last)

-- what is left of a path while it is gone up, and the least other id of those passed
pub record Climbed (parents : Parents) (by : ℕ) (ids rest : List (List ℕ)) (first : Option ℕ) : Type 0 where
  pub above : List (List ℕ)
  pub parts : rest ++ above ≡ ids
  pub least : IsLeastOther (HoldsAbove parents ids (length rest + 1)) by first

module _ (parents : Parents) (by : ℕ) (ids : List (List ℕ)) where
  -- one more is looked at
  pub climbed_here : (rest : List (List ℕ)) (a b : Option ℕ) → Climbed parents by ids rest a → IsLeastOther (λ i. IsTrue (has i (under parents (path_text rest)))) by b
      → IsLeastOther (HoldsAbove parents ids (length rest)) by (lesser_of a b)
  climbed_here rest a b c second =
      least_both (HoldsAbove parents ids (length rest + 1)) (λ i. IsTrue (has i (under parents (path_text rest)))) (HoldsAbove parents ids (length rest))
      (λ j h. let far = h.3 in (h.0, h.1, h.2, omega arith, h.4))
      (λ j h. (rest, c.above, c.parts, omega arith, h))
      (λ j Z r f g. split parents ids rest c.above j Z c.parts r f g)
      by a b c.least second

  pub climbed_more : (rest front : List (List ℕ)) (last : List ℕ) (a b : Option ℕ) → rest ≡ front ++ last ∷ [] → Climbed parents by ids rest a
      → IsLeastOther (λ i. IsTrue (has i (under parents (path_text rest)))) by b → Climbed parents by ids front (lesser_of a b)
  climbed_more rest front last a b is c second =
      let long : length rest ≡ length front + 1 = ap length is ∙ length-append front (last ∷ []) in
      record {
        above = last ∷ c.above;
        parts = sym (moved front c.above last) ∙ sym (ap (λ xs. xs ++ c.above) is) ∙ c.parts;
        least = subst (λ n. IsLeastOther (HoldsAbove parents ids n) by (lesser_of a b)) long (climbed_here rest a b c second);
      }

-- ---- one id

-- what is left of a path while it is gone up, where an id holds nothing below what was passed
pub record Passed (parents : Parents) (id : ℕ) (ids rest : List (List ℕ)) : Type 0 where
  pub above : List (List ℕ)
  pub parts : rest ++ above ≡ ids
  pub none : HoldsAbove parents ids (length rest + 1) id → ⊥

module _ (parents : Parents) (id : ℕ) (ids : List (List ℕ)) where
  pub passed_none : Passed parents id ids ids
  passed_none = record {
    above = [];
    parts = append-nil ids;
    none = λ h. let all = ap length h.2 in let far = h.3 in absurd (omega (arith, length-append h.0 h.1));
  }

  pub passed_more : (rest front : List (List ℕ)) (last : List ℕ) → rest ≡ front ++ last ∷ [] → Passed parents id ids rest → has id (under parents (path_text rest)) ≡ false → Passed parents id ids front
  passed_more rest front last is p free =
      let long : length rest ≡ length front + 1 = ap length is ∙ length-append front (last ∷ []) in
      record {
        above = last ∷ p.above;
        parts = sym (moved front p.above last) ∙ sym (ap (λ xs. xs ++ p.above) is) ∙ p.parts;
        none = λ h.
            split parents ids rest p.above id ⊥ p.parts (subst (λ n. HoldsAbove parents ids n id) (sym long) h) p.none (λ here. absurd (cc));
      }

  pub found_here : (rest : List (List ℕ)) → Passed parents id ids rest → has id (under parents (path_text rest)) ≡ true → IsTrue true ↔ HoldsAbove parents ids 0 id
  found_here rest p here = (λ _. (rest, p.above, p.parts, omega arith, here), λ _. refl)

  pub found_at_root : (r : Bool) → Passed parents id ids [] → r ≡ has id (under parents None) → IsTrue r ↔ HoldsAbove parents ids 0 id
  found_at_root r p is = (
    λ it. ([], p.above, p.parts, omega arith, sym is ∙ it),
    λ h. split parents ids [] p.above id (IsTrue r) p.parts h (λ more. absurd (p.none more)) (λ here. is ∙ here),
  )

-- ---- with the scopes' id

pub stands_none : (scopes : Scopes) (id : List ℕ) (ids : List (List ℕ)) (by : ℕ) → get_by_text scopes.by_id id ≡ None → IsLeastOther (StandsAbove scopes id ids) by None
stands_none scopes id ids by none j h = let there = sym (ap (below j (path_text h.0)) none) ∙ h.3 in absurd (cc)

pub stands_some : (scopes : Scopes) (id : List ℕ) (ids : List (List ℕ)) (by : ℕ) (parents : Parents) (a : Option ℕ) → get_by_text scopes.by_id id ≡ Some parents
    → IsLeastOther (HoldsAbove parents ids 0) by a → IsLeastOther (StandsAbove scopes id ids) by a
stands_some scopes id ids by parents a some =
    same_property (HoldsAbove parents ids 0) (StandsAbove scopes id ids) by a
    (λ i h. (h.0, h.1, h.2, ap (below i (path_text h.0)) some ∙ h.4))
    (λ i h. (h.0, h.1, h.2, omega arith, sym (ap (below i (path_text h.0)) some) ∙ h.3))

-- whether one id stands there
pub is_in_none : (scopes : Scopes) (id : List ℕ) (ids : List (List ℕ)) (i : ℕ) → get_by_text scopes.by_id id ≡ None → IsTrue false ↔ StandsAbove scopes id ids i
is_in_none scopes id ids i none = (λ e. absurd (cc), λ h. let there = sym (ap (below i (path_text h.0)) none) ∙ h.3 in absurd (cc))

pub is_in_some : (scopes : Scopes) (id : List ℕ) (ids : List (List ℕ)) (i : ℕ) (parents : Parents) (r : Bool) → get_by_text scopes.by_id id ≡ Some parents
    → (IsTrue r ↔ HoldsAbove parents ids 0 i) → IsTrue r ↔ StandsAbove scopes id ids i
is_in_some scopes id ids i parents r some says = (
  λ it. let h = says.0 it in (h.0, h.1, h.2, ap (below i (path_text h.0)) some ∙ h.4),
  λ h. says.1 (h.0, h.1, h.2, omega arith, sym (ap (below i (path_text h.0)) some) ∙ h.3),
)
