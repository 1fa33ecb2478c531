-- Lists in order that begin alike: where each of one ties with one of the other, and has the first of that, it begins with these.
use Rattle.std.proofs.Common.{◌≡◌, ℕ, zero, suc, ◌+◌, List, [], ◌∷◌, length, take, Less, Equal, Greater, ◌⊎◌, inl, inr, refl, sym, ap, ◌∙◌, subst, arith}
use Rattle.std.specs.Prelude.{ℤ, Option, Some, None}
use Rattle.std.specs.List.{Contains}
use Rattle.std.specs.List.Sorted.{IsStrictlySortedBy}
use Rattle.std.specs.Ordering.{ordering_reverse}
use Rattle.std.specs.declared.cmp.Ordering.{Ordering}
use Rattle.std.specs.Cmp.{IsTotalOrder}
use Rattle.std.proofs.lemmas.List.{take_all}
use Rattle.fs_path.proofs.Elements.{has_first, has_later}
use Rattle.fs_value.specs.declared.document.Document.{Document}
use Rattle.fs_query.specs.Answer.{count_of, limited}
use Rattle.fs_query.proofs.Rising.{first_below, has_cases, has_none, has_taken, not_below_itself, rise_rest}
use Rattle.fs_local.proofs.Placed.{Ties}

module _ {X : Type 0} (c : X → X → Ordering) (o : IsTotalOrder c) where
  -- below the first of a list that rises none ties
  tie_apart : (x w : X) (ws : List X) → IsStrictlySortedBy c (w ∷ ws) → c x w ≡ Less → ¬ Ties c o (w ∷ ws) x
  tie_apart x w ws rise less t =
      elim (has_cases w ws t.other t.there) [
        | inl same ↦ absurd (let both : Less ≡ Equal = sym less ∙ ap (c x) same ∙ t.ties in cc)
        | inr later ↦ absurd (let both : Less ≡ Equal = sym (o.trans x w t.other less (first_below c w ws t.other rise later)) ∙ t.ties in cc)
      ]

  -- one above the first ties with a later one
  tie_later : (x w : X) (ws : List X) → c w x ≡ Less → Ties c o (w ∷ ws) x → Ties c o ws x
  tie_later x w ws less t =
      elim (has_cases w ws t.other t.there) [
        | inl same ↦ absurd (let both : Greater ≡ Equal = sym (o.antisymm x w ∙ ap ordering_reverse less) ∙ ap (c x) same ∙ t.ties in cc)
        | inr later ↦ record { other = t.other; there = later; ties = t.ties }
      ]

  pub same_front : (n : ℕ) (part whole : List X) → IsStrictlySortedBy c part → IsStrictlySortedBy c whole
      → ((x : X) → Contains part x → Ties c o whole x) → ((x : X) → Contains (take n whole) x → Contains part x) → take n part ≡ take n whole
  same_front zero part whole rise rise_too ties has = refl
  same_front (suc n) [] [] rise rise_too ties has = refl
  same_front (suc n) [] (w ∷ ws) rise rise_too ties has = absurd (has_none w (has w (has_first w (take n ws))))
  same_front (suc n) (p ∷ ps) [] rise rise_too ties has = absurd (let t = ties p (has_first p ps) in has_none t.other t.there)
  same_front (suc n) (p ∷ ps) (w ∷ ws) rise rise_too ties has =
      let first : p ≡ w = first_same (has_cases p ps w (has w (has_first w (take n ws)))) in
      let rest = same_front n ps ws (rise_rest c p ps rise) (rise_rest c w ws rise_too)
      (λ x there. tie_later x w ws (subst (λ z. c z x ≡ Less) first (first_below c p ps x rise there)) (ties x (has_later p ps x there)))
      (λ x there. later first x there (has_cases p ps x (has x (has_later w (take n ws) x there)))) in
      λ i. first i ∷ rest i
    where
      first_same : (p ≡ w) ⊎ Contains ps w → p ≡ w
      first_same (inl same) = same
      first_same (inr behind) = absurd (tie_apart p w ws rise_too (first_below c p ps w rise behind) (ties p (has_first p ps)))

      later : p ≡ w → (x : X) → Contains (take n ws) x → (p ≡ x) ⊎ Contains ps x → Contains ps x
      later first x there (inl same) = absurd (not_below_itself c o x (subst (λ z. c z x ≡ Less) (sym first ∙ same) (first_below c w ws x rise_too (has_taken n ws x there))))
      later first x there (inr behind) = behind

-- the same of documents, up to a limit
pub same_limited : (c : Document → Document → Ordering) (o : IsTotalOrder c) (limit : Option ℤ) (part whole : List Document) → IsStrictlySortedBy c part → IsStrictlySortedBy c whole
    → ((d : Document) → Contains part d → Ties c o whole d) → ((d : Document) → Contains (limited limit whole) d → Contains part d) → limited limit part ≡ limited limit whole
same_limited c o (Some n) part whole rise rise_too ties has = same_front c o (count_of n) part whole rise rise_too ties has
same_limited c o None part whole rise rise_too ties has =
    let n = length part + length whole in
    sym (take_all n part (omega arith))
    ∙ same_front c o n part whole rise rise_too ties (λ d there. has d (has_taken n whole d there))
    ∙ take_all n whole (omega arith)
