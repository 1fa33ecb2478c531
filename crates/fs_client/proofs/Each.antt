-- What becomes of each entry of a map, one after another.
use Rattle.std.proofs.Common.{◌≡◌, ℕ, Bool, true, cond, List, [], ◌∷◌, map, sym, ap, ◌∙◌, subst}
use Rattle.std.specs.FinMap.{entries, from_entries}
use Rattle.std.specs.List.Sorted.{IsStrictlySortedBy}
use Rattle.std.specs.Map.{keys_of}
use Rattle.std.specs.Map.Calls.{RetainsPairs}
use Rattle.std.specs.Ordering.{nat_cmp}
use Rattle.std.proofs.lemmas.Cmp.{nat_cmp_total}
use Rattle.fs_value.proofs.Tree.{entries_tree}

-- by a closure that keeps each and stays as it was
module _ {F X : Type 0} (T : F → ℕ → X → Bool → X → F → Type 0) (change : X → X) (g : F)
    (calls : (k : ℕ) (v : X) (b : Bool) (w : X) (g' : F) → T g k v b w g' → (b ≡ true) × (w ≡ change v) × (g' ≡ g)) where
  all_kept : (es kept : List (ℕ × X)) → RetainsPairs T g es kept → kept ≡ map (λ (e : ℕ × X). (e.0, change e.1)) es
  all_kept [] kept is = is
  all_kept (e ∷ es) kept r =
      let called = calls e.0 e.1 r.0 r.1 r.2 r.4 in
      let rest = all_kept es r.3 (subst (λ h. RetainsPairs T h es r.3) called.2 r.5) in
      r.6
      ∙ ap (λ b. cond b ((e.0, r.1) ∷ r.3) r.3) called.0
      ∙ (λ i. (e.0, called.1 i) ∷ rest i)

  pub each_changed : (es kept : List (ℕ × X)) → IsStrictlySortedBy nat_cmp (keys_of es) → RetainsPairs T g es kept
      → from_entries {R = nat_cmp} kept ≡ from_entries (map (λ (e : ℕ × X). (e.0, change e.1)) (entries (from_entries {R = nat_cmp} es)))
  each_changed es kept rise r =
      ap (from_entries {R = nat_cmp}) (all_kept es kept r)
      ∙ ap (λ (fs : List (ℕ × X)). from_entries {R = nat_cmp} (map (λ (e : ℕ × X). (e.0, change e.1)) fs)) (sym (entries_tree nat_cmp_total es rise))
