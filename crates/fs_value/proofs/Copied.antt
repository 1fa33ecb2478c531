-- Copies of a map's entries, one after another.
use Rattle.std.proofs.Common.{◌≡◌, List, [], ◌∷◌, ◌++◌, append_assoc, sym, ap, ◌∙◌, subst}
use Rattle.std.specs.BTreeMap.{insert_entry}
use Rattle.std.specs.Cmp.{IsTotalOrder}
use Rattle.std.specs.List.Sorted.{IsStrictlySortedBy}
use Rattle.std.specs.Map.{keys_of}
use Rattle.std.specs.declared.cmp.Ordering.{Ordering}
use Rattle.std.proofs.lemmas.List.{append-nil}
use Rattle.fs_value.proofs.Tree.{insert_last}

-- the copies of a tree's entries, in their order: one more
module _ {K X : Type 0} {R : K → K → Ordering} (o : IsTotalOrder R) where
  pub copied_more : (done rest next whole new : List (K × X)) (k l : K) (v w : X) → IsStrictlySortedBy R (keys_of whole)
      → done ++ rest ≡ whole → rest ≡ (k, v) ∷ next → l ≡ k → w ≡ v → new ≡ insert_entry R done l w → new ++ next ≡ whole
  copied_more done rest next whole new k l v w rise from first key value is =
      let split : done ++ (k, v) ∷ next ≡ whole = ap (λ es. done ++ es) (sym first) ∙ from in
      let last = insert_last o done (k, v) next (subst (λ es. IsStrictlySortedBy R (keys_of es)) (sym split) rise) in
      ap (λ es. es ++ next) (is ∙ (λ i. insert_entry R done (key i) (value i)) ∙ last) ∙ append_assoc done ((k, v) ∷ []) next ∙ split

-- and none
pub all_copied : {X : Type 0} (done rest whole : List X) → done ++ rest ≡ whole → rest ≡ [] → done ≡ whole
all_copied done rest whole from none = sym (append-nil done) ∙ ap (λ es. done ++ es) (sym none) ∙ from
