-- What each id has after one of them was given something, or lost all that it had.
use Rattle.std.proofs.Common.{◌≡◌, ℕ, Bool, true, false, cond, List, [], ◌∷◌, ◌++◌, Some, None, Result, Ok, Err, refl, sym, ap, ◌∙◌}
use Rattle.std.specs.Prelude.{◌==◌, ◌&&◌, ◌||◌, OnErr, not, unwrap_or}
use Rattle.std.specs.BTreeMap.{insert_entry, is_at}
use Rattle.std.specs.List.{AllByRecursion, list_any}
use Rattle.std.specs.List.Sorted.{IsStrictlySortedBy}
use Rattle.std.specs.Map.{keys_of, lookup}
use Rattle.std.specs.Ordering.{is_eq, match_ordering, nat_cmp, ordering_reverse}
use Rattle.std.specs.declared.cmp.Ordering.{Ordering}
use Rattle.std.specs.declared.cmp.Ordering.TheVariants.{Less, Equal, Greater}
use Rattle.std.proofs.lemmas.Bool.{eqb-true}
use Rattle.std.proofs.lemmas.Cmp.{eq_by_cmp_equiv, nat_cmp_total}
use Rattle.std.proofs.lemmas.List.Folds.{list_any-append}
use Rattle.std.proofs.Math.Bool.{or-false}
use Rattle.fs_locks.specs.Shares.{Shares, shared_by, with_share}
use Rattle.fs_locks.specs.declared.held.Held.{Held}
use Rattle.fs_locks.proofs.Ids.{itself, tied, tied_is}

module _ {X : Type 0} (id : ℕ) (v : X) where
  -- ids that rise don't lead back
  none_above : (e : ℕ) (es : List (ℕ × X)) → nat_cmp id e ≡ Less → AllByRecursion (λ q. nat_cmp e q ≡ Less) (keys_of es) → lookup (is_at (nat_cmp id)) es ≡ None
  none_above e [] less above = refl
  none_above e (x ∷ es) less above = at (none_above e es less above.1) (is_at (nat_cmp id) x.0) refl
    where
      at : lookup (is_at (nat_cmp id)) es ≡ None → (b : Bool) → is_at (nat_cmp id) x.0 ≡ b → cond b (Some x.1) (lookup (is_at (nat_cmp id)) es) ≡ None
      at none true ties =
          let back : nat_cmp e id ≡ Less = ap (nat_cmp e) (tied_is id x.0 ties) ∙ above.0 in
          let turned : nat_cmp id e ≡ Greater = nat_cmp_total.antisymm id e ∙ ap ordering_reverse back in
          absurd (cc)
      at none false ties = none

  -- what an id has, given to it again, changes nothing
  pub insert_same : (es : List (ℕ × X)) → IsStrictlySortedBy nat_cmp (keys_of es) → lookup (is_at (nat_cmp id)) es ≡ Some v → insert_entry nat_cmp es id v ≡ es
  unfolding IsStrictlySortedBy
  insert_same [] rise found = absurd (cc)
  insert_same (e ∷ es) rise found = at (insert_same es rise.1) (nat_cmp id e.0) refl found
    where
      at : (lookup (is_at (nat_cmp id)) es ≡ Some v → insert_entry nat_cmp es id v ≡ es) → (o : Ordering) → nat_cmp id e.0 ≡ o → cond (is_eq o) (Some e.1) (lookup (is_at (nat_cmp id)) es) ≡ Some v
          → match_ordering o ((id, v) ∷ e ∷ es) ((e.0, v) ∷ es) (e ∷ insert_entry nat_cmp es id v) ≡ e ∷ es
      at more Less less found = let none = none_above e.0 es less rise.0 in absurd (cc)
      at more Equal ties found = let same : e.1 ≡ v = cc in ap (λ (x : X). (e.0, x) ∷ es) (sym same)
      at more Greater far found = ap (λ xs. e ∷ xs) (more found)

  pub found_there : (es : List (ℕ × X)) → lookup (is_at (nat_cmp id)) (insert_entry nat_cmp es id v) ≡ Some v
  found_there [] = ap (λ b. cond b (Some v) None) (itself id)
  found_there (e ∷ es) = at (found_there es) (nat_cmp id e.0) refl
    where
      at : lookup (is_at (nat_cmp id)) (insert_entry nat_cmp es id v) ≡ Some v → (o : Ordering) → nat_cmp id e.0 ≡ o → lookup (is_at (nat_cmp id)) (match_ordering o ((id, v) ∷ e ∷ es) ((e.0, v) ∷ es) (e ∷ insert_entry nat_cmp es id v)) ≡ Some v
      at more Less less = ap (λ b. cond b (Some v) (lookup (is_at (nat_cmp id)) (e ∷ es))) (itself id)
      at more Equal ties = ap (λ o. cond (is_eq o) (Some v) (lookup (is_at (nat_cmp id)) es)) ties
      at more Greater far = ap (λ o. cond (is_eq o) (Some e.1) (lookup (is_at (nat_cmp id)) (insert_entry nat_cmp es id v))) far ∙ more

  others_stay : (q : ℕ) (es : List (ℕ × X)) → is_at (nat_cmp q) id ≡ false → lookup (is_at (nat_cmp q)) (insert_entry nat_cmp es id v) ≡ lookup (is_at (nat_cmp q)) es
  others_stay q [] apart = ap (λ b. cond b (Some v) None) apart
  others_stay q (e ∷ es) apart = at (others_stay q es apart) (nat_cmp id e.0) refl
    where
      at : lookup (is_at (nat_cmp q)) (insert_entry nat_cmp es id v) ≡ lookup (is_at (nat_cmp q)) es → (o : Ordering) → nat_cmp id e.0 ≡ o → lookup (is_at (nat_cmp q)) (match_ordering o ((id, v) ∷ e ∷ es) ((e.0, v) ∷ es) (e ∷ insert_entry nat_cmp es id v)) ≡ lookup (is_at (nat_cmp q)) (e ∷ es)
      at more Less less = ap (λ b. cond b (Some v) (lookup (is_at (nat_cmp q)) (e ∷ es))) apart
      at more Equal ties =
          let far : is_at (nat_cmp q) e.0 ≡ false = ap (λ (k : ℕ). is_at (nat_cmp q) k) (sym (tied_is id e.0 (ap is_eq ties))) ∙ apart in
          ap (λ b. cond b (Some v) (lookup (is_at (nat_cmp q)) es)) far ∙ sym (ap (λ b. cond b (Some e.1) (lookup (is_at (nat_cmp q)) es)) far)
      at more Greater beyond = ap (cond (is_at (nat_cmp q) e.0) (Some e.1)) more

-- what is written back where memory ran out
pub noted_same : {X A E : Type 0} (r : Result A E) (id : ℕ) (v w : X) (old new : List (ℕ × X)) → IsStrictlySortedBy nat_cmp (keys_of old) → lookup (is_at (nat_cmp id)) old ≡ Some v
    → new ≡ insert_entry nat_cmp old id w → OnErr r (w ≡ v) → OnErr r (new ≡ old)
noted_same (Ok x) id v w old new rise found is same = tt
noted_same (Err e) id v w old new rise found is same = is ∙ ap (insert_entry nat_cmp old id) same ∙ insert_same id v old rise found

-- each id's own, where one has got something
pub lookup_inserted : {X : Type 0} (id q : ℕ) (v : X) (es : List (ℕ × X)) → lookup (is_at (nat_cmp q)) (insert_entry nat_cmp es id v) ≡ cond (is_at (nat_cmp id) q) (Some v) (lookup (is_at (nat_cmp q)) es)
lookup_inserted id q v es = at (is_at (nat_cmp id) q) refl
  where
    at : (b : Bool) → is_at (nat_cmp id) q ≡ b → lookup (is_at (nat_cmp q)) (insert_entry nat_cmp es id v) ≡ cond b (Some v) (lookup (is_at (nat_cmp q)) es)
    at true ties = ap (λ (k : ℕ). lookup (is_at (nat_cmp k)) (insert_entry nat_cmp es id v)) (sym (tied_is id q ties)) ∙ found_there id v es
    at false apart = others_stay id v q es ((eq_by_cmp_equiv nat_cmp_total).symm q id ∙ apart)

-- ---- what is read

-- one id has read one thing more
pub shared_more : (shares : Shares) (id i : ℕ) (h : Held) → shared_by i (with_share shares id h) ≡ cond (i == id) (shared_by id shares ++ h ∷ []) (shared_by i shares)
shared_more shares id i h =
    ap (λ o. unwrap_or o []) (lookup_inserted id i (shared_by id shares ++ h ∷ []) shares) ∙ at (is_at (nat_cmp id) i)
    ∙ ap (λ b. cond b (shared_by id shares ++ h ∷ []) (shared_by i shares)) (tied i id)
  where
    at : (b : Bool) → unwrap_or (cond b (Some (shared_by id shares ++ h ∷ [])) (lookup (is_at (nat_cmp i)) shares)) [] ≡ cond b (shared_by id shares ++ h ∷ []) (shared_by i shares)
    at true = refl
    at false = refl

-- so a test of what an id holds passes where it did, and where it passes the one thing
pub any_more : (test : Held → Bool) (shares : Shares) (id i : ℕ) (h : Held) → list_any test (shared_by i (with_share shares id h)) ≡ (list_any test (shared_by i shares) || (i == id && test h))
any_more test shares id i h = ap (list_any test) (shared_more shares id i h) ∙ at (i == id) refl
  where
    at : (b : Bool) → (i == id) ≡ b → list_any test (cond b (shared_by id shares ++ h ∷ []) (shared_by i shares)) ≡ (list_any test (shared_by i shares) || (b && test h))
    at true ties =
        list_any-append test (shared_by id shares) (h ∷ []) ∙ ap (λ b. list_any test (shared_by id shares) || b) (or-false (test h))
        ∙ ap (λ (k : ℕ). list_any test (shared_by k shares) || test h) (sym (eqb-true i id ties))
    at false apart = sym (or-false (list_any test (shared_by i shares)))

-- one id holds nothing any more
pub any_less : (test : Held → Bool) (old new : Shares) (id i : ℕ) → ((q : ℕ) → lookup (is_at (nat_cmp q)) new ≡ cond (is_at (nat_cmp id) q) None (lookup (is_at (nat_cmp q)) old))
    → list_any test (shared_by i new) ≡ (not (i == id) && list_any test (shared_by i old))
any_less test old new id i out =
    ap (λ o. list_any test (unwrap_or o [])) (out i) ∙ at (is_at (nat_cmp id) i) ∙ ap (λ b. not b && list_any test (shared_by i old)) (tied i id)
  where
    at : (b : Bool) → list_any test (unwrap_or (cond b None (lookup (is_at (nat_cmp i)) old)) []) ≡ (not b && list_any test (shared_by i old))
    at true = refl
    at false = refl
