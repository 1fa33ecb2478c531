-- The holds of a tree as contracts see them.
use Rattle.std.proofs.Common.{◌≡◌, ℕ, Bool, true, false, cond, List, [], ◌∷◌, map, Some, refl, sym, ap, ◌∙◌, subst}
use Rattle.std.specs.Prelude.{◌&&◌, ◌||◌, IsTrue, unwrap_or}
use Rattle.std.specs.BTreeMap.{is_at}
use Rattle.std.specs.Cmp.{Equal-is, first_so, second_so}
use Rattle.std.specs.FinMap.{FinMap, entries, entries_sorted, find, from_entries, get-entries, is_sorted}
use Rattle.std.specs.FinMap.Entries.{below_all}
use Rattle.std.specs.FinSet.{contains, contains-from_list, contains-items, from_list, items, same_set}
use Rattle.std.specs.List.{list_any}
use Rattle.std.specs.Ordering.{eq_by_cmp, is_eq, nat_cmp}
use Rattle.std.proofs.lemmas.Cmp.{tied_itself}
use Rattle.std.proofs.lemmas.List.Folds.{list_any-append}
use Rattle.std.proofs.Math.Bool.{and-false, and-or_distrib_left, or-false}
use Rattle.fs_path.specs.NameOrder.{name_cmp, name_cmp_total, name_eq, name_is}
use Rattle.fs_path.specs.declared.name.DocName.{DocName}
use Rattle.fs_path.proofs.Bools.{to_true}
use Rattle.fs_path.proofs.Orders.{below_less}
use Rattle.fs_value.proofs.Tree.{get_tree}
use Rattle.fs_locks.specs.Holds.{Hold, is_held}
use Rattle.fs_locks.specs.HoldOrder.{hold_cmp, hold_cmp_total, hold_same, both_tie, hold_test, IsCanonical}
use Rattle.fs_locks.specs.Tree.{Tree, has, held, holds_of, listed, SameTree}

-- ---- the holds of entries

module _ (i : ℕ) (n : DocName) where
  abbrev is_it : Hold → Bool
  is_it = eq_by_cmp hold_cmp (record { id = i; name = n })

  of_one : (name : DocName) (ids : List ℕ) → list_any is_it (map (λ j. record { id = j; name = name }) ids) ≡ (name_eq n name && has i ids)
  of_one name [] = sym (and-false (name_eq n name))
  of_one name (j ∷ ids) =
      ap (λ b. b || list_any is_it (map (λ j. record { id = j; name = name }) ids)) (both_tie (name_cmp n name) (nat_cmp i j))
      ∙ ap (λ b. (name_eq n name && is_at (nat_cmp i) j) || b) (of_one name ids)
      ∙ sym (and-or_distrib_left (name_eq n name) (is_at (nat_cmp i) j) (has i ids))

  of_more : (e : DocName × List ℕ) (es : Tree) → list_any is_it (listed (e ∷ es)) ≡ ((name_eq n e.0 && has i e.1) || list_any is_it (listed es))
  of_more e es = list_any-append is_it (map (λ j. record { id = j; name = e.0 }) e.1) (listed es) ∙ ap (λ b. b || list_any is_it (listed es)) (of_one e.0 e.1)

  none_above : (es : Tree) → IsTrue (below_all name_cmp n es) → list_any is_it (listed es) ≡ false
  none_above [] below = refl
  none_above (e ∷ es) below =
      let both = below_less (name_cmp n e.0) (below_all name_cmp n es) below in
      of_more e es ∙ ap (λ b. (b && has i e.1) || list_any is_it (listed es)) both.0 ∙ none_above es both.1

  held_listed : (es : Tree) → IsTrue (is_sorted name_cmp es) → list_any is_it (listed es) ≡ has i (unwrap_or (find name_cmp n es) [])
  held_listed [] rise = refl
  held_listed (e ∷ es) rise = of_more e es ∙ at (held_listed es (second_so (below_all name_cmp e.0 es) _ rise)) (name_eq n e.0) refl
    where
      at : list_any is_it (listed es) ≡ has i (unwrap_or (find name_cmp n es) []) → (b : Bool) → name_eq n e.0 ≡ b → ((b && has i e.1) || list_any is_it (listed es)) ≡ has i (unwrap_or (cond b (Some e.1) (find name_cmp n es)) [])
      at rest true ties =
          ap (λ b. has i e.1 || b) (none_above es (subst (λ m. IsTrue (below_all name_cmp m es)) (sym (name_is n e.0 ties)) (first_so _ (is_sorted name_cmp es) rise))) ∙ or-false (has i e.1)
      at rest false ties = rest

-- ---- those of a tree

in_set : (tree : Tree) (h : Hold) → contains (from_list {R = hold_cmp} (listed (entries (from_entries {R = name_cmp} tree)))) h ≡ held tree h.id h.name
in_set tree h =
    let m : FinMap name_cmp (List ℕ) = from_entries tree in
    contains-from_list hold_cmp_total (listed (entries m)) h
    ∙ held_listed h.id h.name (entries m) (to_true _ (entries_sorted m))
    ∙ ap (λ o. has h.id (unwrap_or o [])) (sym (get-entries m h.name) ∙ sym (get_tree name_cmp_total tree h.name))

pub held_view : (tree : Tree) (i : ℕ) (n : DocName) → is_held (holds_of tree) i n ≡ held tree i n
held_view tree i n =
    ap (λ p. list_any p (holds_of tree)) (λ k h. sym (hold_test i n h) k)
    ∙ sym (contains-items (from_list {R = hold_cmp} (listed (entries (from_entries {R = name_cmp} tree)))) (record { id = i; name = n }))
    ∙ in_set tree (record { id = i; name = n })

pub same_view : (old new : Tree) → SameTree old new → holds_of new ≡ holds_of old
same_view old new same =
    ap items (same_set hold_cmp_total hold_same _ _ (λ h. in_set new h ∙ same h.id h.name ∙ sym (in_set old h)))

-- nothing is held by an empty tree
none_there : (hs : List Hold) → ((h : Hold) → list_any (eq_by_cmp hold_cmp h) hs ≡ false) → hs ≡ []
none_there [] none = refl
none_there (h ∷ hs) none =
    let itself : is_eq (hold_cmp h h) ≡ true = (Equal-is _).1 (tied_itself hold_cmp_total h) in
    let found_there : list_any (eq_by_cmp hold_cmp h) (h ∷ hs) ≡ true = ap (λ b. b || list_any (eq_by_cmp hold_cmp h) hs) itself in
    let not_there = none h in
    absurd (cc)

pub no_holds : (tree : Tree) → tree ≡ [] → holds_of tree ≡ []
no_holds tree none =
    none_there (holds_of tree)
    (λ h. sym (contains-items (from_list {R = hold_cmp} (listed (entries (from_entries {R = name_cmp} tree)))) h) ∙ in_set tree h ∙ ap (λ t. held t h.id h.name) none)

-- what is held, as a contract's holds tell it
pub held_as : (tree : Tree) (now : List Hold) → holds_of tree ≡ now → held tree ≡ is_held now
held_as tree now is = λ k i n. (sym (held_view tree i n) ∙ ap (λ hs. is_held hs i n) is) k

pub held_at : (tree : Tree) (now : List Hold) → holds_of tree ≡ now → (i : ℕ) (n : DocName) → held tree i n ≡ is_held now i n
held_at tree now is i n = sym (held_view tree i n) ∙ ap (λ hs. is_held hs i n) is

-- they are in order
pub canonical : (tree : Tree) (now : List Hold) → holds_of tree ≡ now → IsCanonical now
canonical tree now is =
    let there = from_list {R = hold_cmp} (listed (entries (from_entries {R = name_cmp} tree))) in
    subst IsCanonical is
    (ap items (same_set hold_cmp_total hold_same (from_list (items there)) there (λ h. contains-from_list hold_cmp_total (items there) h ∙ sym (contains-items there h))))
