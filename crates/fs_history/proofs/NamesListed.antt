-- Documents that stand at their own names, as a list.
use Rattle.std.proofs.Common.{◌≡◌, ℤ, Bool, true, false, cond, List, [], ◌∷◌, map, Option, Some, None, refl, sym, ap, ◌∙◌, subst}
use Rattle.std.specs.Prelude.{IsTrue, int_le}
use Rattle.std.specs.Ordering.{eq_by_cmp}
use Rattle.std.specs.Cmp.{first_so, second_so}
use Rattle.std.specs.FinMap.{get, get-empty, get-entries, entries, entries_sorted, entries-from_sorted, from_sorted, same_entries_map, values, find, is_sorted}
use Rattle.std.specs.FinMap.Entries.{below_all}
use Rattle.fs_path.specs.NameOrder.{name_cmp, name_is, name_itself}
use Rattle.fs_path.specs.declared.name.DocName.{DocName}
use Rattle.fs_path.proofs.Bools.{to_true}
use Rattle.fs_value.specs.Named.{by_name}
use Rattle.fs_value.specs.declared.document.Document.{Document}
use Rattle.fs_write.specs.After.{after_batch}
use Rattle.fs_write.specs.Batch.{Docs, docs_of, Bears, AreNamed}
use Rattle.fs_write.specs.declared.write.Write.{Write}
use Rattle.fs_history.specs.History.{at}
use Rattle.fs_history.specs.declared.batch.Batch.{Batch}
use Rattle.fs_history.proofs.Names.{none_below}

-- ---- entries in order

abbrev FindsNamed : List (DocName × Document) → Type 0
FindsNamed es = (q : DocName) → Bears (find name_cmp q es) q

rest_named : (e : DocName × Document) (es : List (DocName × Document)) (q : DocName) (b : Bool) → eq_by_cmp name_cmp q e.0 ≡ b → IsTrue (below_all name_cmp e.0 es)
    → Bears (cond b (Some e.1) (find name_cmp q es)) q → Bears (find name_cmp q es) q
rest_named e es q true ties below named =
    let none : find name_cmp q es ≡ None = ap (λ n. find name_cmp n es) (name_is q e.0 ties) ∙ none_below e.0 es below in
    subst (λ o. Bears o q) (sym none) tt
rest_named e es q false ties below named = named

first_named : (e : DocName × Document) (es : List (DocName × Document)) → FindsNamed (e ∷ es) → e.1.name ≡ e.0
first_named e es named =
    subst (λ b. Bears (cond b (Some e.1) (find name_cmp e.0 es)) e.0) (name_itself e.0) (named e.0)

-- the documents of entries, each at its own name again
by_own_names : (es : List (DocName × Document)) → IsTrue (is_sorted name_cmp es) → FindsNamed es → by_name (map (λ e. e.1) es) ≡ es
by_own_names [] rise named = refl
by_own_names (e ∷ es) rise named =
    let below = first_so (below_all name_cmp e.0 es) (is_sorted name_cmp es) rise in
    let more = by_own_names es (second_so (below_all name_cmp e.0 es) _ rise) (λ q. rest_named e es q (eq_by_cmp name_cmp q e.0) refl below (named q)) in
    let first = first_named e es named in
    λ i. (first i, e.1) ∷ more i

-- ---- the documents of a moment

module _ (docs : Docs) (named : AreNamed docs) where
  pub listed_entries : by_name (values docs) ≡ entries docs
  listed_entries = by_own_names (entries docs) (to_true _ (entries_sorted docs)) (λ q. subst (λ o. Bears o q) (get-entries docs q) (named q))

  pub listed : IsTrue (is_sorted name_cmp (by_name (values docs))) × (docs_of (values docs) ≡ docs)
  listed = (
    subst (λ es. IsTrue (is_sorted name_cmp es)) (sym listed_entries) (to_true _ (entries_sorted docs)),
    ap (from_sorted {R = name_cmp}) listed_entries ∙ same_entries_map _ docs (entries-from_sorted name_cmp (entries docs) (entries_sorted docs)),
  )

-- ---- of a history

module _ (at_own_names : (docs : Docs) (ws : List Write) (t : ℤ) → AreNamed docs → AreNamed (after_batch docs ws t)) where
  pub none_named : (q : DocName) (o : Option Document) → o ≡ None → Bears o q
  none_named q None is = tt
  none_named q (Some d) is = absurd (cc)

  named_next : (b : Batch) (h : List Batch) (t : ℤ) (c : Bool) → AreNamed (at h t) → AreNamed (cond c (after_batch (at h t) b.writes b.time) (at h t))
  named_next b h t true named = at_own_names (at h t) b.writes b.time named
  named_next b h t false named = named

  pub own_names : (h : List Batch) (t : ℤ) → AreNamed (at h t)
  own_names [] t = λ q. none_named q (get (at [] t) q) (get-empty name_cmp q)
  own_names (b ∷ h) t = named_next b h t (int_le b.time t) (own_names h t)

  pub listed_by_name : (h : List Batch) (t : ℤ) → IsTrue (is_sorted name_cmp (by_name (values (at h t)))) × (docs_of (values (at h t)) ≡ at h t)
  listed_by_name h t = listed (at h t) (own_names h t)
