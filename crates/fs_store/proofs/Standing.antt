-- The documents that stand at names.
use Rattle.std.proofs.Common.{◌≡◌, ℕ, ℤ, Bool, true, false, cond, ◌||◌, List, [], ◌∷◌, map, Option, Some, None, refl, sym, ap, ◌∙◌, subst}
use Rattle.std.specs.Prelude.{IsTrue, reverse, unwrap_or}
use Rattle.std.specs.FinMap.{find, from_entries, get, get-from_entries, is_sorted}
use Rattle.std.specs.List.{list_any}
use Rattle.std.specs.List.Sorted.{IsStrictlySortedBy}
use Rattle.std.specs.Map.{keys_of}
use Rattle.std.specs.Ordering.{eq_by_cmp}
use Rattle.fs_path.specs.NameOrder.{name_cmp, name_cmp_total, name_eq, name_is}
use Rattle.fs_path.specs.declared.name.DocName.{DocName}
use Rattle.fs_value.specs.Named.{by_name}
use Rattle.fs_value.specs.declared.document.Document.{Document}
use Rattle.fs_value.proofs.Rising.{rising_entries}
use Rattle.fs_value.proofs.Tree.{entries_rising}
use Rattle.fs_write.specs.Batch.{AreNamed as StandNamed, Bears, Docs, docs_of}
use Rattle.fs_history.specs.declared.version.Version.{Version}
use Rattle.fs_history.proofs.NamesListed.{listed}
use Rattle.fs_match.specs.Event.{fitting, is_among}
use Rattle.fs_match.specs.Followed.{docs_fitting}
use Rattle.fs_match.proofs.Changes.{fitting_by_name}
use Rattle.fs_listen.proofs.Shown.{shown_where}
use Rattle.fs_versions.specs.Chain.{shown_at}
use Rattle.fs_versions.specs.Chains.{Chains, chain_of}
use Rattle.fs_versions.specs.Listed.{all_shown}
use Rattle.fs_versions.proofs.Cutting.{all_reverse}
use Rattle.fs_versions.proofs.Listing.{shown_values}
use Rattle.fs_store.specs.Held.{AreNamed}
use Rattle.fs_store.proofs.Listing.{ShowsNamed, Tree, bears_shown, shown_rise}

-- ---- their documents

abbrev pub chains_at : Chains → List DocName → Tree
chains_at v names = map (λ name. (name, chain_of v name)) names

module _ (v : Chains) (t : ℤ) where
  keys_again : (names : List DocName) → keys_of (chains_at v names) ≡ names
  keys_again [] = refl
  keys_again (name ∷ names) = ap (λ rest. name ∷ rest) (keys_again names)

  rise_at : (names : List DocName) → IsStrictlySortedBy name_cmp names → IsTrue (is_sorted name_cmp (chains_at v names))
  rise_at names rise = rising_entries name_cmp (chains_at v names) (subst (IsStrictlySortedBy name_cmp) (sym (keys_again names)) rise)

  found_at : (q : DocName) (names : List DocName) → find name_cmp q (chains_at v names) ≡ cond (list_any (name_eq q) names) (Some (chain_of v q)) None
  found_at q [] = refl
  found_at q (name ∷ names) = ap (cond (eq_by_cmp name_cmp q name) (Some (chain_of v name))) (found_at q names) ∙ first (eq_by_cmp name_cmp q name) refl where
    first : (here : Bool) → eq_by_cmp name_cmp q name ≡ here
        → cond here (Some (chain_of v name)) (cond (list_any (name_eq q) names) (Some (chain_of v q)) None) ≡ cond (here || list_any (name_eq q) names) (Some (chain_of v q)) None
    first true ties = ap (λ n. Some (chain_of v n)) (sym (name_is q name ties))
    first false ties = refl

  shown_where_found : (b : Bool) (vs : List Version) → cond b (shown_at t vs) None ≡ shown_at t (unwrap_or (cond b (Some vs) None) [])
  shown_where_found true vs = refl
  shown_where_found false vs = refl

  module _ (named : AreNamed v) where
    names_shown : (names : List DocName) → ShowsNamed t (chains_at v names)
    names_shown [] = tt
    names_shown (name ∷ names) = (
      bears_shown t name (reverse (chain_of v name)) (all_reverse (λ w. Bears w.after name) (chain_of v name) (named name)),
      names_shown names,
    )

    pub rise_standing : (names : List DocName) → IsStrictlySortedBy name_cmp names → IsTrue (is_sorted name_cmp (by_name (all_shown t (chains_at v names))))
    rise_standing names rise = shown_rise t (chains_at v names) (names_shown names) (rise_at names rise)

  module _ (docs : Docs) (own : StandNamed docs) (shows : (name : DocName) → get docs name ≡ shown_at t (chain_of v name)) (asked sorted : List DocName) (rise : IsStrictlySortedBy name_cmp sorted)
      (same : (q : DocName) → list_any (name_eq q) sorted ≡ list_any (name_eq q) asked) where
    abbrev standing : Docs
    standing = docs_fitting (is_among asked) docs

    got_at : (q : DocName) → get standing q ≡ shown_at t (unwrap_or (get (from_entries {R = name_cmp} (chains_at v sorted)) q) [])
    got_at q =
        fitting_by_name (is_among asked) docs q
        ∙ sym (shown_where asked q (get docs q) (own q))
        ∙ (λ i. cond (sym (same q) i) (shows q i) None)
        ∙ shown_where_found (list_any (name_eq q) sorted) (chain_of v q)
        ∙ ap (λ o. shown_at t (unwrap_or o [])) (sym (get-from_entries name_cmp_total (chains_at v sorted) q ∙ found_at q sorted))

    own_names : StandNamed standing
    own_names q = subst (λ o. Bears o q) (sym (fitting_by_name (is_among asked) docs q)) (kept (get docs q) (own q)) where
      kept : (o : Option Document) → Bears o q → Bears (fitting (is_among asked) o) q
      kept None bears = tt
      kept (Some d) bears = by_test (is_among asked d) where
        by_test : (b : Bool) → Bears (cond b (Some d) None) q
        by_test true = bears
        by_test false = tt

    pub docs_standing : docs_of (all_shown t (chains_at v sorted)) ≡ standing
    docs_standing =
        ap docs_of
        (ap (all_shown t) (sym (entries_rising name_cmp_total (chains_at v sorted) (rise_at sorted rise)))
        ∙ shown_values (from_entries {R = name_cmp} (chains_at v sorted)) standing t got_at)
        ∙ (listed standing own_names).1
