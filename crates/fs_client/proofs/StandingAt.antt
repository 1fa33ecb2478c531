-- The documents that stand at names which rise: those of all whose names are among them, by rising names.
use Rattle.std.proofs.Common.{◌≡◌, Bool, true, false, cond, ◌||◌, List, [], ◌∷◌, Option, Some, None, refl, sym, ap, ◌∙◌, subst}
use Rattle.std.specs.Prelude.{IsTrue}
use Rattle.std.specs.FinMap.{find, get, get-from_sorted, is_sorted, same_map, values}
use Rattle.std.specs.FinMap.Entries.{below_all}
use Rattle.std.specs.List.{AllByRecursion, cons_option, filter_map, list_any}
use Rattle.std.specs.List.Sorted.{IsStrictlySortedBy}
use Rattle.std.specs.Ordering.{is_lt}
use Rattle.std.specs.declared.cmp.Ordering.TheVariants.{Less}
use Rattle.std.proofs.lemmas.Bool.{and_from}
use Rattle.fs_path.proofs.Bools.{from_true}
use Rattle.fs_path.specs.NameOrder.{name_cmp, name_cmp_total, name_eq, name_is, name_same}
use Rattle.fs_path.specs.declared.name.DocName.{DocName}
use Rattle.fs_value.specs.Named.{by_name}
use Rattle.fs_value.specs.declared.document.Document.{Document}
use Rattle.fs_write.specs.Batch.{AreNamed, Bears, Docs, docs_of}
use Rattle.fs_match.specs.Event.{is_among}
use Rattle.fs_match.specs.Followed.{docs_fitting}
use Rattle.fs_match.proofs.Changes.{fitting_by_name}
use Rattle.fs_listen.proofs.Shown.{shown_where, values_again}

-- ---- in front of others

found_with : (q name : DocName) (names : List DocName) (found : Option Document) (ds : List Document) (o : Option Document) → Bears o name → (name_eq q name ≡ true → found ≡ o)
    → find name_cmp q (by_name ds) ≡ cond (list_any (name_eq q) names) found None
    → find name_cmp q (by_name (cons_option o ds)) ≡ cond (name_eq q name || list_any (name_eq q) names) found None
found_with q name names found ds None bears same rest = rest ∙ none (name_eq q name) (list_any (name_eq q) names) same where
  none : (here later : Bool) → (here ≡ true → found ≡ None) → cond later found None ≡ cond (here || later) found None
  none true true same = refl
  none true false same = sym (same refl)
  none false later same = refl
found_with q name names found ds (Some d) bears same rest =
    ap (cond (name_eq q d.name) (Some d)) rest ∙ ap (λ n. cond (name_eq q n) (Some d) (cond (list_any (name_eq q) names) found None)) bears ∙ one (name_eq q name) same where
      one : (here : Bool) → (here ≡ true → found ≡ Some d) → cond here (Some d) (cond (list_any (name_eq q) names) found None) ≡ cond (here || list_any (name_eq q) names) found None
      one true same = sym (same refl)
      one false same = refl

below_with : (k name : DocName) (o : Option Document) (ds : List Document) → Bears o name → name_cmp k name ≡ Less → IsTrue (below_all name_cmp k (by_name ds)) → IsTrue (below_all name_cmp k (by_name (cons_option o ds)))
below_with k name None ds bears less more = more
below_with k name (Some d) ds bears less more = and_from (is_lt (name_cmp k d.name)) _ (ap is_lt (ap (name_cmp k) bears ∙ less)) more

rise_with : (name : DocName) (o : Option Document) (ds : List Document) → Bears o name → IsTrue (below_all name_cmp name (by_name ds)) → IsTrue (is_sorted name_cmp (by_name ds)) → IsTrue (is_sorted name_cmp (by_name (cons_option o ds)))
rise_with name None ds bears below rise = rise
rise_with name (Some d) ds bears below rise =
    and_from (below_all name_cmp d.name (by_name ds)) _ (subst (λ n. IsTrue (below_all name_cmp n (by_name ds))) (sym bears) below) rise

-- ---- the documents

-- those that stand at names
abbrev pub standing_at : (DocName → Option Document) → List DocName → List Document
standing_at there names = filter_map there names

module _ (docs : Docs) (named : AreNamed docs) where
  abbrev standing : List DocName → List Document
  standing names = standing_at (get docs) names

  found_at : (q : DocName) (names : List DocName) → find name_cmp q (by_name (standing names)) ≡ cond (list_any (name_eq q) names) (get docs q) None
  found_at q [] = refl
  found_at q (name ∷ names) =
      found_with q name names (get docs q) (standing names) (get docs name) (named name) (λ ties. ap (get docs) (name_is q name ties)) (found_at q names)

  below_standing : (k : DocName) (names : List DocName) → AllByRecursion (λ name. name_cmp k name ≡ Less) names → IsTrue (below_all name_cmp k (by_name (standing names)))
  below_standing k [] below = refl
  below_standing k (name ∷ names) below = below_with k name (get docs name) (standing names) (named name) below.0 (below_standing k names below.1)

  rise_standing : (names : List DocName) → IsStrictlySortedBy name_cmp names → IsTrue (is_sorted name_cmp (by_name (standing names)))
  unfolding IsStrictlySortedBy
  rise_standing [] rise = refl
  rise_standing (name ∷ names) rise =
      rise_with name (get docs name) (standing names) (named name) (below_standing name names rise.0) (rise_standing names rise.1)

  -- at the names that are asked for, in order
  pub standing_values : (asked sorted : List DocName) → IsStrictlySortedBy name_cmp sorted → ((q : DocName) → list_any (name_eq q) sorted ≡ list_any (name_eq q) asked)
      → standing sorted ≡ values (docs_fitting (is_among asked) docs)
  standing_values asked sorted rise same =
      let rising = rise_standing sorted rise in
      sym (values_again (standing sorted) rising)
      ∙ ap values
      (same_map name_cmp_total name_same (docs_of (standing sorted)) (docs_fitting (is_among asked) docs)
      (λ q. get-from_sorted name_cmp (by_name (standing sorted)) q (from_true _ rising)
      ∙ found_at q sorted
      ∙ ap (λ b. cond b (get docs q) None) (same q)
      ∙ shown_where asked q (get docs q) (named q)
      ∙ sym (fitting_by_name (is_among asked) docs q)))
