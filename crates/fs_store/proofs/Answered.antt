-- The documents of an answer in the order of names.
use Rattle.std.proofs.Common.{◌≡◌, Bool, true, false, cond, List, [], ◌∷◌, ◌++◌, Option, Some, None, refl, sym, ap, ◌∙◌, subst}
use Rattle.std.specs.Prelude.{IsTrue}
use Rattle.std.specs.FinMap.{find, get, get-from_sorted, is_sorted, same_map, values}
use Rattle.std.specs.FinMap.Entries.{below_all}
use Rattle.std.specs.List.{AllByRecursion, Contains, IsDistinct, list_any}
use Rattle.std.specs.List.Sorted.{IsPermutation, IsSortedByKey, IsStrictlySortedBy}
use Rattle.std.specs.Ordering.{eq_by_cmp, is_lt, on}
use Rattle.std.specs.declared.cmp.Ordering.{Ordering}
use Rattle.std.specs.declared.cmp.Ordering.TheVariants.{Less}
use Rattle.std.proofs.lemmas.Bool.{and_from}
use Rattle.std.proofs.lemmas.Cmp.{on_total}
use Rattle.std.proofs.lemmas.List.{append_assoc}
use Rattle.std.proofs.lemmas.List.Sorted.{Contains-permutation, IsPermutation-sym}
use Rattle.std.proofs.lemmas.Map.Keys.{IsDistinct-IsPermutation, IsDistinct-cons}
use Rattle.fs_path.proofs.Bools.{from_true}
use Rattle.fs_path.proofs.Elements.{has_first, has_later}
use Rattle.fs_path.specs.NameOrder.{name_cmp, name_cmp_total, name_eq, name_eq_equiv, name_is, name_same}
use Rattle.fs_path.specs.declared.name.DocName.{DocName}
use Rattle.fs_value.specs.Named.{by_name}
use Rattle.fs_value.specs.declared.document.Document.{Document}
use Rattle.fs_write.specs.Batch.{AreNamed, Bears, Docs, docs_of}
use Rattle.fs_query.specs.Answer.{IsAnswer}
use Rattle.fs_query.specs.AnswerTo.{answer_to}
use Rattle.fs_query.specs.Asked.{Asked}
use Rattle.fs_query.specs.Laws.{AnsweredOnce, AnswersFit, OneAnswer, SomeAnswer}
use Rattle.fs_query.specs.declared.target.Target.TheVariants as target
use Rattle.fs_query.proofs.Rising.{all_of, below_of, rise_rest, rise_sorted}
use Rattle.fs_history.proofs.NamesListed.{listed}
use Rattle.fs_history.proofs.ReadsStay.{in_got}
use Rattle.fs_match.specs.Event.{fitting, is_among}
use Rattle.fs_match.specs.Followed.{docs_fitting}
use Rattle.fs_match.proofs.Changes.{fitting_by_name}
use Rattle.fs_listen.specs.View.{view}
use Rattle.fs_listen.proofs.Shown.{AreOf, among_has, among_is, both_ways, docs_among, names_in}

-- ---- documents by names

abbrev by_names : Document → Document → Ordering
by_names = on (λ (d : Document). d.name) name_cmp

below_each : (d : Document) (ds : List Document) → AllByRecursion (λ e. by_names d e ≡ Less) ds → IsTrue (below_all name_cmp d.name (by_name ds))
below_each d [] all = refl
below_each d (e ∷ ds) all = and_from (is_lt (name_cmp d.name e.name)) _ (ap is_lt all.0) (below_each d ds all.1)

rise_each : (ds : List Document) → IsStrictlySortedBy by_names ds → IsTrue (is_sorted name_cmp (by_name ds))
rise_each [] rise = refl
rise_each (d ∷ ds) rise = and_from (below_all name_cmp d.name (by_name ds)) _ (below_each d ds (below_of by_names d ds rise)) (rise_each ds (rise_rest by_names d ds rise))

-- the documents of a list stand at their own names
found_named : (q : DocName) (ds : List Document) → Bears (find name_cmp q (by_name ds)) q
found_named q [] = tt
found_named q (d ∷ ds) = by_test (eq_by_cmp name_cmp q d.name) refl (found_named q ds) where
  by_test : (here : Bool) → eq_by_cmp name_cmp q d.name ≡ here → Bears (find name_cmp q (by_name ds)) q → Bears (cond here (Some d) (find name_cmp q (by_name ds))) q
  by_test true ties rest = sym (name_is q d.name ties)
  by_test false ties rest = rest

pub list_named : (ds : List Document) → IsTrue (is_sorted name_cmp (by_name ds)) → AreNamed (docs_of ds)
list_named ds rise q = subst (λ o. Bears o q) (sym (get-from_sorted name_cmp (by_name ds) q (from_true _ rise))) (found_named q ds)

-- ---- of an answer

module _ (once : AnsweredOnce) (fit : AnswersFit) (q : Asked) (docs : Docs) (named : AreNamed docs) (answer : List Document) (is : IsAnswer q (values docs) answer) where
  there : (d : Document) → Contains answer d → get docs d.name ≡ Some d
  there d has = in_got docs named d (fit q (values docs) answer d is has).0

  apart : (d : Document) (ds : List Document) → get docs d.name ≡ Some d → AreOf docs ds → ¬ Contains ds d → AllByRecursion (λ e. eq_by_cmp by_names d e ≡ false) ds
  apart d [] here are none = tt
  apart d (e ∷ ds) here are none = (other (eq_by_cmp name_cmp d.name e.name) refl, apart d ds here are.1 (λ has. none (has_later e ds d has))) where
    other : (same : Bool) → eq_by_cmp name_cmp d.name e.name ≡ same → same ≡ false
    other false ties = refl
    other true ties =
        let both : Some e ≡ Some d = sym are.0 ∙ ap (get docs) (sym (name_is d.name e.name ties)) ∙ here in
        let one : e ≡ d = cc in
        absurd (none (subst (Contains (e ∷ ds)) one (has_first e ds)))

  distinct_behind : (front ds : List Document) → IsAnswer q (values docs) (front ++ ds) → AreOf docs ds → IsDistinct (eq_by_cmp by_names) ds
  unfolding IsDistinct
  distinct_behind front [] answers are = tt
  distinct_behind front (d ∷ ds) answers are =
      IsDistinct-cons (eq_by_cmp by_names) d ds (apart d ds are.0 are.1 (once q (values docs) front ds d answers).1)
      (distinct_behind (front ++ d ∷ []) ds (subst (IsAnswer q (values docs)) (sym (append_assoc front (d ∷ []) ds)) answers) are.1)

  module _ (ds : List Document) (moved : IsPermutation answer ds) (rise : IsSortedByKey (λ (d : Document). d.name) name_cmp ds) where
    are_of : AreOf docs ds
    are_of = all_of (λ (d : Document). get docs d.name ≡ Some d) ds (λ d has. there d (Contains-permutation ds answer d (IsPermutation-sym answer ds moved) has))

    pub rise_answered : IsTrue (is_sorted name_cmp (by_name ds))
    rise_answered =
        rise_each ds
        (rise_sorted by_names (on_total (λ (d : Document). d.name) name_cmp_total) ds rise
        (IsDistinct-IsPermutation (eq_by_cmp by_names) (λ d e. name_eq_equiv.symm d.name e.name) answer ds moved
        (distinct_behind [] answer is (all_of (λ (d : Document). get docs d.name ≡ Some d) answer there))))

    -- the names are those of the answer
    among_moved : (xs ys : List Document) → IsPermutation xs ys → (d : Document) → is_among (names_in xs) d ≡ true → is_among (names_in ys) d ≡ true
    among_moved xs ys turns d among =
        let one = among_is xs d.name among in
        let has = Contains-permutation xs ys one.document turns one.there in
        subst (λ name. list_any (λ n. name_eq n name) (names_in ys) ≡ true) one.bears (among_has ys one.document has.0 has.1 has.2)

    alike : (o : Option Document) → fitting (is_among (names_in ds)) o ≡ fitting (is_among (names_in answer)) o
    alike None = refl
    alike (Some d) =
        ap (λ b. cond b (Some d) None)
        (both_ways (is_among (names_in ds) d) (is_among (names_in answer) d) (among_moved ds answer (IsPermutation-sym answer ds moved) d) (among_moved answer ds moved d))

    pub view_answered : OneAnswer → SomeAnswer → docs_of ds ≡ view (target.Query q) docs
    view_answered one some =
        docs_among docs named ds are_of rise_answered
        ∙ same_map name_cmp_total name_same (docs_fitting (is_among (names_in ds)) docs) (docs_fitting (is_among (names_in answer)) docs)
        (λ name. fitting_by_name (is_among (names_in ds)) docs name ∙ alike (get docs name) ∙ sym (fitting_by_name (is_among (names_in answer)) docs name))
        ∙ ap (λ (found : List Document). docs_fitting (is_among (names_in found)) docs)
        (one q (values docs) answer (answer_to q (values docs)) is (some q (values docs) (listed docs named).0))
