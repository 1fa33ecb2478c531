-- The documents that fit, and those of some names, as lists in the order of names; and what the view of a query has to do with the documents that
-- fit it: they tell it, and where nothing is cut it is all of them.
use Rattle.std.proofs.Common.{◌≡◌, ℕ, zero, suc, ◌<◌, ℤ, Bool, true, false, cond, ◌&&◌, ◌||◌, List, [], ◌∷◌, map, length, drop, Option, Some, None, refl, sym, ap, ◌∙◌, subst, arith}
use Rattle.std.specs.Prelude.{IfSome, IsTrue, int_le, is_none, pos, negsuc, slice_index_or}
use Rattle.std.specs.Cmp.{first_so, second_so}
use Rattle.std.specs.FinMap.{entries-from_sorted, find, get, get-entries, get-from_sorted, is_sorted, same_map, values}
use Rattle.std.specs.FinMap.Entries.{below_all}
use Rattle.std.specs.List.{AllByRecursion, Contains, filter, list_any}
use Rattle.std.specs.Ordering.{eq_by_cmp, is_lt}
use Rattle.std.proofs.lemmas.Bool.{and_from}
use Rattle.std.proofs.lemmas.Int.{ints}
use Rattle.fs_path.proofs.Bools.{from_true}
use Rattle.fs_path.specs.NameOrder.{name_cmp, name_cmp_total, name_eq, name_eq_equiv, name_is, name_itself, name_same}
use Rattle.fs_path.specs.declared.name.DocName.{DocName}
use Rattle.fs_value.specs.Named.{by_name}
use Rattle.fs_value.specs.declared.document.Document.{Document}
use Rattle.fs_write.specs.Batch.{AreNamed, Bears, Docs, docs_of}
use Rattle.fs_query.specs.Answer.{IsAnswer, count_of, cut, is_before_end, is_behind_start, limited}
use Rattle.fs_query.specs.AnswerTo.{answer_to, in_rise}
use Rattle.fs_query.specs.Asked.{Asked}
use Rattle.fs_query.specs.DocumentOrder.{orders_cmp}
use Rattle.fs_query.specs.Fits.{fits}
use Rattle.fs_query.specs.Laws.{AnswersFit, SomeAnswer}
use Rattle.fs_query.specs.Normal.{whole_order}
use Rattle.fs_query.specs.declared.target.Target.TheVariants as target
use Rattle.fs_query.proofs.Rising.{all_of}
use Rattle.fs_history.proofs.Names.{none_below}
use Rattle.fs_history.proofs.NamesListed.{listed, listed_entries}
use Rattle.fs_history.proofs.ReadsStay.{got_in, in_got}
use Rattle.fs_match.specs.Event.{fitting, is_among}
use Rattle.fs_match.specs.Followed.{docs_fitting}
use Rattle.fs_match.specs.Laws.{FittingByName}
use Rattle.fs_match.proofs.Changes.{fitting_by_name}
use Rattle.fs_listen.specs.View.{is_whole_query, view}
use Rattle.fs_listen.proofs.Filters.{filter_all, filter_alike, filter_twice}

-- ---- names

abbrev pub names_in : List Document → List DocName
names_in ds = map (λ (d : Document). d.name) ds

pub record Named (ds : List Document) (name : DocName) : Type 0 where
  pub document : Document
  pub there : Contains ds document
  pub bears : document.name ≡ name

pub among_is : (ds : List Document) (name : DocName) → list_any (λ n. name_eq n name) (names_in ds) ≡ true → Named ds name
among_is [] name is = absurd (cc)
among_is (d ∷ ds) name is = by_test (among_is ds name) (name_eq d.name name) refl is where
  by_test : (list_any (λ n. name_eq n name) (names_in ds) ≡ true → Named ds name) → (same : Bool) → name_eq d.name name ≡ same
      → (same || list_any (λ n. name_eq n name) (names_in ds)) ≡ true → Named (d ∷ ds) name
  by_test again true at is = record { document = d; there = (0, omega arith, refl); bears = name_is d.name name at }
  by_test again false at is =
      let more = again is in
      record { document = more.document; there = (suc more.there.0, omega (arith, more.there.1), more.there.2); bears = more.bears }

or_true : (a : Bool) → (a || true) ≡ true
or_true true = refl
or_true false = refl

pub among_has : (ds : List Document) (d : Document) (k : ℕ) → k < length ds → slice_index_or ds k d ≡ d → list_any (λ n. name_eq n d.name) (names_in ds) ≡ true
among_has [] d k within is = absurd (omega arith)
among_has (e ∷ ds) d zero within is = ap (λ b. b || list_any (λ n. name_eq n d.name) (names_in ds)) (ap (λ (x : Document). name_eq x.name d.name) is ∙ name_itself d.name)
among_has (e ∷ ds) d (suc k) within is = ap (λ b. name_eq e.name d.name || b) (among_has ds d k (omega arith) is) ∙ or_true (name_eq e.name d.name)

pub both_ways : (a b : Bool) → (a ≡ true → b ≡ true) → (b ≡ true → a ≡ true) → a ≡ b
both_ways true b first second = sym (first refl)
both_ways false true first second = second refl
both_ways false false first second = refl

-- what stands at a name among some
turned : (q : DocName) (names : List DocName) → list_any (name_eq q) names ≡ list_any (λ name. name_eq name q) names
turned q [] = refl
turned q (name ∷ names) = ap (λ b. b || list_any (name_eq q) names) (name_eq_equiv.symm q name) ∙ ap (λ b. name_eq name q || b) (turned q names)

pub shown_where : (names : List DocName) (q : DocName) (o : Option Document) → Bears o q → cond (list_any (name_eq q) names) o None ≡ fitting (is_among names) o
shown_where names q None bears = none (list_any (name_eq q) names) where
  none : (b : Bool) → cond {A = Option Document} b None None ≡ None
  none true = refl
  none false = refl
shown_where names q (Some d) bears =
    ap (λ b. cond b (Some d) None) (turned q names ∙ ap (λ n. list_any (λ name. name_eq name n) names) (sym bears))

-- ---- lists in the order of names

-- those of a list that fit
module _ (keep : Document → Bool) where
  below_fitting : (k : DocName) (ds : List Document) → IsTrue (below_all name_cmp k (by_name ds)) → IsTrue (below_all name_cmp k (by_name (filter keep ds)))
  below_fitting k [] below = refl
  below_fitting k (d ∷ ds) below =
      one (keep d) (first_so _ (below_all name_cmp k (by_name ds)) below) (below_fitting k ds (second_so (is_lt (name_cmp k d.name)) _ below)) where
        one : (fit : Bool) → IsTrue (is_lt (name_cmp k d.name)) → IsTrue (below_all name_cmp k (by_name (filter keep ds)))
            → IsTrue (below_all name_cmp k (by_name (cond fit (d ∷ filter keep ds) (filter keep ds))))
        one true less rest = and_from (is_lt (name_cmp k d.name)) _ less rest
        one false less rest = rest

  pub rise_fitting : (ds : List Document) → IsTrue (is_sorted name_cmp (by_name ds)) → IsTrue (is_sorted name_cmp (by_name (filter keep ds)))
  rise_fitting [] rise = refl
  rise_fitting (d ∷ ds) rise =
      one (keep d) (below_fitting d.name ds (first_so _ (is_sorted name_cmp (by_name ds)) rise)) (rise_fitting ds (second_so (below_all name_cmp d.name (by_name ds)) _ rise)) where
        one : (fit : Bool) → IsTrue (below_all name_cmp d.name (by_name (filter keep ds))) → IsTrue (is_sorted name_cmp (by_name (filter keep ds)))
            → IsTrue (is_sorted name_cmp (by_name (cond fit (d ∷ filter keep ds) (filter keep ds))))
        one true below rest = and_from (below_all name_cmp d.name (by_name (filter keep ds))) _ below rest
        one false below rest = rest

  find_fitting : (q : DocName) (ds : List Document) → IsTrue (is_sorted name_cmp (by_name ds)) → find name_cmp q (by_name (filter keep ds)) ≡ fitting keep (find name_cmp q (by_name ds))
  find_fitting q [] rise = refl
  find_fitting q (d ∷ ds) rise =
      one (keep d) (eq_by_cmp name_cmp q d.name) refl refl (find_fitting q ds (second_so (below_all name_cmp d.name (by_name ds)) _ rise)) where
        one : (fit here : Bool) → keep d ≡ fit → eq_by_cmp name_cmp q d.name ≡ here → find name_cmp q (by_name (filter keep ds)) ≡ fitting keep (find name_cmp q (by_name ds))
            → find name_cmp q (by_name (cond fit (d ∷ filter keep ds) (filter keep ds))) ≡ fitting keep (cond here (Some d) (find name_cmp q (by_name ds)))
        one true true is ties rest = ap (λ b. cond b (Some d) (find name_cmp q (by_name (filter keep ds)))) ties ∙ ap (λ b. cond b (Some d) None) (sym is)
        one true false is ties rest = ap (λ b. cond b (Some d) (find name_cmp q (by_name (filter keep ds)))) ties ∙ rest
        one false true is ties rest =
            rest
            ∙ ap (fitting keep) (ap (λ n. find name_cmp n (by_name ds)) (name_is q d.name ties) ∙ none_below d.name (by_name ds) (first_so _ (is_sorted name_cmp (by_name ds)) rise))
            ∙ ap (λ b. cond b (Some d) None) (sym is)
        one false false is ties rest = rest

-- the values of their map are the list again
pub values_again : (ds : List Document) → IsTrue (is_sorted name_cmp (by_name ds)) → values (docs_of ds) ≡ ds
values_again ds rise = ap (map (λ (e : DocName × Document). e.1)) (entries-from_sorted name_cmp (by_name ds) (from_true _ rise)) ∙ again ds where
  again : (xs : List Document) → map (λ (e : DocName × Document). e.1) (by_name xs) ≡ xs
  again [] = refl
  again (x ∷ xs) = ap (λ ys. x ∷ ys) (again xs)

-- documents that stand among others, each at its name
abbrev pub AreOf : Docs → List Document → Type 0
AreOf docs ds = AllByRecursion (λ (d : Document). get docs d.name ≡ Some d) ds

found_at : (docs : Docs) (ds : List Document) (q : DocName) → AreOf docs ds → find name_cmp q (by_name ds) ≡ cond (list_any (name_eq q) (names_in ds)) (get docs q) None
found_at docs [] q are = refl
found_at docs (d ∷ ds) q are = ap (cond (eq_by_cmp name_cmp q d.name) (Some d)) (found_at docs ds q are.1) ∙ first (eq_by_cmp name_cmp q d.name) refl where
  first : (here : Bool) → eq_by_cmp name_cmp q d.name ≡ here
      → cond here (Some d) (cond (list_any (name_eq q) (names_in ds)) (get docs q) None) ≡ cond (here || list_any (name_eq q) (names_in ds)) (get docs q) None
  first true ties = sym (ap (get docs) (name_is q d.name ties) ∙ are.0)
  first false ties = refl

-- ---- the documents of a moment

module _ (docs : Docs) (named : AreNamed docs) where
  at_own_name : (name : DocName) (d : Document) → get docs name ≡ Some d → d.name ≡ name
  at_own_name name d is = subst (λ o. IfSome o (λ (x : Document). x.name ≡ name)) is (named name)

  listed_rise : IsTrue (is_sorted name_cmp (by_name (values docs)))
  listed_rise = (listed docs named).0

  -- those that fit are those of the list that fit
  pub docs_where : (keep : Document → Bool) → docs_of (filter keep (values docs)) ≡ docs_fitting keep docs
  docs_where keep =
      same_map name_cmp_total name_same (docs_of (filter keep (values docs))) (docs_fitting keep docs)
      (λ q. get-from_sorted name_cmp (by_name (filter keep (values docs))) q (from_true _ (rise_fitting keep (values docs) listed_rise))
      ∙ find_fitting keep q (values docs) listed_rise
      ∙ ap (fitting keep) (ap (find name_cmp q) (listed_entries docs named) ∙ sym (get-entries docs q))
      ∙ sym (fitting_by_name keep docs q))

  pub values_fitting : (keep : Document → Bool) → values (docs_fitting keep docs) ≡ filter keep (values docs)
  values_fitting keep = ap values (sym (docs_where keep)) ∙ values_again (filter keep (values docs)) (rise_fitting keep (values docs) listed_rise)

  -- and those of some names
  pub docs_among : (ds : List Document) → AreOf docs ds → IsTrue (is_sorted name_cmp (by_name ds)) → docs_of ds ≡ docs_fitting (is_among (names_in ds)) docs
  docs_among ds are rise =
      same_map name_cmp_total name_same (docs_of ds) (docs_fitting (is_among (names_in ds)) docs)
      (λ q. get-from_sorted name_cmp (by_name ds) q (from_true _ rise)
      ∙ found_at docs ds q are
      ∙ shown_where (names_in ds) q (get docs q) (named q)
      ∙ sym (fitting_by_name (is_among (names_in ds)) docs q))

  -- ---- of a query

  module _ (some_answer : SomeAnswer) (answers_fit : AnswersFit) (by_fitting : FittingByName) (q : Asked) where
    abbrev answer : List Document
    answer = answer_to q (values docs)

    is_answer : IsAnswer q (values docs) answer
    is_answer = some_answer q (values docs) listed_rise

    -- what is shown fits
    shown_fits : (name : DocName) (d : Document) → get docs name ≡ Some d → is_among (names_in answer) d ≡ true → fits q d ≡ true
    shown_fits name d is among =
        let one = among_is answer d.name among in
        let both = answers_fit q (values docs) answer one.document is_answer one.there in
        let same : Some one.document ≡ Some d = sym (in_got docs named one.document both.0) ∙ ap (get docs) (one.bears ∙ at_own_name name d is) ∙ is in
        let document : one.document ≡ d = cc in
        subst (λ x. fits q x ≡ true) document both.1

    same_twice : (b : Bool) → (b && b) ≡ b
    same_twice true = refl
    same_twice false = refl

    answer_fitting : answer_to q (values (docs_fitting (fits q) docs)) ≡ answer
    answer_fitting =
        ap (λ ds. cut q (in_rise (orders_cmp (whole_order q)) ds))
        (ap (filter (fits q)) (values_fitting (fits q))
        ∙ filter_twice (fits q) (fits q) (values docs)
        ∙ filter_alike (λ d. fits q d && fits q d) (fits q) (values docs) (all_of (λ d. (fits q d && fits q d) ≡ fits q d) (values docs) (λ d has. same_twice (fits q d))))

    cut_twice : (name : DocName) (o : Option Document) → get docs name ≡ o → fitting (is_among (names_in answer)) (fitting (fits q) o) ≡ fitting (is_among (names_in answer)) o
    cut_twice name None is = refl
    cut_twice name (Some d) is = by_test (fits q d) (is_among (names_in answer) d) refl refl where
      by_test : (fit among : Bool) → fits q d ≡ fit → is_among (names_in answer) d ≡ among → fitting (is_among (names_in answer)) (cond fit (Some d) None) ≡ cond among (Some d) None
      by_test true among fit_is among_is = ap (λ b. cond b (Some d) None) among_is
      by_test false true fit_is among_is = absurd (let both : false ≡ true = sym fit_is ∙ shown_fits name d is among_is in cc)
      by_test false false fit_is among_is = refl

    pub view_fitting : view (target.Query q) (docs_fitting (fits q) docs) ≡ view (target.Query q) docs
    view_fitting =
        ap (λ ds. docs_fitting (is_among (names_in ds)) (docs_fitting (fits q) docs)) answer_fitting
        ∙ same_map name_cmp_total name_same (docs_fitting (is_among (names_in answer)) (docs_fitting (fits q) docs)) (docs_fitting (is_among (names_in answer)) docs)
        (λ name. by_fitting (is_among (names_in answer)) (docs_fitting (fits q) docs) name
        ∙ ap (fitting (is_among (names_in answer))) (by_fitting (fits q) docs name)
        ∙ cut_twice name (get docs name) refl
        ∙ sym (by_fitting (is_among (names_in answer)) docs name))

    -- ---- that isn't cut

    none_is : {X : Type 0} (o : Option X) → is_none o ≡ true → o ≡ None
    none_is None is = refl
    none_is (Some x) is = absurd (cc)

    none_counted : (n : ℤ) → int_le n (pos 0) ≡ true → count_of n ≡ 0
    none_counted (pos zero) is = refl
    none_counted (pos (suc n)) is = absurd (let none : false ≡ true = sym (above n) ∙ is in cc) where
      above : (m : ℕ) → int_le (pos (suc m)) (pos 0) ≡ false
      above m = grind (arith, ints)
    none_counted (negsuc n) is = refl

    all_answered : is_whole_query q ≡ true → (ds : List Document) → cut q ds ≡ ds
    all_answered whole ds =
        let start = none_is q.start (first_so _ _ whole) in
        let more = second_so (is_none q.start) _ whole in
        let end = none_is q.end (first_so _ _ more) in
        let rest = second_so (is_none q.end) _ more in
        let offset = none_counted q.offset (first_so _ _ rest) in
        let limit = none_is q.limit (second_so (int_le q.offset (pos 0)) _ rest) in
        (λ i. limited (limit i) (drop (offset i) (filter (λ d. is_behind_start (whole_order q) (start i) d && is_before_end (whole_order q) (end i) d) ds)))
        ∙ filter_all (λ d. true) ds (all_of (λ d. true ≡ true) ds (λ d has. refl))

    all_shown : is_whole_query q ≡ true → (name : DocName) (d : Document) → get docs name ≡ Some d → fits q d ≡ true → is_among (names_in answer) d ≡ true
    all_shown whole name d is fit =
        let there = (is_answer.are_fitting.fitting d).1 (got_in docs named d (ap (get docs) (at_own_name name d is) ∙ is), fit) in
        let same = is_answer.is_cut ∙ all_answered whole is_answer.all in
        let answered = subst (λ ds. Contains ds d) (sym same) there in
        among_has answer d answered.0 answered.1 answered.2

    fit_alike : is_whole_query q ≡ true → (name : DocName) (o : Option Document) → get docs name ≡ o → fitting (fits q) o ≡ fitting (is_among (names_in answer)) o
    fit_alike whole name None is = refl
    fit_alike whole name (Some d) is =
        ap (λ b. cond b (Some d) None) (both_ways (fits q d) (is_among (names_in answer) d) (all_shown whole name d is) (shown_fits name d is))

    pub view_whole : is_whole_query q ≡ true → docs_fitting (fits q) docs ≡ view (target.Query q) docs
    view_whole whole =
        same_map name_cmp_total name_same (docs_fitting (fits q) docs) (view (target.Query q) docs)
        (λ name. by_fitting (fits q) docs name ∙ fit_alike whole name (get docs name) refl ∙ sym (by_fitting (is_among (names_in answer)) docs name))
