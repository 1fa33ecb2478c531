-- The laws of answers.
use Rattle.std.proofs.Common.{◌≡◌, ℕ, ◌+◌, Bool, true, false, cond, List, [], ◌∷◌, ◌++◌, take, drop, Less, Equal, Greater, inl, inr, refl, sym, ap, ◌∙◌, subst}
use Rattle.std.specs.Prelude.{ℤ, Option, Some, None, option_map, ◌&&◌}
use Rattle.std.specs.FinMap.{is_sorted}
use Rattle.std.specs.FinMap.Entries.{below_all}
use Rattle.std.specs.List.{Contains, filter, list_all, IsDistinct}
use Rattle.std.specs.List.Sorted.{IsStrictlySortedBy, IsSorted, IsPermutation}
use Rattle.std.specs.Ordering.{is_eq, is_lt, is_gt, ordering_reverse, eq_by_cmp}
use Rattle.std.specs.declared.cmp.Ordering.{Ordering}
use Rattle.std.proofs.lemmas.Cmp.{tied_itself}
use Rattle.std.proofs.lemmas.List.{take-append-drop, append_assoc, drop-take}
use Rattle.std.proofs.lemmas.List.Elements.{Contains-append_left, Contains-append_right, Contains-append_cases}
use Rattle.fs_path.specs.NameOrder.{name_cmp, name_cmp_total}
use Rattle.fs_path.specs.Scope.{covers}
use Rattle.fs_path.specs.declared.name.DocName.{DocName}
use Rattle.fs_value.specs.Named.{by_name}
use Rattle.fs_value.specs.declared.document.Document.{Document}
use Rattle.fs_query.specs.Answer.{AreFitting, IsAnswer, count_of, limited, cut, is_between, is_behind_start, is_before_end, place_cmp}
use Rattle.fs_query.specs.AnswerTo.{in_rise}
use Rattle.fs_query.specs.Asked.{Asked}
use Rattle.fs_query.specs.DocumentOrder.{orders_cmp}
use Rattle.fs_query.specs.Found.{few, is_asked, most_of, KeepsFirst}
use Rattle.fs_query.specs.Fits.{fits, has_field, meets}
use Rattle.fs_query.specs.Laws.{OneAnswer, SomeAnswer, AnswersFit, AnsweredOnce, OthersDoNotCount, PagesGoOn, behind, values_of}
use Rattle.fs_query.specs.Normal.{whole_order}
use Rattle.fs_query.proofs.CursorLaws.{beside_document, behind_started, first_true, second_true}
use Rattle.fs_query.proofs.Foremost.{told, keeps_sorted}
use Rattle.fs_query.proofs.OrderLaws.{orders_total, tells_names, name_is_ordered}
use Rattle.fs_path.proofs.Elements.{has_first, has_later}
use Rattle.fs_query.proofs.Rising.{has_none, has_cases, has_kept, has_taken, has_left, keeps, all_of, rise_kept, rise_taken, rise_left, rise_rest, rise_behind, first_below, front_below, only_one, in_rise_rises, from_rise, to_rise, not_below_itself, not_both_below}
use Rattle.fs_path.proofs.Orders.{less_is}

-- the order of a query's documents
abbrev pub by_query : Asked → Document → Document → Ordering
by_query q = orders_cmp (whole_order q)

-- ---- there is no more than one answer

fitting_alike : (q : Asked) (docs all more : List Document) → AreFitting q docs all → AreFitting q docs more → all ≡ more
fitting_alike q docs all more a b =
    only_one (by_query q) (orders_total (whole_order q)) all more a.rise b.rise (λ d h. (b.fitting d).1 ((a.fitting d).0 h)) (λ d h. (a.fitting d).1 ((b.fitting d).0 h))

pub one_answer : OneAnswer
one_answer q docs a b x y = x.is_cut ∙ ap (cut q) (fitting_alike q docs x.all y.all x.are_fitting y.are_fitting) ∙ sym y.is_cut

-- ---- over documents whose names rise there is one

below_names : (n : DocName) (ds : List Document) (d : Document) → below_all name_cmp n (by_name ds) ≡ true → Contains ds d → name_cmp n d.name ≡ Less
below_names n [] d h k = absurd (has_none d k)
below_names n (e ∷ ds) d h k =
    elim (has_cases e ds d k) [
      | inl s ↦ subst (λ z. name_cmp n z.name ≡ Less) s (less_is (name_cmp n e.name) (first_true (is_lt (name_cmp n e.name)) (below_all name_cmp n (by_name ds)) h))
      | inr s ↦ below_names n ds d (second_true (is_lt (name_cmp n e.name)) (below_all name_cmp n (by_name ds)) h) s
    ]

-- names that rise differ
names_apart : (a b : Document) → name_cmp a.name b.name ≡ Less → ¬ (a.name ≡ b.name)
names_apart a b less same = absurd (cc (less, sym (ap (λ n. name_cmp a.name n) same), tied_itself name_cmp_total a.name))

one_of_name : (docs : List Document) (a b : Document) → is_sorted name_cmp (by_name docs) ≡ true → Contains docs a → Contains docs b → a.name ≡ b.name → a ≡ b
one_of_name [] a b up h k same = absurd (has_none a h)
one_of_name (d ∷ ds) a b up h k same =
    let below = first_true (below_all name_cmp d.name (by_name ds)) (is_sorted name_cmp (by_name ds)) up in
    let rest = second_true (below_all name_cmp d.name (by_name ds)) (is_sorted name_cmp (by_name ds)) up in
    elim (has_cases d ds a h) [
      | inl s ↦ elim (has_cases d ds b k) [
        | inl t ↦ sym s ∙ t
        | inr t ↦ absurd (names_apart d b (below_names d.name ds b below t) (ap (λ z. z.name) s ∙ same))
      ]
      | inr s ↦ elim (has_cases d ds b k) [
        | inl t ↦ absurd (names_apart d a (below_names d.name ds a below s) (ap (λ z. z.name) t ∙ sym same))
        | inr t ↦ one_of_name ds a b rest s t same
      ]
    ]

-- those that fit, in order
abbrev pub in_order : Asked → List Document → List Document
in_order q docs = in_rise (by_query q) (filter (fits q) docs)

pub in_order_fit : (q : Asked) (docs : List Document) → is_sorted name_cmp (by_name docs) ≡ true → AreFitting q docs (in_order q docs)
in_order_fit q docs up =
    let total = orders_total (whole_order q) in
    record {
      rise = in_rise_rises (by_query q) total (filter (fits q) docs);
      fitting = λ d. (
        λ h. has_kept (fits q) docs d (from_rise (by_query q) total (filter (fits q) docs) d h),
        λ h. to_rise (by_query q) total (filter (fits q) docs)
            (λ a b p r e. one_of_name docs a b up (has_kept (fits q) docs a p).0 (has_kept (fits q) docs b r).0 (tells_names (whole_order q) a b (name_is_ordered q) e))
            d (keeps (fits q) docs d h.0 h.1),
      );
    }

pub some_answer : SomeAnswer
some_answer q docs up = record { all = in_order q docs; are_fitting = in_order_fit q docs up; is_cut = refl }

-- ---- what is answered fits, and is answered once

has_limited : (limit : Option ℤ) (ds : List Document) (d : Document) → Contains (limited limit ds) d → Contains ds d
has_limited None ds d h = h
has_limited (Some n) ds d h = has_taken (count_of n) ds d h

has_cut : (q : Asked) (all : List Document) (d : Document) → Contains (cut q all) d → Contains (filter (is_between q) all) d
has_cut q all d h = has_left (count_of q.offset) (filter (is_between q) all) d (has_limited q.limit (drop (count_of q.offset) (filter (is_between q) all)) d h)

pub answers_fit : AnswersFit
answers_fit q docs a d x h = (x.are_fitting.fitting d).0 (has_kept (is_between q) x.all d (has_cut q x.all d (subst (λ ds. Contains ds d) x.is_cut h))).0

rise_limited : (q : Asked) (limit : Option ℤ) (ds : List Document) → IsStrictlySortedBy (by_query q) ds → IsStrictlySortedBy (by_query q) (limited limit ds)
rise_limited q None ds h = h
rise_limited q (Some n) ds h = rise_taken (by_query q) (count_of n) ds h

answer_rises : (q : Asked) (docs a : List Document) → IsAnswer q docs a → IsStrictlySortedBy (by_query q) a
answer_rises q docs a x =
    subst (IsStrictlySortedBy (by_query q)) (sym x.is_cut)
    (rise_limited q q.limit (drop (count_of q.offset) (filter (is_between q) x.all)) (rise_left (by_query q) (count_of q.offset) (filter (is_between q) x.all) (rise_kept (by_query q) (is_between q) x.all x.are_fitting.rise)))

pub answered_once : AnsweredOnce
answered_once q docs front back d x =
    let up = answer_rises q docs (front ++ d ∷ back) x in
    let total = orders_total (whole_order q) in (
      λ h. not_below_itself (by_query q) total d (front_below (by_query q) front d back d up h),
      λ h. not_below_itself (by_query q) total d (first_below (by_query q) d back d (rise_behind (by_query q) front (d ∷ back) up) h),
    )

-- ---- a document that doesn't fit changes no answer

has_beside : (front back : List Document) (d e : Document) → Contains (front ++ back) e → Contains (front ++ d ∷ back) e
has_beside front back d e h =
    elim (Contains-append_cases front back e h) [
      | inl s ↦ Contains-append_left front (d ∷ back) e s
      | inr s ↦ Contains-append_right front (d ∷ back) e (has_later d back e s)
    ]

has_other : (front back : List Document) (d e : Document) → ¬ (d ≡ e) → Contains (front ++ d ∷ back) e → Contains (front ++ back) e
has_other front back d e other h =
    elim (Contains-append_cases front (d ∷ back) e h) [
      | inl s ↦ Contains-append_left front back e s
      | inr s ↦ elim (has_cases d back e s) [ inl t ↦ absurd (other t) | inr t ↦ Contains-append_right front back e t ]
    ]

pub others_do_not_count : OthersDoNotCount
others_do_not_count q front back a d out = (
  λ x. record {
    all = x.all;
    are_fitting = record {
      rise = x.are_fitting.rise;
      fitting = λ e. (
        λ h. let f = (x.are_fitting.fitting e).0 h in (has_beside front back d e f.0, f.1),
        λ h. (x.are_fitting.fitting e).1 (has_other front back d e (λ s. absurd (cc (out, ap (fits q) s, h.1))) h.0, h.1),
      );
    };
    is_cut = x.is_cut;
  },
  λ x. record {
    all = x.all;
    are_fitting = record {
      rise = x.are_fitting.rise;
      fitting = λ e. (
        λ h. let f = (x.are_fitting.fitting e).0 h in (has_other front back d e (λ s. absurd (cc (out, ap (fits q) s, f.1))) f.0, f.1),
        λ h. (x.are_fitting.fitting e).1 (has_beside front back d e h.0, h.1),
      );
    };
    is_cut = x.is_cut;
  },
)

-- ---- a page goes on where the one before it ended

both : (a b : Bool) → a ≡ true → b ≡ true → (a && b) ≡ true
both true b p q = q
both false b p q = absurd (cc)

-- what stands behind a document of those that are kept
module _ (q : Asked) (docs all front back : List Document) (d : Document) (fitting : AreFitting q docs all) (split : filter (is_between q) all ≡ front ++ d ∷ back) where
  kept_rise : IsStrictlySortedBy (by_query q) (front ++ d ∷ back)
  kept_rise = subst (IsStrictlySortedBy (by_query q)) split (rise_kept (by_query q) (is_between q) all fitting.rise)

  kept : (e : Document) → Contains (front ++ d ∷ back) e → Contains all e × (is_between q e ≡ true)
  kept e h = has_kept (is_between q) all e (subst (λ ds. Contains ds e) (sym split) h)

  last_kept : Contains all d × (is_between q d ≡ true)
  last_kept = kept d (Contains-append_right front (d ∷ back) d (has_first d back))

  last_has_fields : list_all (has_field d) (whole_order q) ≡ true
  last_has_fields =
      let fit : fits q d ≡ true = ((fitting.fitting d).0 last_kept.0).1 in
      first_true (list_all (has_field d) (whole_order q)) (meets q.filter d)
      (second_true (covers q.scope d.name) (list_all (has_field d) (whole_order q) && meets q.filter d) fit)

  is_greater : (r : Ordering) → is_gt r ≡ true → r ≡ Greater
  is_greater Less e = absurd (cc)
  is_greater Equal e = absurd (cc)
  is_greater Greater e = refl

  later_kept : (e : Document) → Contains back e → Contains (filter (is_between (behind q d)) all) e
  later_kept e h =
      let there = kept e (Contains-append_right front (d ∷ back) e (has_later d back e h)) in
      let less : by_query q d e ≡ Less = first_below (by_query q) d back e (rise_behind (by_query q) front (d ∷ back) kept_rise) h in
      let greater : by_query q e d ≡ Greater = (orders_total (whole_order q)).antisymm e d ∙ ap ordering_reverse less in
      let behind_it : is_gt (place_cmp (whole_order q) (values_of (whole_order q) d) e) ≡ true = ap is_gt (beside_document (whole_order q) d e last_has_fields ∙ greater) in
      keeps (is_between (behind q d)) all e there.0
      (both (is_gt (place_cmp (whole_order q) (values_of (whole_order q) d) e)) (is_before_end (whole_order q) q.end e) behind_it
      (second_true (is_behind_start (whole_order q) q.start e) (is_before_end (whole_order q) q.end e) there.1))

  kept_later : (e : Document) → Contains (filter (is_between (behind q d)) all) e → Contains back e
  kept_later e h =
      let there = has_kept (is_between (behind q d)) all e h in
      let behind_it : is_gt (place_cmp (whole_order q) (values_of (whole_order q) d) e) ≡ true =
      first_true (is_gt (place_cmp (whole_order q) (values_of (whole_order q) d) e)) (is_before_end (whole_order q) q.end e) there.1 in
      let ended : is_before_end (whole_order q) q.end e ≡ true =
      second_true (is_gt (place_cmp (whole_order q) (values_of (whole_order q) d) e)) (is_before_end (whole_order q) q.end e) there.1 in
      let greater : by_query q e d ≡ Greater = is_greater (by_query q e d) (ap is_gt (sym (beside_document (whole_order q) d e last_has_fields)) ∙ behind_it) in
      let less : by_query q d e ≡ Less = (orders_total (whole_order q)).antisymm d e ∙ ap ordering_reverse greater in
      let started : is_behind_start (whole_order q) q.start e ≡ true =
      behind_started (whole_order q) q.start d e less (first_true (is_behind_start (whole_order q) q.start d) (is_before_end (whole_order q) q.end d) last_kept.1) in
      let among : Contains (front ++ d ∷ back) e =
      subst (λ ds. Contains ds e) split (keeps (is_between q) all e there.0 (both (is_behind_start (whole_order q) q.start e) (is_before_end (whole_order q) q.end e) started ended)) in
      elim (Contains-append_cases front (d ∷ back) e among) [
        | inl s ↦ absurd (not_both_below (by_query q) (orders_total (whole_order q)) d e less (front_below (by_query q) front d back e kept_rise s))
        | inr s ↦ elim (has_cases d back e s) [
          | inl t ↦ absurd (not_below_itself (by_query q) (orders_total (whole_order q)) e (subst (λ z. by_query q z e ≡ Less) t less))
          | inr t ↦ t
        ]
      ]

  rest_is : filter (is_between (behind q d)) all ≡ back
  rest_is =
      only_one (by_query q) (orders_total (whole_order q)) (filter (is_between (behind q d)) all) back
      (rise_kept (by_query q) (is_between (behind q d)) all fitting.rise) (rise_rest (by_query q) d back (rise_behind (by_query q) front (d ∷ back) kept_rise)) kept_later later_kept

-- without a limit all are left
unlimited : (limit : Option ℤ) (ds : List Document) → limit ≡ None → limited limit ds ≡ ds
unlimited None ds e = refl
unlimited (Some n) ds e = absurd (cc)

pub pages_go_on : PagesGoOn
pages_go_on q docs front back d none x =
    let n = count_of q.offset in
    let left : front ++ d ∷ back ≡ drop n (filter (is_between q) x.all) = x.is_cut ∙ unlimited q.limit (drop n (filter (is_between q) x.all)) none in
    let split : filter (is_between q) x.all ≡ (take n (filter (is_between q) x.all) ++ front) ++ d ∷ back =
    sym (take-append-drop n (filter (is_between q) x.all)) ∙ ap (λ ds. take n (filter (is_between q) x.all) ++ ds) (sym left) ∙ sym (append_assoc (take n (filter (is_between q) x.all)) front (d ∷ back)) in
    record {
      all = x.all;
      are_fitting = record { rise = x.are_fitting.rise; fitting = x.are_fitting.fitting };
      is_cut = sym (unlimited q.limit (filter (is_between (behind q d)) x.all) none ∙ rest_is q docs x.all (take n (filter (is_between q) x.all) ++ front) back d x.are_fitting split);
    }

-- ---- what a sort of the first of those that are asked for gives, cut, is the answer

names_differ : (q : Asked) (p : Document → Bool) (docs : List Document) → is_sorted name_cmp (by_name docs) ≡ true → IsDistinct (eq_by_cmp (by_query q)) (filter p docs)
unfolding IsDistinct
names_differ q p [] up = tt
names_differ q p (d ∷ ds) up =
    let below = first_true (below_all name_cmp d.name (by_name ds)) (is_sorted name_cmp (by_name ds)) up in
    let rest = names_differ q p ds (second_true (below_all name_cmp d.name (by_name ds)) (is_sorted name_cmp (by_name ds)) up) in
    elim (p d) as (λ b. IsDistinct (eq_by_cmp (by_query q)) (cond b (d ∷ filter p ds) (filter p ds))) [
      | true ↦ (
        all_of (λ e. eq_by_cmp (by_query q) d e ≡ false) (filter p ds)
            (λ e h. told_apart q d e (λ same. names_apart d e (below_names d.name ds e below (has_kept p ds e h).0) same)),
        rest,
      )
      | false ↦ rest
    ]
  where
    not_tied : (r : Ordering) → ¬ (r ≡ Equal) → is_eq r ≡ false
    not_tied Less h = refl
    not_tied Equal h = absurd (h refl)
    not_tied Greater h = refl

    told_apart : (q : Asked) (d e : Document) → ¬ (d.name ≡ e.name) → eq_by_cmp (by_query q) d e ≡ false
    told_apart q d e differ = not_tied (by_query q d e) (λ s. differ (tells_names (whole_order q) d e (name_is_ordered q) s))

asked_told : (q : Asked) (docs : List Document) → is_sorted name_cmp (by_name docs) ≡ true → IsDistinct (eq_by_cmp (by_query q)) (filter (is_asked q) docs)
asked_told q docs up = names_differ q (is_asked q) docs up

-- those that are kept of all that fit are those that are asked for, in order
asked_is : (q : Asked) (docs : List Document) → is_sorted name_cmp (by_name docs) ≡ true → filter (is_between q) (in_order q docs) ≡ in_rise (by_query q) (filter (is_asked q) docs)
asked_is q docs up =
    let total = orders_total (whole_order q) in
    let fitting = in_order_fit q docs up in
    only_one (by_query q) total (filter (is_between q) (in_order q docs)) (in_rise (by_query q) (filter (is_asked q) docs))
    (rise_kept (by_query q) (is_between q) (in_order q docs) fitting.rise)
    (in_rise_rises (by_query q) total (filter (is_asked q) docs))
    (λ d h.
    let k = has_kept (is_between q) (in_order q docs) d h in
    let f = (fitting.fitting d).0 k.0 in
    to_rise (by_query q) total (filter (is_asked q) docs) (told (by_query q) total (filter (is_asked q) docs) (asked_told q docs up)) d
    (keeps (is_asked q) docs d f.0 (both (fits q d) (is_between q d) f.1 k.1)))
    (λ d h.
    let k = has_kept (is_asked q) docs d (from_rise (by_query q) total (filter (is_asked q) docs) d h) in
    keeps (is_between q) (in_order q docs) d ((fitting.fitting d).1 (k.0, first_true (fits q d) (is_between q d) k.1)) (second_true (fits q d) (is_between q d) k.1))

-- lists with the same first ones have the same behind an offset, within a limit
cut_few : (offset : ℕ) (limit : Option ℤ) (xs ys : List Document) → few (option_map (λ l. offset + count_of l) limit) xs ≡ few (option_map (λ l. offset + count_of l) limit) ys
    → limited limit (drop offset xs) ≡ limited limit (drop offset ys)
cut_few offset None xs ys e = ap (drop offset) e
cut_few offset (Some l) xs ys e = sym (drop-take offset (count_of l) xs) ∙ ap (drop offset) e ∙ drop-take offset (count_of l) ys

pub answer_of_kept : (q : Asked) (docs kept sorted : List Document) → is_sorted name_cmp (by_name docs) ≡ true → KeepsFirst (by_query q) (most_of q) (filter (is_asked q) docs) kept → IsPermutation kept sorted → IsSorted (by_query q) sorted
    → IsAnswer q docs (limited q.limit (drop (count_of q.offset) sorted))
answer_of_kept q docs kept sorted up first moved rises = record {
  all = in_order q docs;
  are_fitting = in_order_fit q docs up;
  is_cut =
      cut_few (count_of q.offset) q.limit sorted (filter (is_between q) (in_order q docs))
      (keeps_sorted (by_query q) (orders_total (whole_order q)) (most_of q) (filter (is_asked q) docs) kept sorted first (asked_told q docs up) moved rises
      ∙ ap (few (most_of q)) (sym (asked_is q docs up)));
}
