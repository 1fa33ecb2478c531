-- What the rules ask of the parts of a filter, list by list.
use Rattle.std.proofs.Common.{◌≡◌, ℕ, ◌+◌, ◌<◌, Bool, true, false, cond, List, [], ◌∷◌, ◌++◌, map, take, length, get_or, refl, sym, ap, ◌∙◌, arith, append_assoc}
use Rattle.std.specs.Prelude.{◌||◌, ◌&&◌, nat_lt, count_by, Option, Some, None}
use Rattle.std.specs.List.{list_any}
use Rattle.std.specs.Prelude.{IsTrue, ◌↔◌}
use Rattle.std.specs.Option.{is_some}
use Rattle.std.proofs.lemmas.List.{take_more, map-append, append-nil}
use Rattle.std.proofs.lemmas.List.Folds.{list_any-append}
use Rattle.std.proofs.lemmas.List.Sums.{sum_by-append, sum_by-cons}
use Rattle.std.proofs.lemmas.Bool.Decides.{nat_tests}
use Rattle.fs_query.specs.Census.{census_in, joined_census}
use Rattle.fs_query.specs.Condition.{Condition, conditions_of, all_of, any_of}
use Rattle.fs_query.specs.View.{view}
use Rattle.fs_query.specs.declared.census.Census.{Census}
use Rattle.fs_query.specs.declared.filter.Filter.{Filter}
use Rattle.fs_query.specs.FilterParts.{parts, parts_of, is_by, is_not_in_op}
use Rattle.fs_query.specs.FilterRules.{has_bad_path_itself, has_bad_list_itself, long_not_in_itself, first_some, is_kept_from_not_in, is_is_not_null, misuses_name, is_without_filters}
use Rattle.std.proofs.Math.Bool.{or-false}

-- ---- numbers of parts

count_append : (p : Condition → Bool) (xs ys : List Condition) → count_by p (xs ++ ys) ≡ count_by p xs + count_by p ys
count_append p xs ys = sum_by-append (λ x. cond (p x) 1 0) xs ys

some_counted_by : (p : Condition → Bool) (x : Condition) (xs : List Condition) (b : Bool) → p x ≡ b → nat_lt 0 (count_by p xs) ≡ list_any p xs
    → nat_lt 0 (cond b 1 0 + count_by p xs) ≡ (b || list_any p xs)
some_counted_by p x xs true e rest = grind (arith, nat_tests)
some_counted_by p x xs false e rest = grind (arith, nat_tests)

some_counted : (p : Condition → Bool) (xs : List Condition) → nat_lt 0 (count_by p xs) ≡ list_any p xs
some_counted p [] = refl
some_counted p (x ∷ xs) = rw (sum_by-cons (λ y. cond (p y) 1 0) x xs) (some_counted_by p x xs (p x) refl (some_counted p xs))

two_in : (a b : ℕ) → nat_lt 1 (a + b) ≡ ((nat_lt 1 a || nat_lt 1 b) || (nat_lt 0 a && nat_lt 0 b))
two_in a b = grind (arith, nat_tests)

two_counted : (xs ys : List Condition) → nat_lt 1 (count_by (is_by is_not_in_op) (xs ++ ys))
    ≡ ((nat_lt 1 (count_by (is_by is_not_in_op) xs) || nat_lt 1 (count_by (is_by is_not_in_op) ys)) || (list_any (is_by is_not_in_op) xs && list_any (is_by is_not_in_op) ys))
two_counted xs ys =
    ap (nat_lt 1) (count_append (is_by is_not_in_op) xs ys)
    ∙ two_in (count_by (is_by is_not_in_op) xs) (count_by (is_by is_not_in_op) ys)
    ∙ (λ i. (nat_lt 1 (count_by (is_by is_not_in_op) xs) || nat_lt 1 (count_by (is_by is_not_in_op) ys)) || (some_counted (is_by is_not_in_op) xs i && some_counted (is_by is_not_in_op) ys i))

-- ---- the first of two lists

first_append_by : (a b c : Option ℕ) → cond (is_some (cond (is_some a) a b)) (cond (is_some a) a b) c ≡ cond (is_some a) a (cond (is_some b) b c)
first_append_by (Some n) b c = refl
first_append_by None b c = refl

first_append : (xs ys : List Condition) → first_some (xs ++ ys) ≡ cond (is_some (first_some xs)) (first_some xs) (first_some ys)
first_append [] ys = refl
first_append (x ∷ xs) ys =
    ap (λ o. cond (is_some (long_not_in_itself x)) (long_not_in_itself x) o) (first_append xs ys)
    ∙ sym (first_append_by (long_not_in_itself x) (first_some xs) (first_some ys))

-- ---- all together

pub census_append : (xs ys : List Condition) → census_in (xs ++ ys) ≡ joined_census (census_in xs) (census_in ys)
census_append xs ys = λ i. record {
  bad_path = list_any-append has_bad_path_itself xs ys i;
  bad_list = list_any-append has_bad_list_itself xs ys i;
  long_not_in = first_append xs ys i;
  not_in = list_any-append (is_by is_not_in_op) xs ys i;
  second_not_in = two_counted xs ys i;
  kept_from_not_in = list_any-append is_kept_from_not_in xs ys i;
  not_null = list_any-append is_is_not_null xs ys i;
  misused_name = list_any-append misuses_name xs ys i;
  without_filters = list_any-append is_without_filters xs ys i;
}

-- a part and those below it
pub census_with_own : (c : Condition) (xs : List Condition) → census_in (c ∷ xs) ≡ joined_census (census_in (c ∷ [])) (census_in xs)
census_with_own c xs = census_append (c ∷ []) xs

-- ---- one part

if_some : (o : Option ℕ) → o ≡ cond (is_some o) o None
if_some (Some n) = refl
if_some None = refl

not_two : (b : Bool) → false ≡ nat_lt 1 (0 + cond b 1 0)
not_two true = refl
not_two false = refl

abbrev alone : Condition → Census
alone c = record {
  bad_path = has_bad_path_itself c;
  bad_list = has_bad_list_itself c;
  long_not_in = long_not_in_itself c;
  not_in = is_by is_not_in_op c;
  second_not_in = false;
  kept_from_not_in = is_kept_from_not_in c;
  not_null = is_is_not_null c;
  misused_name = misuses_name c;
  without_filters = is_without_filters c;
}

pub census_alone : (c : Condition) → alone c ≡ census_in (c ∷ [])
census_alone c = λ i. record {
  bad_path = sym (or-false (has_bad_path_itself c)) i;
  bad_list = sym (or-false (has_bad_list_itself c)) i;
  long_not_in = if_some (long_not_in_itself c) i;
  not_in = sym (or-false (is_by is_not_in_op c)) i;
  second_not_in = not_two (is_by is_not_in_op c) i;
  kept_from_not_in = sym (or-false (is_kept_from_not_in c)) i;
  not_null = sym (or-false (is_is_not_null c)) i;
  misused_name = sym (or-false (misuses_name c)) i;
  without_filters = sym (or-false (is_without_filters c)) i;
}

-- ---- an AND or an OR itself

empty_by : (r : Bool) (cs : List Condition) → (IsTrue r ↔ (cs ≡ [])) → (r ≡ is_without_filters (all_of (conditions_of cs))) × (r ≡ is_without_filters (any_of (conditions_of cs)))
empty_by true [] h = (refl, refl)
empty_by false [] h = absurd (cc (h.1 refl))
empty_by true (c ∷ cs) h = absurd (cc (h.0 refl))
empty_by false (c ∷ cs) h = (refl, refl)

abbrev record_of : Bool → Bool → Census
record_of is_or r = record { bad_path = false; bad_list = false; long_not_in = None; not_in = false; second_not_in = false; kept_from_not_in = is_or; not_null = false; misused_name = false; without_filters = r }

pub composite_alone : (r is_or : Bool) (cs : List Condition) → (IsTrue r ↔ (cs ≡ []))
    → record_of is_or r ≡ census_in ((cond is_or (any_of (conditions_of cs)) (all_of (conditions_of cs))) ∷ [])
composite_alone r true cs h = ap (record_of true) (empty_by r cs h).1 ∙ census_alone (any_of (conditions_of cs))
composite_alone r false cs h = ap (record_of false) (empty_by r cs h).0 ∙ census_alone (all_of (conditions_of cs))

-- ---- filter by filter

pub parts_append : (cs ds : List Condition) → parts_of (conditions_of (cs ++ ds)) ≡ parts_of (conditions_of cs) ++ parts_of (conditions_of ds)
parts_append [] ds = refl
parts_append (c ∷ cs) ds = ap (λ xs. parts c ++ xs) (parts_append cs ds) ∙ sym (append_assoc (parts c) (parts_of (conditions_of cs)) (parts_of (conditions_of ds)))

pub census_more : (fs : List Filter) (k : ℕ) (f : Filter) → k < length fs
    → census_in (parts_of (conditions_of (map view (take (k + 1) fs)))) ≡ joined_census (census_in (parts_of (conditions_of (map view (take k fs))))) (census_in (parts (view (get_or fs k f))))
census_more fs k f h =
    ap (λ gs. census_in (parts_of (conditions_of (map view gs)))) (take_more fs k f h)
    ∙ ap (λ cs. census_in (parts_of (conditions_of cs))) (map-append view (take k fs) (get_or fs k f ∷ []))
    ∙ ap census_in (parts_append (map view (take k fs)) (view (get_or fs k f) ∷ []))
    ∙ ap (λ xs. census_in (parts_of (conditions_of (map view (take k fs))) ++ xs)) (append-nil (parts (view (get_or fs k f))))
    ∙ census_append (parts_of (conditions_of (map view (take k fs)))) (parts (view (get_or fs k f)))
