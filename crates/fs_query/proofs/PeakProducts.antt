-- How many array operators meet in the conjunctions of two lists, each of the one with each of the other.
use Rattle.std.proofs.Common.{◌≡◌, ℕ, zero, suc, ◌+◌, ◌<◌, false, cond, List, [], ◌∷◌, ◌++◌, map, take, length, get_or, refl, sym, ap, ◌∙◌, arith, append_assoc, ◌⊎◌, inl, inr}
use Rattle.std.specs.Prelude.{◌||◌, ◌&&◌, ◌==◌, nat_lt, Some, min, max}
use Rattle.std.specs.List.{list_any}
use Rattle.std.specs.Option.{option_map_or}
use Rattle.std.proofs.lemmas.List.{map-append, append-nil, take_more}
use Rattle.std.proofs.lemmas.List.Sums.{sum_by-append}
use Rattle.std.proofs.lemmas.Bool.Decides.{nat_tests}
use Rattle.fs_query.specs.Condition.{Condition, compared, conditions_of}
use Rattle.fs_query.specs.Normal.{equalities, products, conjunctions, conjunctions_of_any}
use Rattle.fs_query.specs.Peaks.{beside_any, most_contains, most_beside_any, peaks_in, both_peaks, either_peaks}
use Rattle.fs_query.specs.FilterParts.{is_by, is_contains_op, is_contains_any_op}
use Rattle.fs_query.specs.FilterRules.{contains_count, contains_any_count}
use Rattle.fs_path.specs.declared.field.FieldPath.{FieldPath}
use Rattle.fs_value.specs.Data.{Data}
use Rattle.fs_query.specs.View.{view}
use Rattle.fs_query.specs.declared.op.Op.TheVariants.{Equal}
use Rattle.fs_query.specs.declared.filter.Filter.{Filter}

-- ---- one conjunction behind another

contains_append : (xs ys : List Condition) → contains_count (xs ++ ys) ≡ contains_count xs + contains_count ys
contains_append xs ys = sum_by-append (λ x. cond (is_by is_contains_op x) 1 0) xs ys

contains_any_append : (xs ys : List Condition) → contains_any_count (xs ++ ys) ≡ contains_any_count xs + contains_any_count ys
contains_any_append xs ys = sum_by-append (λ x. cond (is_by is_contains_any_op x) 1 0) xs ys

-- of a front with so many of each kind, with a back, where the backs have at most so many
abbrev both_kinds : ℕ → ℕ → ℕ
both_kinds any con = cond (nat_lt 0 any) (any + con) 0

beside_append : (xs ys : List Condition) → beside_any (xs ++ ys) ≡ both_kinds (contains_any_count xs + contains_any_count ys) (contains_count xs + contains_count ys)
beside_append xs ys = (λ i. cond (nat_lt 0 (contains_any_append xs ys i)) (contains_any_append xs ys i + contains_append xs ys i) 0)

-- ---- the most in two lists of conjunctions

contains_among : (xs ys : List (List Condition)) → most_contains (xs ++ ys) ≡ max (most_contains xs) (most_contains ys)
contains_among [] ys = omega arith
contains_among (x ∷ xs) ys = omega (arith, contains_among xs ys)

beside_among : (xs ys : List (List Condition)) → most_beside_any (xs ++ ys) ≡ max (most_beside_any xs) (most_beside_any ys)
beside_among [] ys = omega arith
beside_among (x ∷ xs) ys = omega (arith, beside_among xs ys)

-- ---- one front with each back

abbrev row : List Condition → List (List Condition) → List (List Condition)
row front backs = map (λ back. front ++ back) backs

contains_in_row : (front back : List Condition) (backs : List (List Condition)) → most_contains (row front (back ∷ backs)) ≡ contains_count front + most_contains (back ∷ backs)
contains_in_row front back [] = omega (arith, contains_append front back)
contains_in_row front back (b ∷ backs) = omega (arith, contains_append front back, contains_in_row front b backs)

-- the front has an ARRAY_CONTAINS_ANY, so each back counts whole
with_any : (af cf ab cb c b : ℕ) → 0 < af → max (both_kinds (af + ab) (cf + cb)) ((af + cf) + max c b) ≡ (af + cf) + max (max cb c) (max (both_kinds ab cb) b)
with_any af cf ab cb c b h = grind (arith, nat_tests)

with_any_last : (af cf ab cb : ℕ) → 0 < af → max (both_kinds (af + ab) (cf + cb)) 0 ≡ (af + cf) + max (max cb 0) (max (both_kinds ab cb) 0)
with_any_last af cf ab cb h = grind (arith, nat_tests)

beside_in_row_any : (front back : List Condition) (backs : List (List Condition)) → 0 < contains_any_count front
    → most_beside_any (row front (back ∷ backs)) ≡ (contains_any_count front + contains_count front) + max (most_contains (back ∷ backs)) (most_beside_any (back ∷ backs))
beside_in_row_any front back [] h =
    ap (λ n. max n 0) (beside_append front back)
    ∙ with_any_last (contains_any_count front) (contains_count front) (contains_any_count back) (contains_count back) h
beside_in_row_any front back (b ∷ backs) h =
    ap (λ n. max n (most_beside_any (row front (b ∷ backs)))) (beside_append front back)
    ∙ ap (λ m. max (both_kinds (contains_any_count front + contains_any_count back) (contains_count front + contains_count back)) m) (beside_in_row_any front b backs h)
    ∙ with_any (contains_any_count front) (contains_count front) (contains_any_count back) (contains_count back) (most_contains (b ∷ backs)) (most_beside_any (b ∷ backs)) h

abbrev if_some : ℕ → ℕ → ℕ
if_some n m = cond (n == 0) 0 (n + m)

without_any : (af cf ab cb b : ℕ) → af ≡ 0 → max (both_kinds (af + ab) (cf + cb)) (if_some b cf) ≡ if_some (max (both_kinds ab cb) b) cf
without_any af cf ab cb b h = grind (arith, nat_tests)

beside_in_row : (front : List Condition) (backs : List (List Condition)) → contains_any_count front ≡ 0
    → most_beside_any (row front backs) ≡ if_some (most_beside_any backs) (contains_count front)
beside_in_row front [] h = refl
beside_in_row front (b ∷ backs) h =
    ap (λ n. max n (most_beside_any (row front backs))) (beside_append front b)
    ∙ ap (λ m. max (both_kinds (contains_any_count front + contains_any_count b) (contains_count front + contains_count b)) m) (beside_in_row front backs h)
    ∙ without_any (contains_any_count front) (contains_count front) (contains_any_count b) (contains_count b) (most_beside_any backs) h

-- ---- each front with each back

-- where the first has some, with the most of the other
abbrev beside : ℕ → ℕ → ℕ → ℕ
beside b c d = cond (b == 0) 0 (b + max c d)

contains_last : (cf c : ℕ) → max (cf + c) 0 ≡ max cf 0 + c
contains_last cf c = omega arith

contains_step : (cf c m : ℕ) → max (cf + c) (m + c) ≡ max cf m + c
contains_step cf c m = omega arith

contains_products : (front : List Condition) (fronts : List (List Condition)) (back : List Condition) (backs : List (List Condition))
    → most_contains (products (front ∷ fronts) (back ∷ backs)) ≡ most_contains (front ∷ fronts) + most_contains (back ∷ backs)
contains_products front [] back backs =
    contains_among (row front (back ∷ backs)) []
    ∙ ap (λ n. max n 0) (contains_in_row front back backs)
    ∙ contains_last (contains_count front) (most_contains (back ∷ backs))
contains_products front (f ∷ fronts) back backs =
    contains_among (row front (back ∷ backs)) (products (f ∷ fronts) (back ∷ backs))
    ∙ (λ i. max (contains_in_row front back backs i) (contains_products f fronts back backs i))
    ∙ contains_step (contains_count front) (most_contains (back ∷ backs)) (most_contains (f ∷ fronts))

-- a front with an ARRAY_CONTAINS_ANY, alone and before others
any_last : (af cf c b : ℕ) → 0 < af → max ((af + cf) + max c b) 0 ≡ max (beside (max (both_kinds af cf) 0) c b) (beside b (max cf 0) (max (both_kinds af cf) 0))
any_last af cf c b h = grind (arith, nat_tests)

any_step : (af cf c b m n : ℕ) → 0 < af
    → max ((af + cf) + max c b) (max (beside n c b) (beside b m n)) ≡ max (beside (max (both_kinds af cf) n) c b) (beside b (max cf m) (max (both_kinds af cf) n))
any_step af cf c b m n h = grind (arith, nat_tests)

-- a front without one
none_last : (af cf c b : ℕ) → af ≡ 0 → max (if_some b cf) 0 ≡ max (beside (max (both_kinds af cf) 0) c b) (beside b (max cf 0) (max (both_kinds af cf) 0))
none_last af cf c b h = grind (arith, nat_tests)

none_step : (af cf c b m n : ℕ) → af ≡ 0
    → max (if_some b cf) (max (beside n c b) (beside b m n)) ≡ max (beside (max (both_kinds af cf) n) c b) (beside b (max cf m) (max (both_kinds af cf) n))
none_step af cf c b m n h = grind (arith, nat_tests)

either_zero : (n : ℕ) → (n ≡ 0) ⊎ (0 < n)
either_zero zero = inl refl
either_zero (suc n) = inr (omega arith)

beside_products_last : (front back : List Condition) (backs : List (List Condition)) → (contains_any_count front ≡ 0) ⊎ (0 < contains_any_count front)
    → max (most_beside_any (row front (back ∷ backs))) 0
    ≡ max (beside (max (beside_any front) 0) (most_contains (back ∷ backs)) (most_beside_any (back ∷ backs))) (beside (most_beside_any (back ∷ backs)) (max (contains_count front) 0) (max (beside_any front) 0))
beside_products_last front back backs (inl h) =
    ap (λ n. max n 0) (beside_in_row front (back ∷ backs) h)
    ∙ none_last (contains_any_count front) (contains_count front) (most_contains (back ∷ backs)) (most_beside_any (back ∷ backs)) h
beside_products_last front back backs (inr h) =
    ap (λ n. max n 0) (beside_in_row_any front back backs h)
    ∙ any_last (contains_any_count front) (contains_count front) (most_contains (back ∷ backs)) (most_beside_any (back ∷ backs)) h

beside_products_step : (front back : List Condition) (backs : List (List Condition)) (m n : ℕ) → (contains_any_count front ≡ 0) ⊎ (0 < contains_any_count front)
    → max (most_beside_any (row front (back ∷ backs))) (max (beside n (most_contains (back ∷ backs)) (most_beside_any (back ∷ backs))) (beside (most_beside_any (back ∷ backs)) m n))
    ≡ max (beside (max (beside_any front) n) (most_contains (back ∷ backs)) (most_beside_any (back ∷ backs))) (beside (most_beside_any (back ∷ backs)) (max (contains_count front) m) (max (beside_any front) n))
beside_products_step front back backs m n (inl h) =
    ap (λ k. max k (max (beside n (most_contains (back ∷ backs)) (most_beside_any (back ∷ backs))) (beside (most_beside_any (back ∷ backs)) m n))) (beside_in_row front (back ∷ backs) h)
    ∙ none_step (contains_any_count front) (contains_count front) (most_contains (back ∷ backs)) (most_beside_any (back ∷ backs)) m n h
beside_products_step front back backs m n (inr h) =
    ap (λ k. max k (max (beside n (most_contains (back ∷ backs)) (most_beside_any (back ∷ backs))) (beside (most_beside_any (back ∷ backs)) m n))) (beside_in_row_any front back backs h)
    ∙ any_step (contains_any_count front) (contains_count front) (most_contains (back ∷ backs)) (most_beside_any (back ∷ backs)) m n h

beside_products : (front : List Condition) (fronts : List (List Condition)) (back : List Condition) (backs : List (List Condition))
    → most_beside_any (products (front ∷ fronts) (back ∷ backs))
    ≡ max (beside (most_beside_any (front ∷ fronts)) (most_contains (back ∷ backs)) (most_beside_any (back ∷ backs))) (beside (most_beside_any (back ∷ backs)) (most_contains (front ∷ fronts)) (most_beside_any (front ∷ fronts)))
beside_products front [] back backs =
    beside_among (row front (back ∷ backs)) []
    ∙ beside_products_last front back backs (either_zero (contains_any_count front))
beside_products front (f ∷ fronts) back backs =
    beside_among (row front (back ∷ backs)) (products (f ∷ fronts) (back ∷ backs))
    ∙ ap (λ k. max (most_beside_any (row front (back ∷ backs))) k) (beside_products f fronts back backs)
    ∙ beside_products_step front back backs (most_contains (f ∷ fronts)) (most_beside_any (f ∷ fronts)) (either_zero (contains_any_count front))

-- ---- cut at 2

cut_sum : (a b : ℕ) → min (a + b) 2 ≡ min (min a 2 + min b 2) 2
cut_sum a b = omega arith

cut_max : (a b : ℕ) → min (max a b) 2 ≡ max (min a 2) (min b 2)
cut_max a b = omega arith

cut_beside : (b c d : ℕ) → min (beside b c d) 2 ≡ cond (min b 2 == 0) 0 (min (min b 2 + max (min c 2) (min d 2)) 2)
cut_beside b c d = grind (arith, nat_tests)

-- ---- peaks

no_products : (xs : List (List Condition)) → products xs [] ≡ []
no_products [] = refl
no_products (x ∷ xs) = no_products xs

pub peaks_products : (xs ys : List (List Condition)) → peaks_in (products xs ys) ≡ both_peaks (peaks_in xs) (peaks_in ys)
peaks_products [] [] = refl
peaks_products [] (y ∷ ys) = refl
peaks_products (x ∷ xs) [] = ap peaks_in (no_products (x ∷ xs))
peaks_products (x ∷ xs) (y ∷ ys) = λ i. Some (record {
  contains = (ap (λ n. min n 2) (contains_products x xs y ys) ∙ cut_sum (most_contains (x ∷ xs)) (most_contains (y ∷ ys))) i;
  beside_any =
      (ap (λ n. min n 2) (beside_products x xs y ys)
      ∙ cut_max (beside (most_beside_any (x ∷ xs)) (most_contains (y ∷ ys)) (most_beside_any (y ∷ ys))) (beside (most_beside_any (y ∷ ys)) (most_contains (x ∷ xs)) (most_beside_any (x ∷ xs)))
      ∙ (λ j. max (cut_beside (most_beside_any (x ∷ xs)) (most_contains (y ∷ ys)) (most_beside_any (y ∷ ys)) j) (cut_beside (most_beside_any (y ∷ ys)) (most_contains (x ∷ xs)) (most_beside_any (x ∷ xs)) j))) i;
})

pub peaks_append : (xs ys : List (List Condition)) → peaks_in (xs ++ ys) ≡ either_peaks (peaks_in xs) (peaks_in ys)
peaks_append [] ys = refl
peaks_append (x ∷ xs) [] = ap (λ zs. peaks_in (x ∷ zs)) (append-nil xs)
peaks_append (x ∷ xs) (y ∷ ys) = λ i. Some (record {
  contains = (ap (λ n. min n 2) (contains_among (x ∷ xs) (y ∷ ys)) ∙ cut_max (most_contains (x ∷ xs)) (most_contains (y ∷ ys))) i;
  beside_any = (ap (λ n. min n 2) (beside_among (x ∷ xs) (y ∷ ys)) ∙ cut_max (most_beside_any (x ∷ xs)) (most_beside_any (y ∷ ys))) i;
})

-- ---- IN

no_arrays : (p : FieldPath) (ws : List Data) → (most_contains (map (λ c. c ∷ []) (map (compared p Equal) ws)) ≡ 0) × (most_beside_any (map (λ c. c ∷ []) (map (compared p Equal) ws)) ≡ 0)
no_arrays p [] = (refl, refl)
no_arrays p (w ∷ ws) = let h = no_arrays p ws in (omega (arith, h.0), omega (arith, h.1))

pub in_peaks : (p : FieldPath) (ws : List Data) → ¬ (length ws ≡ 0) → Some (record { contains = 0; beside_any = 0 }) ≡ peaks_in (map (λ c. c ∷ []) (map (compared p Equal) ws))
in_peaks p [] some = absurd (some refl)
in_peaks p (w ∷ ws) some = let h = no_arrays p (w ∷ ws) in λ i. Some (record {
  contains = min (sym h.0 i) 2;
  beside_any = min (sym h.1 i) 2;
})

-- ---- filter by filter

pub any_append : (cs ds : List Condition) → conjunctions_of_any equalities (conditions_of (cs ++ ds)) ≡ conjunctions_of_any equalities (conditions_of cs) ++ conjunctions_of_any equalities (conditions_of ds)
any_append [] ds = refl
any_append (c ∷ cs) ds = ap (λ xs. conjunctions equalities c ++ xs) (any_append cs ds) ∙ sym (append_assoc (conjunctions equalities c) (conjunctions_of_any equalities (conditions_of cs)) (conjunctions_of_any equalities (conditions_of ds)))

pub peaks_more : (fs : List Filter) (k : ℕ) (f : Filter) → k < length fs
    → peaks_in (conjunctions_of_any equalities (conditions_of (map view (take (k + 1) fs)))) ≡ either_peaks (peaks_in (conjunctions_of_any equalities (conditions_of (map view (take k fs))))) (peaks_in (conjunctions equalities (view (get_or fs k f))))
peaks_more fs k f h =
    ap (λ gs. peaks_in (conjunctions_of_any equalities (conditions_of (map view gs)))) (take_more fs k f h)
    ∙ ap (λ cs. peaks_in (conjunctions_of_any equalities (conditions_of cs))) (map-append view (take k fs) (get_or fs k f ∷ []))
    ∙ ap peaks_in (any_append (map view (take k fs)) (view (get_or fs k f) ∷ []))
    ∙ ap (λ xs. peaks_in (conjunctions_of_any equalities (conditions_of (map view (take k fs))) ++ xs)) (append-nil (conjunctions equalities (view (get_or fs k f))))
    ∙ peaks_append (conjunctions_of_any equalities (conditions_of (map view (take k fs)))) (conjunctions equalities (view (get_or fs k f)))

-- ---- what the rules ask of them

two_most : (m n : ℕ) → nat_lt 1 (min (max m n) 2) ≡ (nat_lt 1 m || nat_lt 1 (min n 2))
two_most m n = grind (arith, nat_tests)

two_contains_by : (css : List (List Condition)) → nat_lt 1 (min (most_contains css) 2) ≡ list_any (λ cs. nat_lt 1 (contains_count cs)) css
two_contains_by [] = refl
two_contains_by (cs ∷ css) = two_most (contains_count cs) (most_contains css) ∙ ap (λ b. nat_lt 1 (contains_count cs) || b) (two_contains_by css)

pub two_contains : (css : List (List Condition)) → option_map_or (λ p. nat_lt 1 p.contains) (peaks_in css) false ≡ list_any (λ cs. nat_lt 1 (contains_count cs)) css
two_contains [] = refl
two_contains (cs ∷ css) = two_contains_by (cs ∷ css)

two_both : (a c : ℕ) → nat_lt 1 (both_kinds a c) ≡ (nat_lt 0 a && nat_lt 1 (a + c))
two_both a c = grind (arith, nat_tests)

two_beside_by : (css : List (List Condition)) → nat_lt 1 (min (most_beside_any css) 2) ≡ list_any (λ cs. nat_lt 0 (contains_any_count cs) && nat_lt 1 (contains_any_count cs + contains_count cs)) css
two_beside_by [] = refl
two_beside_by (cs ∷ css) =
    two_most (beside_any cs) (most_beside_any css)
    ∙ (λ i. two_both (contains_any_count cs) (contains_count cs) i || two_beside_by css i)

pub two_beside : (css : List (List Condition)) → option_map_or (λ p. nat_lt 1 p.beside_any) (peaks_in css) false ≡ list_any (λ cs. nat_lt 0 (contains_any_count cs) && nat_lt 1 (contains_any_count cs + contains_count cs)) css
two_beside [] = refl
two_beside (cs ∷ css) = two_beside_by (cs ∷ css)
