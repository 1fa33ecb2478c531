-- Paths in order: whether two are one, which are given, and those of a query that join, sorted and each once.
use Rattle.std.proofs.Common.{◌≡◌, ℕ, zero, suc, ◌+◌, ◌<◌, Bool, true, false, cond, List, [], ◌∷◌, ◌++◌, length, get_or, take, map, inl, inr, refl, sym, ap, ◌∙◌, arith, append-nil, append_assoc}
use Rattle.std.specs.Prelude.{Result, Ok, Err, ◌&&◌, ◌||◌, not, is_ok}
use Rattle.std.specs.Borrow.{Bor}
use Rattle.std.specs.List.{list_any, filter, dedup, dedup_from}
use Rattle.std.specs.List.Sorted.{IsPermutation, IsSorted, IsBinarySearchResult, IsSearchInRange}
use Rattle.std.specs.Ordering.{is_gt, is_eq, eq_by_cmp, ordering_reverse}
use Rattle.std.specs.declared.cmp.Ordering.{Ordering}
use Rattle.std.specs.declared.cmp.Ordering.TheVariants.{Less, Equal, Greater}
use Rattle.std.specs.Cmp.{IsEquivalence}
use Rattle.std.proofs.lemmas.Cmp.{on_equiv}
use Rattle.std.proofs.lemmas.List.Folds.{list_any_at, list_any_none}
use Rattle.std.proofs.lemmas.List.Kept.{Contains-dedup, Contains-from_dedup, IsStrictlySortedBy-dedup}
use Rattle.std.proofs.lemmas.List.Sorted.{IsPermutation-sym, Contains-permutation, list_any-IsPermutation, searchable_from_sorted}
use Rattle.std.proofs.lemmas.Bool.{cases_lt}
use Rattle.fs_path.specs.TextOrder.{ids_eq_equiv, ids_ties}
use Rattle.fs_path.specs.declared.field.FieldPath.{FieldPath}
use Rattle.fs_query.specs.Condition.{conditions_of}
use Rattle.fs_query.specs.Field.{is_name}
use Rattle.fs_path.specs.FieldOrder.{AreInOrder, by_parts, paths_at}
use Rattle.fs_query.specs.SortedPaths.{same_path, paths_of, is_given, joins_given, neighbours_same}
use Rattle.fs_query.specs.Normal.{inequality_paths, inequality_paths_of, in_order, is_ordered, joins}
use Rattle.fs_query.specs.Rules.{some_twice}
use Rattle.fs_query.specs.declared.order.Order.{Order}
use Rattle.fs_query.proofs.JoiningMembers.{from_order, to_order, from_kept, to_kept}
use Rattle.fs_query.proofs.JoiningPaths.{in_order_rises, path_same}
use Rattle.fs_query.proofs.OrderFields.{ids_equal}
use Rattle.fs_query.specs.View.{view}
use Rattle.fs_query.specs.declared.filter.Filter.{Filter}
use Rattle.fs_query.proofs.Rising.{rise_kept, only_one}
use Rattle.fs_path.specs.Related.{some_related}
use Rattle.fs_path.proofs.FieldOrder.{by_parts_total, sorted_at}
use Rattle.fs_path.proofs.Related.{neighbours_tell}

same_ties : (p q : FieldPath) → same_path p q ≡ eq_by_cmp by_parts p q
same_ties p q = ids_ties p.parts q.parts

same_equiv : IsEquivalence same_path
same_equiv = on_equiv (λ (p : FieldPath). p.parts) ids_eq_equiv

same_is : (p q : FieldPath) → same_path p q ≡ true → p ≡ q
same_is p q e = path_same p q (ids_equal p.parts q.parts e)

any_map : {X Y : Type 0} (p : Y → Bool) (f : X → Y) (xs : List X) → list_any p (map f xs) ≡ list_any (λ x. p (f x)) xs
any_map p f [] = refl
any_map p f (x ∷ xs) = ap (λ b. p (f x) || b) (any_map p f xs)

-- ---- what joins

is_given_as : (os : List Order) (p : FieldPath) → is_given (paths_of os) p ≡ is_ordered os p
is_given_as os p = any_map (λ g. same_path g p) (λ o. o.path) os

joins_moved : (os : List Order) (given : List FieldPath) → IsPermutation (paths_of os) given → (p : FieldPath) → joins_given given p ≡ joins os p
joins_moved os given moved p =
    ap (λ b. not (is_name p) && not b) (sym (list_any-IsPermutation (λ g. same_path g p) (paths_of os) given moved) ∙ is_given_as os p)

filter_alike : {X : Type 0} (t u : X → Bool) → ((x : X) → t x ≡ u x) → (xs : List X) → filter t xs ≡ filter u xs
filter_alike t u h xs = ap (λ v. filter v xs) (λ i x. h x i)

-- sorted, each once, and without those that are given, they are those that join in their order
pub joining_is : (os : List Order) (given ps sorted : List FieldPath) → IsPermutation (paths_of os) given → IsPermutation ps sorted → IsSorted by_parts sorted
    → filter (joins_given given) (dedup same_path sorted) ≡ in_order (filter (joins os) ps)
joining_is os given ps sorted moved shuffled up =
    filter_alike (joins_given given) (joins os) (joins_moved os given moved) (dedup same_path sorted)
    ∙ only_one by_parts by_parts_total (filter (joins os) (dedup same_path sorted)) (in_order (filter (joins os) ps))
    (rise_kept by_parts (joins os) (dedup same_path sorted) (IsStrictlySortedBy-dedup by_parts_total same_ties sorted up))
    (in_order_rises (filter (joins os) ps))
    (λ p h.
    let k = from_kept (joins os) p (dedup same_path sorted) h in
    to_order p (filter (joins os) ps) (to_kept (joins os) p ps k.1 (Contains-permutation sorted ps p (IsPermutation-sym ps sorted shuffled) (Contains-from_dedup same_path sorted p k.0))))
    (λ p h.
    let k = from_kept (joins os) p ps (from_order p (filter (joins os) ps) h) in
    to_kept (joins os) p (dedup same_path sorted) k.1 (Contains-dedup same_equiv same_is sorted p (Contains-permutation ps sorted p shuffled k.0)))

-- ---- what is sorted, each once, as references and as paths

once_from : (r : Bor FieldPath) (refs : List (Bor FieldPath)) → paths_at (dedup_from (λ x y. same_path x.now y.now) r refs) ≡ dedup_from same_path r.now (paths_at refs)
once_from r [] = refl
once_from r (s ∷ refs) =
    elim (same_path s.now r.now) as (λ b. paths_at (cond b (dedup_from (λ x y. same_path x.now y.now) r refs) (r ∷ dedup_from (λ x y. same_path x.now y.now) s refs)) ≡ cond b (dedup_from same_path r.now (paths_at refs)) (r.now ∷ dedup_from same_path s.now (paths_at refs))) [
      | true ↦ once_from r refs
      | false ↦ ap (λ ps. r.now ∷ ps) (once_from s refs)
    ]

pub once_at : (refs : List (Bor FieldPath)) → paths_at (dedup (λ x y. same_path x.now y.now) refs) ≡ dedup same_path (paths_at refs)
once_at [] = refl
once_at (r ∷ refs) = once_from r refs

-- ---- what a search among those that are given finds

pub searched : (refs : List (Bor FieldPath)) (p : FieldPath) (r : Result ℕ ℕ) → AreInOrder refs → IsSearchInRange r (length refs) → IsBinarySearchResult (λ y. by_parts y.now p) refs r → is_ok r ≡ is_given (paths_at refs) p
searched [] p (Ok i) up within found = absurd (omega arith)
searched (g ∷ refs) p (Ok i) up within found =
    sym (any_map (λ h. same_path h p) (λ (h : Bor FieldPath). h.now) (g ∷ refs)
    ∙ list_any_at (λ (h : Bor FieldPath). same_path h.now p) (g ∷ refs) i g within (same_ties (get_or (g ∷ refs) i g).now p ∙ ap is_eq (found g)))
searched refs p (Err i) up within found =
    let parts = found (searchable_from_sorted by_parts_total (λ (h : Bor FieldPath). h.now) refs p up) in
    sym (any_map (λ h. same_path h p) (λ (h : Bor FieldPath). h.now) refs
    ∙ list_any_none (λ (h : Bor FieldPath). same_path h.now p) refs (λ k d low.
    same_ties (get_or refs k d).now p ∙ elim (cases_lt k i) [ inl h ↦ ap is_eq (parts.0 k d (omega arith) h) | inr h ↦ ap is_eq (parts.1 k d h low) ]))

-- ---- whether two are one

abbrev before : FieldPath → FieldPath → Bool
before p q = same_path q p

twice_as : (os : List Order) → some_related before (paths_of os) ≡ some_twice os
twice_as [] = refl
twice_as (o ∷ os) = λ i. is_given_as os o.path i || twice_as os i

same_flips : (p q : FieldPath) → same_path p q ≡ same_path q p
same_flips p q = same_ties p q ∙ ap is_eq (by_parts_total.antisymm p q) ∙ turned_tie (by_parts q p) ∙ sym (same_ties q p)
  where
    turned_tie : (r : Ordering) → is_eq (ordering_reverse r) ≡ is_eq r
    turned_tie Less = refl
    turned_tie Equal = refl
    turned_tie Greater = refl

-- ---- where they stand in order, two are one exactly where two neighbours are

level : (r s : Ordering) → r ≡ ordering_reverse s → is_gt r ≡ false → is_gt s ≡ false → is_eq r ≡ true
level Less Less e g h = absurd (cc)
level Less Equal e g h = absurd (cc)
level Less Greater e g h = absurd (cc)
level Equal s e g h = refl
level Greater s e g h = absurd (cc)

same_between : (p q r : FieldPath) → is_gt (by_parts p q) ≡ false → is_gt (by_parts q r) ≡ false → before p r ≡ true → before p q ≡ true
same_between p q r g h e =
    same_ties q p
    ∙ level (by_parts q p) (by_parts p q) (by_parts_total.antisymm q p) (ap (λ (x : FieldPath). is_gt (by_parts q x)) (sym (same_is r p e)) ∙ h) g

pub twice_sorted : (os : List Order) (refs : List (Bor FieldPath)) → IsPermutation (paths_of os) (paths_at refs) → AreInOrder refs → neighbours_same (paths_at refs) ≡ some_twice os
twice_sorted os refs moved up =
    neighbours_tell _ by_parts_total before same_between (λ p q. same_flips q p) (paths_of os) (paths_at refs) moved (sorted_at refs up) ∙ twice_as os

-- ---- filter by filter

pub inequalities_more : (fs : List Filter) (k : ℕ) (f : Filter) → k < length fs
    → inequality_paths_of (conditions_of (map view (take (k + 1) fs))) ≡ inequality_paths_of (conditions_of (map view (take k fs))) ++ inequality_paths (view (get_or fs k f))
inequalities_more [] k f h = absurd (omega arith)
inequalities_more (g ∷ fs) zero f h = append-nil (inequality_paths (view g))
inequalities_more (g ∷ fs) (suc k) f h =
    ap (λ (n : ℕ). inequality_paths_of (conditions_of (map view (take n (g ∷ fs))))) (let e : suc k + 1 ≡ suc (k + 1) = omega arith in e)
    ∙ ap (λ ps. inequality_paths (view g) ++ ps) (inequalities_more fs k f (omega arith))
    ∙ sym (append_assoc (inequality_paths (view g)) (inequality_paths_of (conditions_of (map view (take k fs)))) (inequality_paths (view (get_or fs k f))))
