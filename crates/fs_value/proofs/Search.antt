-- The laws of a binary search among entries whose keys rise. The entries are f of the elements of ys: a search that finds a
-- tie at a place has found the entry of the key, and one that finds where the key would stand has found that none has it.
use Rattle.std.proofs.Common.{◌≡◌, ℕ, zero, suc, ◌<◌, ◌≤◌, ◌+◌, cond, List, [], ◌∷◌, map, length, get_or, Some, None, Result, Ok, Err, Ordering, Less, Equal, Greater, refl, sym, ap, ◌∙◌, subst, arith}
use Rattle.std.specs.Prelude.{IsTrue, MatchResult}
use Rattle.std.specs.Ordering.{ordering_reverse, is_lt, is_eq}
use Rattle.std.specs.Cmp.{IsTotalOrder, first_so, second_so}
use Rattle.std.specs.FinMap.{find, is_sorted}
use Rattle.std.specs.FinMap.Entries.{below_all}
use Rattle.std.specs.List.Sorted.{IsSortedBy, IsBinarySearchResult, IsSearchInRange}
use Rattle.std.proofs.lemmas.List.{get_or-map}
use Rattle.std.proofs.lemmas.List.Sorted.{searchable_from_sorted}
use Rattle.std.proofs.lemmas.Cmp.{alike_right, tied_back}
use Rattle.fs_path.proofs.Orders.{less_is}

module _ {K X Y : Type 0} (R : K → K → Ordering) (f : Y → K × X) where
  below_at : (k : K) (ys : List Y) (i : ℕ) (d : Y) → IsTrue (below_all R k (map f ys)) → i < length ys → R k (f (get_or ys i d)).0 ≡ Less
  below_at k [] i d h within = absurd (omega arith)
  below_at k (y ∷ ys) zero d h within = less_is _ (first_so _ (below_all R k (map f ys)) h)
  below_at k (y ∷ ys) (suc i) d h within = below_at k ys i d (second_so (is_lt (R k (f y).0)) _ h) (omega arith)

  pub head_below : (y : Y) (ys : List Y) → IsTrue (is_sorted R (map f (y ∷ ys))) → IsTrue (below_all R (f y).0 (map f ys))
  head_below y ys h = first_so _ (is_sorted R (map f ys)) h

  pub tail_sorted : (y : Y) (ys : List Y) → IsTrue (is_sorted R (map f (y ∷ ys))) → IsTrue (is_sorted R (map f ys))
  tail_sorted y ys h = second_so (below_all R (f y).0 (map f ys)) _ h

  rising_next : (ys : List Y) (k : ℕ) (d : Y) → IsTrue (is_sorted R (map f ys)) → k + 1 < length ys → R (f (get_or ys k d)).0 (f (get_or ys (k + 1) d)).0 ≡ Less
  rising_next [] k d h within = absurd (omega arith)
  rising_next (y ∷ ys) zero d h within = below_at (f y).0 ys zero d (head_below y ys h) (omega arith)
  rising_next (y ∷ ys) (suc k) d h within =
      let e : suc k + 1 ≡ suc (k + 1) = omega arith in
      subst (λ (n : ℕ). R (f (get_or ys k d)).0 (f (get_or (y ∷ ys) n d)).0 ≡ Less) (sym e) (rising_next ys k d (tail_sorted y ys h) (omega arith))

  module _ (o : IsTotalOrder R) where
    pub rising_sorted : (ys : List Y) → IsTrue (is_sorted R (map f ys)) → IsSortedBy (λ a b. is_lt (R (f a).0 (f b).0)) ys
    rising_sorted ys h k d low within = ap is_lt (o.antisymm _ _ ∙ ap ordering_reverse (rising_next ys k d h within))

    -- a key that ties with a later entry is above this one
    pub above_earlier : (key : K) (y : Y) (ys : List Y) (i : ℕ) → IsTrue (is_sorted R (map f (y ∷ ys))) → i < length ys → R (f (get_or ys i y)).0 key ≡ Equal → R key (f y).0 ≡ Greater
    above_earlier key y ys i h within ties =
        o.antisymm key (f y).0 ∙ ap ordering_reverse (sym (alike_right o _ key (f y).0 ties) ∙ below_at (f y).0 ys i y (head_below y ys h) within)

    pub find-tied : (key : K) (ys : List Y) (i : ℕ) (e : K × X) → IsTrue (is_sorted R (map f ys)) → i < length ys → ((d : Y) → R (f (get_or ys i d)).0 key ≡ Equal) → find R key (map f ys) ≡ Some (get_or (map f ys) i e).1
    find-tied key [] i e h within ties = absurd (omega arith)
    find-tied key (y ∷ ys) zero e h within ties = ap (λ r. cond (is_eq r) (Some (f y).1) (find R key (map f ys))) (tied_back o _ _ (ties y))
    find-tied key (y ∷ ys) (suc i) e h within ties =
        ap (λ r. cond (is_eq r) (Some (f y).1) (find R key (map f ys))) (above_earlier key y ys i h (omega arith) (ties y))
        ∙ find-tied key ys i e (tail_sorted y ys h) (omega arith) ties

    pub turned : (key k : K) (r : Ordering) → R k key ≡ r → R key k ≡ ordering_reverse r
    turned key k r h = o.antisymm key k ∙ ap ordering_reverse h

    pub find-apart : (key : K) (ys : List Y) (i : ℕ) → ((k : ℕ) (d : Y) → 0 ≤ k → k < i → R (f (get_or ys k d)).0 key ≡ Less) → ((k : ℕ) (d : Y) → i ≤ k → k < length ys → R (f (get_or ys k d)).0 key ≡ Greater) → find R key (map f ys) ≡ None
    find-apart key [] i before after = refl
    find-apart key (y ∷ ys) zero before after =
        ap (λ r. cond (is_eq r) (Some (f y).1) (find R key (map f ys))) (turned key (f y).0 Greater (after 0 y (omega arith) (omega arith)))
        ∙ find-apart key ys zero (λ k d low high. absurd (omega arith)) (λ k d low high. after (suc k) d (omega arith) (omega arith))
    find-apart key (y ∷ ys) (suc i) before after =
        ap (λ r. cond (is_eq r) (Some (f y).1) (find R key (map f ys))) (turned key (f y).0 Less (before 0 y (omega arith) (omega arith)))
        ∙ find-apart key ys i (λ k d low high. before (suc k) d (omega arith) (omega arith)) (λ k d low high. after (suc k) d (omega arith) (omega arith))

    -- what a search has found
    pub searched : (key : K) (ys : List Y) (r : Result ℕ ℕ) → IsTrue (is_sorted R (map f ys)) → IsSearchInRange r (length ys) → IsBinarySearchResult (λ y. R (f y).0 key) ys r → MatchResult r (λ i. (d : Y) → find R key (map f ys) ≡ Some (f (get_or ys i d)).1) (λ i. find R key (map f ys) ≡ None)
    searched key ys (Ok i) rise within ties = λ d. find-tied key ys i (f d) rise within ties ∙ ap (λ (e : K × X). Some e.1) (get_or-map f ys i d (f d) within)
    searched key ys (Err i) rise within apart =
        let parts = apart (searchable_from_sorted o (λ (y : Y). (f y).0) ys key (rising_sorted ys rise)) in
        find-apart key ys i parts.0 parts.1
