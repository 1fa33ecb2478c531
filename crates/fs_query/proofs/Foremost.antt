-- The first of a list in order: they stay the first where others are left out before more come.
use Rattle.std.proofs.Common.{◌≡◌, ℕ, zero, suc, ◌+◌, ◌<◌, Bool, false, cond, List, [], ◌∷◌, ◌++◌, map, length, get_or, take, drop, Less, Equal, Greater, inl, inr, refl, sym, ap, ◌∙◌, subst, arith, append-nil, append_assoc}
use Rattle.std.specs.Prelude.{Option, Some, None}
use Rattle.std.specs.List.{Contains, AllByRecursion, IsDistinct, filter}
use Rattle.std.specs.List.Sorted.{IsStrictlySortedBy, IsSorted, IsPermutation}
use Rattle.std.specs.Ordering.{is_eq, ordering_reverse, eq_by_cmp, match_ordering}
use Rattle.std.specs.declared.cmp.Ordering.{Ordering}
use Rattle.std.specs.Cmp.{IsTotalOrder}
use Rattle.std.proofs.lemmas.List.{take-append-drop, take-take, take_more, map-append}
use Rattle.std.proofs.lemmas.List.Elements.{All-contains, All-from_recursion, filter-append}
use Rattle.std.proofs.lemmas.List.Sorted.{Contains-permutation, IsPermutation-refl, IsPermutation-sym, IsPermutation-trans, IsPermutation-append_left, IsPermutation-append_right, IsPermutation-to_front}
use Rattle.std.proofs.lemmas.Map.Keys.{IsDistinct-head, IsDistinct-tail, IsDistinct-from_sorted, IsDistinct-IsPermutation}
use Rattle.fs_query.specs.AnswerTo.{put_in, in_rise}
use Rattle.fs_query.specs.Found.{few, KeepsFirst}
use Rattle.fs_query.proofs.Rising.{has_none, has_cases, only_one, in_rise_rises, from_rise, to_rise, rise_sorted, rise_taken}

module _ {X : Type 0} (c : X → X → Ordering) (o : IsTotalOrder c) where
  turned_tie : (r : Ordering) → is_eq (ordering_reverse r) ≡ is_eq r
  turned_tie Less = refl
  turned_tie Equal = refl
  turned_tie Greater = refl

  pub tie_back : (a b : X) → eq_by_cmp c a b ≡ eq_by_cmp c b a
  tie_back a b = ap is_eq (o.antisymm a b) ∙ turned_tie (c b a)

  -- ---- elements that the order tells apart

  apart_from : (x : X) (xs : List X) (y : X) → IsDistinct (eq_by_cmp c) (x ∷ xs) → Contains xs y → is_eq (c x y) ≡ false
  apart_from x xs y apart h =
      All-contains (λ z. eq_by_cmp c x z ≡ false) xs y (All-from_recursion (λ z. eq_by_cmp c x z ≡ false) xs (IsDistinct-head (eq_by_cmp c) x xs apart)) h

  pub told : (xs : List X) → IsDistinct (eq_by_cmp c) xs → (a b : X) → Contains xs a → Contains xs b → c a b ≡ Equal → a ≡ b
  told [] apart a b h k e = absurd (has_none a h)
  told (x ∷ xs) apart a b h k e =
      elim (has_cases x xs a h) [
        | inl s ↦ elim (has_cases x xs b k) [
          | inl t ↦ sym s ∙ t
          | inr t ↦ let differ : is_eq (c a b) ≡ false = subst (λ z. is_eq (c z b) ≡ false) s (apart_from x xs b apart t) in absurd (cc (differ, ap is_eq e))
        ]
        | inr s ↦ elim (has_cases x xs b k) [
          | inl t ↦ let differ : is_eq (c b a) ≡ false = subst (λ z. is_eq (c z a) ≡ false) t (apart_from x xs a apart s) in absurd (cc (differ, tie_back a b, ap is_eq e))
          | inr t ↦ told xs (IsDistinct-tail (eq_by_cmp c) x xs apart) a b s t e
        ]
      ]

  all_front : (P : X → Type 0) (xs ys : List X) → AllByRecursion P (xs ++ ys) → AllByRecursion P xs
  all_front P [] ys h = tt
  all_front P (x ∷ xs) ys h = (h.0, all_front P xs ys h.1)

  distinct_front : (xs ys : List X) → IsDistinct (eq_by_cmp c) (xs ++ ys) → IsDistinct (eq_by_cmp c) xs
  unfolding IsDistinct
  distinct_front [] ys h = tt
  distinct_front (x ∷ xs) ys h = (all_front (λ y. eq_by_cmp c x y ≡ false) xs ys h.0, distinct_front xs ys h.1)

  moved_apart : (xs ys : List X) → IsPermutation xs ys → IsDistinct (eq_by_cmp c) xs → IsDistinct (eq_by_cmp c) ys
  moved_apart xs ys moved apart = IsDistinct-IsPermutation (eq_by_cmp c) tie_back xs ys moved apart

  -- ---- what a sort gives, where no two tie

  pub sort_is : (xs sorted : List X) → IsDistinct (eq_by_cmp c) xs → IsPermutation xs sorted → IsSorted c sorted → sorted ≡ in_rise c xs
  sort_is xs sorted apart moved up =
      only_one c o sorted (in_rise c xs) (rise_sorted c o sorted up (moved_apart xs sorted moved apart)) (in_rise_rises c o xs)
      (λ d h. to_rise c o xs (told xs apart) d (Contains-permutation sorted xs d (IsPermutation-sym xs sorted moved) h))
      (λ d h. Contains-permutation xs sorted d moved (from_rise c o xs d h))

  rise_moved : (xs ys : List X) → IsDistinct (eq_by_cmp c) xs → IsPermutation xs ys → in_rise c xs ≡ in_rise c ys
  rise_moved xs ys apart moved =
      only_one c o (in_rise c xs) (in_rise c ys) (in_rise_rises c o xs) (in_rise_rises c o ys)
      (λ d h. to_rise c o ys (told ys (moved_apart xs ys moved apart)) d (Contains-permutation xs ys d moved (from_rise c o xs d h)))
      (λ d h. to_rise c o xs (told xs apart) d (Contains-permutation ys xs d (IsPermutation-sym xs ys moved) (from_rise c o ys d h)))

  -- what rises is in order
  rise_is : (xs : List X) → IsStrictlySortedBy c xs → in_rise c xs ≡ xs
  rise_is xs up =
      only_one c o (in_rise c xs) xs (in_rise_rises c o xs) up (from_rise c o xs) (to_rise c o xs (told xs (IsDistinct-from_sorted c xs up)))

  -- ---- the first of one more

  take_front : (n : ℕ) (y : X) (ys : List X) → take n (y ∷ take n ys) ≡ take n (y ∷ ys)
  take_front zero y ys = refl
  take_front (suc n) y ys = ap (λ zs. y ∷ zs) (take-take n (suc n) ys (omega arith))

  take_put_by : (n : ℕ) (x y : X) (ys : List X) (r : Ordering) → take n (put_in c x (take n ys)) ≡ take n (put_in c x ys)
      → take (suc n) (match_ordering r (x ∷ y ∷ take n ys) (y ∷ take n ys) (y ∷ put_in c x (take n ys))) ≡ take (suc n) (match_ordering r (x ∷ y ∷ ys) (y ∷ ys) (y ∷ put_in c x ys))
  take_put_by n x y ys Less rest = ap (λ zs. x ∷ zs) (take_front n y ys)
  take_put_by n x y ys Equal rest = ap (λ zs. y ∷ zs) (take-take n n ys (omega arith))
  take_put_by n x y ys Greater rest = ap (λ zs. y ∷ zs) rest

  take_put : (n : ℕ) (x : X) (xs : List X) → take n (put_in c x (take n xs)) ≡ take n (put_in c x xs)
  take_put zero x xs = refl
  take_put (suc n) x [] = refl
  take_put (suc n) x (y ∷ ys) = take_put_by n x y ys (c x y) (take_put n x ys)

  few_put : (most : Option ℕ) (x : X) (xs : List X) → few most (put_in c x (few most xs)) ≡ few most (put_in c x xs)
  few_put None x xs = refl
  few_put (Some n) x xs = take_put n x xs

  -- ---- what is kept

  kept_apart : (most : Option ℕ) (all kept : List X) → KeepsFirst c most all kept → IsDistinct (eq_by_cmp c) all → IsDistinct (eq_by_cmp c) kept
  kept_apart most all kept k apart = distinct_front kept k.left (moved_apart all (kept ++ k.left) k.moved apart)

  pub keeps_all : (most : Option ℕ) (all : List X) → KeepsFirst c most all all
  keeps_all most all = record { left = []; moved = subst (IsPermutation all) (sym (append-nil all)) (IsPermutation-refl all); first = λ apart. refl }

  -- what is kept of what is kept
  pub keeps_then : (most : Option ℕ) (all some kept : List X) → KeepsFirst c most all some → KeepsFirst c most some kept → KeepsFirst c most all kept
  keeps_then most all some kept a b = record {
    left = b.left ++ a.left;
    moved =
        subst (IsPermutation all) (append_assoc kept b.left a.left)
        (IsPermutation-trans all (some ++ a.left) ((kept ++ b.left) ++ a.left) a.moved (IsPermutation-append_left a.left some (kept ++ b.left) b.moved));
    first = λ apart. b.first (kept_apart most all some a apart) ∙ a.first apart;
  }

  more_moved : (all kept left : List X) (x : X) → IsPermutation all (kept ++ left) → IsPermutation (all ++ x ∷ []) ((kept ++ x ∷ []) ++ left)
  more_moved all kept left x moved =
      IsPermutation-trans (all ++ x ∷ []) ((kept ++ left) ++ x ∷ []) ((kept ++ x ∷ []) ++ left)
      (IsPermutation-append_left (x ∷ []) all (kept ++ left) moved)
      (subst (λ zs. IsPermutation zs ((kept ++ x ∷ []) ++ left)) (sym (append_assoc kept left (x ∷ [])))
      (subst (IsPermutation (kept ++ (left ++ x ∷ []))) (sym (append_assoc kept (x ∷ []) left))
      (IsPermutation-append_right kept (left ++ x ∷ []) (x ∷ left) (IsPermutation-to_front left x))))

  -- with one more behind both
  pub keeps_more : (most : Option ℕ) (all kept : List X) (x : X) → KeepsFirst c most all kept → KeepsFirst c most (all ++ x ∷ []) (kept ++ x ∷ [])
  keeps_more most all kept x k = record {
    left = k.left;
    moved = more_moved all kept k.left x k.moved;
    first = λ apart.
        let own : IsDistinct (eq_by_cmp c) (kept ++ x ∷ []) =
        distinct_front (kept ++ x ∷ []) k.left (moved_apart (all ++ x ∷ []) ((kept ++ x ∷ []) ++ k.left) (more_moved all kept k.left x k.moved) apart) in
        ap (few most) (rise_moved (kept ++ x ∷ []) (x ∷ kept) own (IsPermutation-to_front kept x))
        ∙ sym (few_put most x (in_rise c kept))
        ∙ ap (λ xs. few most (put_in c x xs)) (k.first (distinct_front all (x ∷ []) apart))
        ∙ few_put most x (in_rise c all)
        ∙ ap (few most) (sym (rise_moved (all ++ x ∷ []) (x ∷ all) apart (IsPermutation-to_front all x)));
  }

  -- of all that are sorted
  pub keeps_cut : (n : ℕ) (all sorted : List X) → IsPermutation all sorted → IsSorted c sorted → KeepsFirst c (Some n) all (take n sorted)
  keeps_cut n all sorted moved up = record {
    left = drop n sorted;
    moved = subst (IsPermutation all) (sym (take-append-drop n sorted)) moved;
    first = λ apart.
        ap (take n) (rise_is (take n sorted) (rise_taken c n sorted (rise_sorted c o sorted up (moved_apart all sorted moved apart))))
        ∙ take-take n n sorted (omega arith)
        ∙ ap (take n) (sort_is all sorted apart moved up);
  }

  -- sorted, it begins as all of them
  pub keeps_sorted : (most : Option ℕ) (all kept sorted : List X) → KeepsFirst c most all kept → IsDistinct (eq_by_cmp c) all → IsPermutation kept sorted → IsSorted c sorted
      → few most sorted ≡ few most (in_rise c all)
  keeps_sorted most all kept sorted k apart moved up =
      ap (few most) (sort_is kept sorted (kept_apart most all kept k apart) moved up) ∙ k.first apart

-- ---- the test of one more

pub filter_more : {X Y : Type 0} (f : X → Y) (p : Y → Bool) (xs : List X) (k : ℕ) (d : X) → k < length xs → d ≡ get_or xs k d
    → filter p (map f (take (k + 1) xs)) ≡ filter p (map f (take k xs)) ++ cond (p (f d)) (f d ∷ []) []
filter_more f p xs k d h e =
    ap (λ zs. filter p (map f zs)) (take_more xs k d h)
    ∙ ap (filter p) (map-append f (take k xs) (get_or xs k d ∷ []))
    ∙ filter-append p (map f (take k xs)) (f (get_or xs k d) ∷ [])
    ∙ ap (λ z. filter p (map f (take k xs)) ++ cond (p (f z)) (f z ∷ []) []) (sym e)
