-- Loops that change each element of a list in place: what stands of those so far, and of all at the end.
use Rattle.std.proofs.Common.{◌≡◌, ℕ, zero, suc, ◌+◌, ◌<◌, ◌≤◌, List, [], ◌∷◌, ◌++◌, map, length, drop, get_or, set, take, sym, ap, ◌∙◌, subst, arith}
use Rattle.std.specs.List.{AllByRecursion}
use Rattle.std.proofs.lemmas.List.{drop-set-lt, drop_more, map-append, map_more, take_all, take_more_set}

module _ {A : Type 0} (P : A → Type 0) where
  each_push : (xs : List A) (x : A) → AllByRecursion P xs → P x → AllByRecursion P (xs ++ x ∷ [])
  each_push [] x all here = (here, tt)
  each_push (y ∷ ys) x all here = (all.0, each_push ys x all.1 here)

  each_at : (xs : List A) (i : ℕ) (d : A) → i < length xs → AllByRecursion P xs → P (get_or xs i d)
  each_at [] i d within all = absurd (omega arith)
  each_at (x ∷ xs) zero d within all = all.0
  each_at (x ∷ xs) (suc i) d within all = each_at xs i d (omega arith) all.1

  -- what holds of those so far, and of one more
  pub all_more : (ys : List A) (i : ℕ) (y : A) → i < length ys → AllByRecursion P (take i ys) → P y → AllByRecursion P (take (i + 1) (set ys i y))
  all_more ys i y low all is = subst (AllByRecursion P) (sym (take_more_set ys i y low)) (each_push (take i ys) y all is)

-- ys is xs after the first i of them were changed, each so that g tells of it what t told before
pub record Changed {A S : Type 0} (g t : A → S) (xs ys : List A) (i : ℕ) : Type 0 where
  pub done : map g (take i ys) ≡ map t (take i xs)
  pub rest : drop i ys ≡ drop i xs

module _ {A S : Type 0} (g t : A → S) where
  -- where P holds of each that is still to be changed
  pub changed_more : (P : A → Type 0) (xs ys : List A) (i : ℕ) (y d : A) → length ys ≡ length xs → i < length ys → AllByRecursion P xs → Changed g t xs ys i
      → (P (get_or ys i d) → g y ≡ t (get_or ys i d)) → Changed g t xs (set ys i y) (i + 1)
  changed_more P xs ys i y d long low all so_far is =
      let there : get_or ys i d ∷ drop (i + 1) ys ≡ get_or xs i d ∷ drop (i + 1) xs =
      sym (drop_more ys i d low) ∙ so_far.rest ∙ drop_more xs i d (omega arith) in
      let here : get_or ys i d ≡ get_or xs i d = cc in
      let behind : drop (i + 1) ys ≡ drop (i + 1) xs = cc in
      let so : g y ≡ t (get_or xs i d) = is (subst P (sym here) (each_at P xs i d (omega arith) all)) ∙ ap t here in
      record {
        done = ap (map g) (take_more_set ys i y low)
            ∙ map-append g (take i ys) (y ∷ [])
            ∙ (λ j. so_far.done j ++ so j ∷ [])
            ∙ sym (map_more t xs i d (omega arith));
        rest = drop-set-lt (i + 1) ys i y (omega arith) ∙ behind;
      }

  pub changed_all : (xs ys : List A) (i : ℕ) → length ys ≡ length xs → length ys ≤ i → Changed g t xs ys i → map g ys ≡ map t xs
  changed_all xs ys i long high all = ap (map g) (sym (take_all i ys high)) ∙ all.done ∙ ap (map t) (take_all i xs (omega arith))
