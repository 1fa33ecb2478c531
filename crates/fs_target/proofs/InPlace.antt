-- Loops that change each element of a list in place: what stands of those so far, and of all at the end.
use Rattle.std.proofs.Common.{◌≡◌, ℕ, ◌+◌, ◌<◌, ◌≤◌, List, [], ◌∷◌, ◌++◌, map, length, drop, get_or, set, take, refl, sym, ap, ◌∙◌, subst, arith}
use Rattle.std.specs.List.{AllByRecursion}
use Rattle.std.proofs.lemmas.List.{drop-set-lt, drop_more, map-append, map_more, take_all, take_more_set}
use Rattle.fs_target.proofs.Each.{each_push}

module _ {A : Type 0} where
  -- what holds of those so far, and of one more
  pub all_more : (P : A → Type 0) (ys : List A) (i : ℕ) (y : A) → i < length ys → AllByRecursion P (take i ys) → P y → AllByRecursion P (take (i + 1) (set ys i y))
  all_more P ys i y low all is = subst (AllByRecursion P) (sym (take_more_set ys i y low)) (each_push P (take i ys) y all is)

  pub all_done : (P : A → Type 0) (ys : List A) (i : ℕ) → length ys ≤ i → AllByRecursion P (take i ys) → AllByRecursion P ys
  all_done P ys i high all = subst (AllByRecursion P) (take_all i ys high) all

-- ys is xs after the first i of them were changed, each so that g tells of it what t told before
pub record Changed {A S : Type 0} (g t : A → S) (xs ys : List A) (i : ℕ) : Type 0 where
  pub done : map g (take i ys) ≡ map t (take i xs)
  pub rest : drop i ys ≡ drop i xs

module _ {A S : Type 0} (g t : A → S) where
  pub changed_none : (xs : List A) → Changed g t xs xs 0
  changed_none xs = record { done = refl; rest = refl }

  pub changed_more : (xs ys : List A) (i : ℕ) (y d : A) → length ys ≡ length xs → i < length ys → Changed g t xs ys i → g y ≡ t (get_or ys i d) → Changed g t xs (set ys i y) (i + 1)
  changed_more xs ys i y d long low so_far is =
      let there : get_or ys i d ∷ drop (i + 1) ys ≡ get_or xs i d ∷ drop (i + 1) xs =
      sym (drop_more ys i d low) ∙ so_far.rest ∙ drop_more xs i d (omega arith) in
      let here : get_or ys i d ≡ get_or xs i d = cc in
      let behind : drop (i + 1) ys ≡ drop (i + 1) xs = cc in
      record {
        done = ap (map g) (take_more_set ys i y low)
            ∙ map-append g (take i ys) (y ∷ [])
            ∙ (λ j. so_far.done j ++ (is ∙ ap t here) j ∷ [])
            ∙ sym (map_more t xs i d (omega arith));
        rest = drop-set-lt (i + 1) ys i y (omega arith) ∙ behind;
      }

  pub changed_all : (xs ys : List A) (i : ℕ) → length ys ≡ length xs → length ys ≤ i → Changed g t xs ys i → map g ys ≡ map t xs
  changed_all xs ys i long high all = ap (map g) (sym (take_all i ys high)) ∙ all.done ∙ ap (map t) (take_all i xs (omega arith))
