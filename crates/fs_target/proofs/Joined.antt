-- The least and the greatest of times that may be there, and what a loop has of them so far.
use Rattle.std.proofs.Common.{◌≡◌, ℕ, ◌+◌, ◌<◌, ◌≤◌, ℤ, Bool, true, false, cond, List, [], ◌∷◌, ◌++◌, drop, get_or, length, Option, Some, None, refl, sym, ap, ◌∙◌, arith}
use Rattle.std.specs.Prelude.{int_lt}
use Rattle.std.proofs.lemmas.Int.{ints}
use Rattle.std.proofs.lemmas.List.{drop_all, drop_more}
use Rattle.fs_listen.specs.Cuts.{greatest_before, least, least_before}

-- ---- the least

lesser_thrice : (s t u : ℤ) → cond (int_lt (cond (int_lt u t) u t) s) (cond (int_lt u t) u t) s ≡ cond (int_lt u (cond (int_lt t s) t s)) u (cond (int_lt t s) t s)
lesser_thrice s t u = by_tests (int_lt u t) (int_lt t s) refl refl where
  by_tests : (a b : Bool) → int_lt u t ≡ a → int_lt t s ≡ b → cond (int_lt (cond a u t) s) (cond a u t) s ≡ cond (int_lt u (cond b t s)) u (cond b t s)
  by_tests true true is are = let low : int_lt u s ≡ true = grind (arith, ints) in ap (λ x. cond x u s) low ∙ sym (ap (λ x. cond x u t) is)
  by_tests true false is are = refl
  by_tests false true is are = ap (λ x. cond x t s) are ∙ sym (ap (λ x. cond x u t) is)
  by_tests false false is are =
      let high : int_lt u s ≡ false = grind (arith, ints) in
      ap (λ x. cond x t s) are ∙ sym (ap (λ x. cond x u s) high)

pub least_thrice : (a b c : Option ℤ) → least_before a (least_before b c) ≡ least_before (least_before a b) c
least_thrice None b c = refl
least_thrice (Some s) None c = refl
least_thrice (Some s) (Some t) None = refl
least_thrice (Some s) (Some t) (Some u) = ap (λ (v : ℤ). Some v) (lesser_thrice s t u)

pub least-append : (ts us : List (Option ℤ)) → least (ts ++ us) ≡ least_before (least ts) (least us)
least-append [] us = refl
least-append (t ∷ ts) us = ap (least_before t) (least-append ts us) ∙ least_thrice t (least ts) (least us)

pub least_alone : (t : Option ℤ) → least_before t None ≡ t
least_alone None = refl
least_alone (Some t) = refl

-- ---- the greatest

greater_thrice : (s t u : ℤ) → cond (int_lt s (cond (int_lt t u) u t)) (cond (int_lt t u) u t) s ≡ cond (int_lt (cond (int_lt s t) t s) u) u (cond (int_lt s t) t s)
greater_thrice s t u = by_tests (int_lt t u) (int_lt s t) refl refl where
  by_tests : (a b : Bool) → int_lt t u ≡ a → int_lt s t ≡ b → cond (int_lt s (cond a u t)) (cond a u t) s ≡ cond (int_lt (cond b t s) u) u (cond b t s)
  by_tests true true is are = let low : int_lt s u ≡ true = grind (arith, ints) in ap (λ x. cond x u s) low ∙ sym (ap (λ x. cond x u t) is)
  by_tests true false is are = refl
  by_tests false true is are = ap (λ x. cond x t s) are ∙ sym (ap (λ x. cond x u t) is)
  by_tests false false is are =
      let high : int_lt s u ≡ false = grind (arith, ints) in
      ap (λ x. cond x t s) are ∙ sym (ap (λ x. cond x u s) high)

pub greatest_thrice : (a b c : Option ℤ) → greatest_before a (greatest_before b c) ≡ greatest_before (greatest_before a b) c
greatest_thrice None b c = refl
greatest_thrice (Some s) None c = refl
greatest_thrice (Some s) (Some t) None = refl
greatest_thrice (Some s) (Some t) (Some u) = ap (λ (v : ℤ). Some v) (greater_thrice s t u)

pub greatest_alone : (t : Option ℤ) → greatest_before t None ≡ t
greatest_alone None = refl
greatest_alone (Some t) = refl

-- ---- a loop that has what those so far come to, while `total` is what the others do

module _ {A : Type 0} (join : Option ℤ → Option ℤ → Option ℤ) (thrice : (a b c : Option ℤ) → join a (join b c) ≡ join (join a b) c) (alone : (a : Option ℤ) → join a None ≡ a)
    (total : List A → Option ℤ) (one : A → Option ℤ) (next : (x : A) (xs : List A) → total (x ∷ xs) ≡ join (one x) (total xs)) (none : total [] ≡ None) where
  pub joined_more : (all had has : Option ℤ) (xs : List A) (i : ℕ) (x : A) → i < length xs → all ≡ join had (total (drop i xs)) → x ≡ get_or xs i x → has ≡ join had (one x)
      → all ≡ join has (total (drop (i + 1) xs))
  joined_more all had has xs i x low so_far is with_it =
      let rest = total (drop (i + 1) xs) in
      so_far
      ∙ ap (join had) (ap total (drop_more xs i x low) ∙ next (get_or xs i x) (drop (i + 1) xs) ∙ ap (λ y. join (one y) rest) (sym is))
      ∙ thrice had (one x) rest
      ∙ ap (λ o. join o rest) (sym with_it)

  pub joined_all : (all had : Option ℤ) (xs : List A) (i : ℕ) → length xs ≤ i → all ≡ join had (total (drop i xs)) → had ≡ all
  joined_all all had xs i high so_far = sym (so_far ∙ ap (join had) (ap total (drop_all i xs high) ∙ none) ∙ alone had)
