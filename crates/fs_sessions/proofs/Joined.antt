-- Loops that join what each of a list gives: what they have so far, joined with what is left, is all.
use Rattle.std.proofs.Common.{◌≡◌, ℕ, ◌+◌, ◌<◌, ℤ, Bool, true, false, cond, List, [], ◌∷◌, ◌++◌, drop, get_or, length, Option, Some, None, refl, sym, ap, ◌∙◌, arith}
use Rattle.std.specs.Prelude.{int_lt}
use Rattle.std.proofs.lemmas.Int.{ints}
use Rattle.std.proofs.lemmas.List.{append-nil, append_assoc, drop_more}
use Rattle.fs_listen.specs.Cuts.{least, least_before}

module _ {A B : Type 0} (join : B → B → B) (none : B) (thrice : (a b c : B) → join a (join b c) ≡ join (join a b) c) (alone : (b : B) → join b none ≡ b)
    (total : List A → B) (one : A → B) (next : (x : A) (xs : List A) → total (x ∷ xs) ≡ join (one x) (total xs)) (nil : total [] ≡ none) where
  -- one of those that are left
  pub joined_next : (all had has : B) (x : A) (xs : List A) → all ≡ join had (total (x ∷ xs)) → has ≡ join had (one x) → all ≡ join has (total xs)
  joined_next all had has x xs so_far with_it = so_far ∙ ap (join had) (next x xs) ∙ thrice had (one x) (total xs) ∙ ap (λ b. join b (total xs)) (sym with_it)

  -- and none is left
  pub joined_end : (all had : B) (xs : List A) → xs ≡ [] → all ≡ join had (total xs) → had ≡ all
  joined_end all had xs over so_far = sym (so_far ∙ ap (join had) (ap total over ∙ nil) ∙ alone had)

  pub joined_more : (all had has : B) (xs : List A) (i : ℕ) (x : A) → i < length xs → all ≡ join had (total (drop i xs)) → x ≡ get_or xs i x → has ≡ join had (one x)
      → all ≡ join has (total (drop (i + 1) xs))
  joined_more all had has xs i x low so_far is with_it =
      joined_next all had has x (drop (i + 1) xs) (so_far ∙ ap (λ ys. join had (total ys)) (drop_more xs i x low ∙ ap (λ y. y ∷ drop (i + 1) xs) (sym is))) with_it

-- ---- lists

pub list_thrice : {X : Type 0} (a b c : List X) → a ++ (b ++ c) ≡ (a ++ b) ++ c
list_thrice a b c = sym (append_assoc a b c)

pub list_alone : {X : Type 0} (a : List X) → a ++ [] ≡ a
list_alone a = append-nil a

-- ---- the least

lesser_thrice : (s t u : ℤ) → cond (int_lt (cond (int_lt u t) u t) s) (cond (int_lt u t) u t) s ≡ cond (int_lt u (cond (int_lt t s) t s)) u (cond (int_lt t s) t s)
lesser_thrice s t u = by_tests (int_lt u t) (int_lt t s) refl refl where
  by_tests : (a b : Bool) → int_lt u t ≡ a → int_lt t s ≡ b → cond (int_lt (cond a u t) s) (cond a u t) s ≡ cond (int_lt u (cond b t s)) u (cond b t s)
  by_tests true true is are = let low : int_lt u s ≡ true = grind (arith, ints) in ap (λ x. cond x u s) low ∙ sym (ap (λ x. cond x u t) is)
  by_tests true false is are = refl
  by_tests false true is are = ap (λ x. cond x t s) are ∙ sym (ap (λ x. cond x u t) is)
  by_tests false false is are =
      let high : int_lt u s ≡ false = grind (arith, ints) in
      ap (λ x. cond x t s) are ∙ sym (ap (λ x. cond x u s) high)

pub least_thrice : (a b c : Option ℤ) → least_before a (least_before b c) ≡ least_before (least_before a b) c
least_thrice None b c = refl
least_thrice (Some s) None c = refl
least_thrice (Some s) (Some t) None = refl
least_thrice (Some s) (Some t) (Some u) = ap (λ (v : ℤ). Some v) (lesser_thrice s t u)

pub least-append : (ts us : List (Option ℤ)) → least (ts ++ us) ≡ least_before (least ts) (least us)
least-append [] us = refl
least-append (t ∷ ts) us = ap (least_before t) (least-append ts us) ∙ least_thrice t (least ts) (least us)

pub least_alone : (t : Option ℤ) → least_before t None ≡ t
least_alone None = refl
least_alone (Some t) = refl
