-- Times that may be there, against the least and the greatest of them.
use Rattle.std.proofs.Common.{◌≡◌, ℕ, zero, suc, ℤ, ◌≤ℤ◌, ◌<ℤ◌, Bool, true, false, cond, ◌&&◌, List, [], ◌∷◌, Option, Some, None, refl, sym, ap, ◌∙◌, subst, arith}
use Rattle.std.specs.Prelude.{IfSome, int_le, int_lt, is_some, slice_index_or}
use Rattle.std.specs.List.{AllByRecursion, flat_map}
use Rattle.std.proofs.lemmas.Int.{ints}
use Rattle.fs_time.proofs.Tests.{at_most, not_after_later}
use Rattle.fs_listen.specs.Cuts.{greater_of, greatest, is_from, least, lesser_of}
use Rattle.fs_target.specs.Keeps.{is_told}
use Rattle.fs_target.proofs.Each.{each_append, each_before, each_behind}

-- ---- of all of a list

pub all_parts : {X Y : Type 0} (P : Y → Type 0) (f : X → List Y) (xs : List X) → AllByRecursion P (flat_map f xs) → AllByRecursion (λ x. AllByRecursion P (f x)) xs
all_parts P f [] all = tt
all_parts P f (x ∷ xs) all = (each_before P (f x) (flat_map f xs) all, all_parts P f xs (each_behind P (f x) (flat_map f xs) all))

pub all_joined : {X Y : Type 0} (P : Y → Type 0) (f : X → List Y) (xs : List X) → AllByRecursion (λ x. AllByRecursion P (f x)) xs → AllByRecursion P (flat_map f xs)
all_joined P f [] all = tt
all_joined P f (x ∷ xs) all = each_append P (f x) (flat_map f xs) all.0 (all_joined P f xs all.1)

-- what holds of each time that is there holds of the one at an index, if there is one
pub at_index : (Q : ℤ → Type 0) (ts : List (Option ℤ)) (k : ℕ) → AllByRecursion (λ (o : Option ℤ). IfSome o Q) ts → IfSome (slice_index_or ts k None) Q
at_index Q [] k all = tt
at_index Q (t ∷ ts) zero all = all.0
at_index Q (t ∷ ts) (suc k) all = at_index Q ts k all.1

-- ---- the least

below_both : (t u : ℤ) (o : Option ℤ) → t ≤ℤ lesser_of u o → (t ≤ℤ u) × IfSome o (λ v. t ≤ℤ v)
below_both t u None low = (low, tt)
below_both t u (Some v) low = by_test (int_lt v u) refl low where
  by_test : (less : Bool) → int_lt v u ≡ less → t ≤ℤ cond less v u → (t ≤ℤ u) × (t ≤ℤ v)
  by_test true is low = let below : v <ℤ u = grind (arith, ints) in (omega (arith, ints), low)
  by_test false is low = let from : u ≤ℤ v = grind (arith, ints) in (low, omega (arith, ints))

-- what isn't above the least isn't above any of them
pub low_all : (ts : List (Option ℤ)) (o : Option ℤ) (t : ℤ) → least ts ≡ o → IfSome o (λ v. t ≤ℤ v) → AllByRecursion (λ (p : Option ℤ). IfSome p (λ u. t ≤ℤ u)) ts
low_all [] o t is low = tt
low_all (None ∷ ts) o t is low = (tt, low_all ts o t is low)
low_all (Some u ∷ ts) o t is low =
    let both = below_both t u (least ts) (subst (λ (p : Option ℤ). IfSome p (λ v. t ≤ℤ v)) (sym is) low) in
    (both.0, low_all ts (least ts) t refl both.1)

-- ---- the greatest

above_both : (t u : ℤ) (o : Option ℤ) → greater_of u o ≤ℤ t → (u ≤ℤ t) × IfSome o (λ v. v ≤ℤ t)
above_both t u None high = (high, tt)
above_both t u (Some v) high = by_test (int_lt u v) refl high where
  by_test : (less : Bool) → int_lt u v ≡ less → cond less v u ≤ℤ t → (u ≤ℤ t) × (v ≤ℤ t)
  by_test true is high = let below : u <ℤ v = grind (arith, ints) in (omega (arith, ints), high)
  by_test false is high = let from : v ≤ℤ u = grind (arith, ints) in (high, omega (arith, ints))

high_all : (ts : List (Option ℤ)) (o : Option ℤ) (t : ℤ) → greatest ts ≡ o → IfSome o (λ v. v ≤ℤ t) → AllByRecursion (λ (p : Option ℤ). IfSome p (λ u. u ≤ℤ t)) ts
high_all [] o t is high = tt
high_all (None ∷ ts) o t is high = (tt, high_all ts o t is high)
high_all (Some u ∷ ts) o t is high =
    let both = above_both t u (greatest ts) (subst (λ (p : Option ℤ). IfSome p (λ v. v ≤ℤ t)) (sym is) high) in
    (both.0, high_all ts (greatest ts) t refl both.1)

-- a time from the greatest on is from each of them on
pub from_all : (ts : List (Option ℤ)) (t : ℤ) → is_from (greatest ts) t ≡ true → AllByRecursion (λ (p : Option ℤ). IfSome p (λ u. u ≤ℤ t)) ts
from_all ts t from = high_all ts (greatest ts) t refl (by_greatest (greatest ts) from) where
  by_greatest : (o : Option ℤ) → is_from o t ≡ true → IfSome o (λ v. v ≤ℤ t)
  by_greatest None is = tt
  by_greatest (Some v) is = at_most v t is

-- ---- tests of a time

pub both_false : (a : Bool) → (a && false) ≡ false
both_false true = refl
both_false false = refl

pub both_true : (a : Bool) → (a && true) ≡ a
both_true true = refl
both_true false = refl

-- a target that was told up to a time was told what is up to it
pub told_up_to : (behind : Bool) (o : Option ℤ) (u time : ℤ) → is_some o ≡ true → IfSome o (λ p. time ≤ℤ p) → ((behind && is_told o u) && int_le u time) ≡ (behind && int_le u time)
told_up_to behind None u time there low = absurd (cc)
told_up_to false (Some p) u time there low = refl
told_up_to true (Some p) u time there low = by_test (int_le u time) refl where
  by_test : (le : Bool) → int_le u time ≡ le → (int_le u p && le) ≡ le
  by_test true is = ap (λ b. b && true) (not_after_later u time p is low)
  by_test false is = both_false (int_le u p)

-- what is behind a time is behind an earlier one
pub behind_later : (base time u : ℤ) (told : Bool) → base ≤ℤ time → ((int_lt base u && told) && int_lt time u) ≡ (int_lt time u && told)
behind_later base time u told order = by_test (int_lt time u) refl told where
  later : int_lt time u ≡ true → int_lt base u ≡ true
  later is = let from : base ≤ℤ time = order in grind (arith, ints)

  by_test : (above : Bool) → int_lt time u ≡ above → (b : Bool) → ((int_lt base u && b) && above) ≡ (above && b)
  by_test true is b = both_true (int_lt base u && b) ∙ ap (λ a. a && b) (later is)
  by_test false is b = both_false (int_lt base u && b)

-- nothing above all positions was told
pub not_told_yet : (behind : Bool) (o : Option ℤ) (u known : ℤ) → known <ℤ u → IfSome o (λ p. p ≤ℤ known) → (behind && is_told o u) ≡ false
not_told_yet behind None u known above high = both_false behind
not_told_yet behind (Some p) u known above high = ap (λ b. behind && b) (too_late p u known above high) ∙ both_false behind where
  too_late : (q v w : ℤ) → w <ℤ v → q ≤ℤ w → int_le v q ≡ false
  too_late q v w less within = grind (arith, ints)
