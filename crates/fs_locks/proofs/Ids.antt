-- Ids: tests of two, lists of them, and the least of those that have a property.
use Rattle.std.proofs.Common.{◌≡◌, ℕ, ◌≤◌, Bool, true, false, cond, List, [], ◌∷◌, Option, Some, None, refl, sym, ap, ◌∙◌, subst, arith}
use Rattle.std.specs.Prelude.{◌≢◌, ◌==◌, ◌&&◌, ◌||◌, IsTrue, not, nat_le}
use Rattle.std.specs.BTreeMap.{is_at}
use Rattle.std.specs.Cmp.{Equal-is, unsigned_tied}
use Rattle.std.specs.FinSet.{nat_cmp-IsAntisymmetric}
use Rattle.std.specs.List.{AllByRecursion}
use Rattle.std.specs.List.Sorted.{IsStrictlySortedBy}
use Rattle.std.specs.Ordering.{nat_cmp, is_lt, ordering_reverse}
use Rattle.std.specs.declared.cmp.Ordering.TheVariants.{Less}
use Rattle.std.proofs.lemmas.Cmp.{eq_by_cmp_equiv, nat_cmp_total, tied_itself}
use Rattle.std.proofs.lemmas.Bool.{eqb-false, eqb-true, leb-true, leb-false, not-false, not-true, or_left, or_right}
use Rattle.std.proofs.lemmas.Bool.Decides.{nat_tests}
use Rattle.std.proofs.lemmas.Map.Keys.{ge_from_not_lt}
use Rattle.fs_locks.specs.Holds.{IsLeast, IsLeastOther, lesser_of}
use Rattle.fs_locks.specs.Tree.{has}

-- the test of a look-up is that of two numbers
pub tied : (i j : ℕ) → is_at (nat_cmp j) i ≡ (i == j)
tied i j = (eq_by_cmp_equiv nat_cmp_total).symm j i ∙ unsigned_tied i j

cond_or : (b x : Bool) → cond b true x ≡ (b || x)
cond_or true x = refl
cond_or false x = refl

cond_and : (b x : Bool) → cond b false x ≡ (not b && x)
cond_and true x = refl
cond_and false x = refl

pub inserted : (id : ℕ) (old new : List ℕ) → ((i : ℕ) → has i new ≡ cond (is_at (nat_cmp id) i) true (has i old)) → (i : ℕ) → has i new ≡ (i == id || has i old)
inserted id old new is i = is i ∙ cond_or (is_at (nat_cmp id) i) (has i old) ∙ ap (λ b. b || has i old) (tied i id)

pub removed : (id : ℕ) (old new : List ℕ) → ((i : ℕ) → has i new ≡ cond (is_at (nat_cmp id) i) false (has i old)) → (i : ℕ) → has i new ≡ (not (i == id) && has i old)
removed id old new is i = is i ∙ cond_and (is_at (nat_cmp id) i) (has i old) ∙ ap (λ b. not b && has i old) (tied i id)

-- ---- a walk over ids that rise

-- those that aren't passed yet: all passed ones are one id
pub record RestOf (ids rest : List ℕ) (by : ℕ) : Type 0 where
  pub rising : IsStrictlySortedBy nat_cmp rest
  pub within : (j : ℕ) → IsTrue (has j rest) → IsTrue (has j ids)
  pub others : (j : ℕ) → j ≢ by → IsTrue (has j ids) → IsTrue (has j rest)

pub rest_all : (ids : List ℕ) (by : ℕ) → IsStrictlySortedBy nat_cmp ids → RestOf ids ids by
rest_all ids by rise = record { rising = rise; within = λ j h. h; others = λ j apart h. h }

pub tied_is : (j id : ℕ) → is_at (nat_cmp j) id ≡ true → j ≡ id
tied_is j id ties = nat_cmp-IsAntisymmetric j id ((Equal-is _).0 ties)

later : (j id : ℕ) (x b : Bool) → is_at (nat_cmp j) id ≡ b → j ≢ id → IsTrue (b || x) → IsTrue x
later j id x true ties apart h = absurd (apart (tied_is j id ties))
later j id x false ties apart h = h

pub rest_next : (ids rest : List ℕ) (id by : ℕ) → RestOf ids (id ∷ rest) by → id ≡ by → RestOf ids rest by
unfolding IsStrictlySortedBy
rest_next ids rest id by r same = record {
  rising = r.rising.1;
  within = λ j h. r.within j (or_right (is_at (nat_cmp j) id) (has j rest) h);
  others = λ j apart h. later j id (has j rest) (is_at (nat_cmp j) id) refl (λ is. apart (is ∙ same)) (r.others j apart h);
}

pub itself : (id : ℕ) → is_at (nat_cmp id) id ≡ true
itself id = (Equal-is _).1 (tied_itself nat_cmp_total id)

below : (id j : ℕ) → nat_cmp id j ≡ Less → id ≤ j
below id j less = ge_from_not_lt j id (ap is_lt (nat_cmp_total.antisymm j id ∙ ap ordering_reverse less))

above_all : (id j : ℕ) (rest : List ℕ) → AllByRecursion (λ y. nat_cmp id y ≡ Less) rest → IsTrue (has j rest) → id ≤ j
above_all id j [] above h = absurd (cc)
above_all id j (y ∷ rest) above h = at (above_all id j rest above.1) (is_at (nat_cmp j) y) refl h
  where
    at : (IsTrue (has j rest) → id ≤ j) → (b : Bool) → is_at (nat_cmp j) y ≡ b → IsTrue (b || has j rest) → id ≤ j
    at more true ties h = subst (λ (k : ℕ). id ≤ k) (sym (tied_is j y ties)) (below id y above.0)
    at more false ties h = more h

least_first : (id j : ℕ) (rest : List ℕ) (b : Bool) → AllByRecursion (λ y. nat_cmp id y ≡ Less) rest → is_at (nat_cmp j) id ≡ b → IsTrue (b || has j rest) → id ≤ j
least_first id j rest true above ties h = let same = tied_is j id ties in omega arith
least_first id j rest false above ties h = above_all id j rest above h

pub rest_first : (ids rest : List ℕ) (id by : ℕ) → RestOf ids (id ∷ rest) by → id ≢ by → IsLeast (λ i. IsTrue (has i ids)) by id
unfolding IsStrictlySortedBy
rest_first ids rest id by r apart = record {
  other = apart;
  has = r.within id (or_left (is_at (nat_cmp id) id) (has id rest) (itself id));
  least = λ j h other. least_first id j rest (is_at (nat_cmp j) id) r.rising.0 refl (r.others j other h);
}

pub rest_none : (ids : List ℕ) (by : ℕ) → RestOf ids [] by → (j : ℕ) → IsTrue (has j ids) → j ≡ by
rest_none ids by r j h = at (is_at (nat_cmp j) by) refl
  where
    at : (b : Bool) → is_at (nat_cmp j) by ≡ b → j ≡ by
    at true ties = tied_is j by ties
    at false ties = let none = r.others j (λ same. let is = itself by in let moved = ap (λ (k : ℕ). is_at (nat_cmp k) by) same in absurd (cc)) h in absurd (cc)

-- ---- what the program's test of two ids tells

pub test_same : (i j : ℕ) → not (i == j) ≡ false → i ≡ j
test_same i j h = eqb-true i j (not-false (i == j) h)

pub test_apart : (i j : ℕ) → not (i == j) ≡ true → i ≢ j
test_apart i j h = eqb-false i j (not-true (i == j) h)

-- ---- the least of those with one property or another

module _ (P Q R : ℕ → Type 0) (from_first : (j : ℕ) → P j → R j) (from_second : (j : ℕ) → Q j → R j) (parts : (j : ℕ) (Z : Type 0) → R j → (P j → Z) → (Q j → Z) → Z) (by : ℕ) where
  of_first : (x : ℕ) → IsLeast P by x → ((j : ℕ) → Q j → j ≢ by → x ≤ j) → IsLeast R by x
  of_first x a above = record {
    other = a.other;
    has = from_first x a.has;
    least = λ j r apart. parts j (x ≤ j) r (λ p. a.least j p apart) (λ q. above j q apart);
  }

  of_second : (y : ℕ) → IsLeast Q by y → ((j : ℕ) → P j → j ≢ by → y ≤ j) → IsLeast R by y
  of_second y b above = record {
    other = b.other;
    has = from_second y b.has;
    least = λ j r apart. parts j (y ≤ j) r (λ p. above j p apart) (λ q. b.least j q apart);
  }

  both_least : (x y : ℕ) → IsLeast P by x → IsLeast Q by y → (b : Bool) → nat_le x y ≡ b → IsLeastOther R by (cond b (Some x) (Some y))
  both_least x y a b true le = of_first x a (λ j q apart. let far = b.least j q apart in let near = leb-true x y le in omega arith)
  both_least x y a b false le = of_second y b (λ j p apart. let far = a.least j p apart in let near = leb-false x y le in omega arith)

  pub least_both : (a b : Option ℕ) → IsLeastOther P by a → IsLeastOther Q by b → IsLeastOther R by (lesser_of a b)
  least_both None None first second = λ j r. parts j (j ≡ by) r (first j) (second j)
  least_both None (Some y) first second = of_second y second (λ j p apart. absurd (apart (first j p)))
  least_both (Some x) None first second = of_first x first (λ j q apart. absurd (apart (second j q)))
  least_both (Some x) (Some y) first second = both_least x y first second (nat_le x y) refl

pub either : (a b : Bool) (Z : Type 0) → IsTrue (a || b) → (IsTrue a → Z) → (IsTrue b → Z) → Z
either true b Z h f g = f refl
either false b Z h f g = g h

-- the least of those that pass one test or another
pub least_or : (p q r : ℕ → Bool) (by : ℕ) (a b : Option ℕ) → ((i : ℕ) → r i ≡ (p i || q i)) → IsLeastOther (λ i. IsTrue (p i)) by a → IsLeastOther (λ i. IsTrue (q i)) by b
    → IsLeastOther (λ i. IsTrue (r i)) by (lesser_of a b)
least_or p q r by a b is first second =
    least_both (λ i. IsTrue (p i)) (λ i. IsTrue (q i)) (λ i. IsTrue (r i))
    (λ i h. is i ∙ or_left (p i) (q i) h)
    (λ i h. is i ∙ or_right (p i) (q i) h)
    (λ i Z h f g. either (p i) (q i) Z (sym (is i) ∙ h) f g)
    by a b first second

-- ---- tests of two ids

pub same_id : (a b : ℕ) → (a == b) ≡ (b == a)
same_id a b = grind (arith, nat_tests)

pub apart_from : (a b i : ℕ) → (a == b) ≡ false → (i == b) ≡ true → (a == i) ≡ false
apart_from a b i apart is = grind (arith, nat_tests)
