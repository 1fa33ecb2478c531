-- Where a commit waits behind none, it writes no name that one which isn't released writes; and the number that it is told else.
use Rattle.std.proofs.Common.{◌≡◌, ℕ, ◌≤◌, Bool, true, false, cond, List, [], ◌∷◌, Option, Some, None, map, refl, sym, ap, ◌∙◌, subst, arith}
use Rattle.std.specs.Prelude.{◌==◌, ◌&&◌, ◌||◌, IsTrue, nat_le}
use Rattle.std.specs.List.{filter, list_any, AllByRecursion}
use Rattle.std.proofs.lemmas.Bool.{eq-eqb, eqb-true, leb-false, leb-true, or_left, or_parts, or_right}
use Rattle.std.proofs.Math.Bool.{and-false, and-true}
use Rattle.fs_write.specs.declared.write.Write.{Write}
use Rattle.fs_history.specs.declared.batch.Batch.{Batch}
use Rattle.fs_machine.specs.Behind.{least, lesser, write_same, writing_same}
use Rattle.fs_machine.specs.Laws.{IsLeastOf}
use Rattle.fs_machine.specs.Past.{batches}
use Rattle.fs_machine.specs.declared.unreleased.Unreleased.{Unreleased}

-- none of the names that a batch writes is among those of these writes
abbrev pub IsFree : List Write → Batch → Type 0
IsFree ws b = write_same ws b.writes ≡ false

free_next : (u : Unreleased) (us : List Unreleased) (ws : List Write) (b : Bool) → write_same ws u.batch.writes ≡ b
    → least (map (λ v. v.batch.id) (cond b (u ∷ filter (λ v. write_same ws v.batch.writes) us) (filter (λ v. write_same ws v.batch.writes) us))) ≡ None
    → (least (writing_same us ws) ≡ None → AllByRecursion (IsFree ws) (batches us)) → AllByRecursion (IsFree ws) (batches (u ∷ us))
free_next u us ws true is none more = absurd (cc)
free_next u us ws false is none more = (is, more none)

pub free_behind_none : (us : List Unreleased) (ws : List Write) → least (writing_same us ws) ≡ None → AllByRecursion (IsFree ws) (batches us)
free_behind_none [] ws none = tt
free_behind_none (u ∷ us) ws none = free_next u us ws (write_same ws u.batch.writes) refl none (free_behind_none us ws)

pub none_any : {A : Type 0} (f : A → Bool) (xs : List A) → list_any f xs ≡ false → AllByRecursion (λ x. f x ≡ false) xs
none_any f [] is = tt
none_any f (x ∷ xs) is = let both = or_parts (f x) (list_any f xs) is in (both.0, none_any f xs both.1)

-- ---- the least of some numbers

-- it is one of them, and none is below it
abbrev pub IsLeastIn : List ℕ → Option ℕ → Type 0
IsLeastIn ns None = ns ≡ []
IsLeastIn ns (Some m) = IsTrue (list_any (λ n. n == m) ns) × AllByRecursion (λ n. m ≤ n) ns

all_above : (m k : ℕ) (ns : List ℕ) → k ≤ m → AllByRecursion (λ n. m ≤ n) ns → AllByRecursion (λ n. k ≤ n) ns
all_above m k [] below all = tt
all_above m k (n ∷ ns) below all = let first = all.0 in (omega arith, all_above m k ns below all.1)

lesser_in : (n m : ℕ) (ns : List ℕ) (b : Bool) → nat_le n m ≡ b → IsLeastIn ns (Some m) → IsLeastIn (n ∷ ns) (Some (cond b n m))
lesser_in n m ns true le is = let near = leb-true n m le in (or_left (n == n) (list_any (λ k. k == n) ns) (eq-eqb n n refl), (omega arith, all_above m n ns near is.1))
lesser_in n m ns false le is = let near = leb-false n m le in (or_right (n == m) (list_any (λ k. k == m) ns) is.0, (omega arith, is.1))

least_with : (n : ℕ) (ns : List ℕ) (o : Option ℕ) → IsLeastIn ns o → IsLeastIn (n ∷ ns) (Some (lesser n o))
least_with n ns None is = (or_left (n == n) (list_any (λ k. k == n) ns) (eq-eqb n n refl), (omega arith, subst (AllByRecursion (λ k. n ≤ k)) (sym is) tt))
least_with n ns (Some m) is = lesser_in n m ns (nat_le n m) refl is

pub least_in : (ns : List ℕ) → IsLeastIn ns (least ns)
least_in [] = refl
least_in (n ∷ ns) = least_with n ns (least ns) (least_in ns)

-- ---- the one of the least number

abbrev pub is_one : List ℕ → ℕ → Bool
is_one ns i = list_any (λ n. n == i) ns

pub above : (ns : List ℕ) (m j : ℕ) → AllByRecursion (λ n. m ≤ n) ns → IsTrue (is_one ns j) → m ≤ j
above [] m j all is = absurd (cc)
above (n ∷ ns) m j all is = at (above ns m j all.1) (n == j) refl is
  where
    at : (IsTrue (is_one ns j) → m ≤ j) → (b : Bool) → (n == j) ≡ b → IsTrue (b || is_one ns j) → m ≤ j
    at more true ties h = let same = eqb-true n j ties in let first = all.0 in omega arith
    at more false ties h = more h

-- it is of those that pass a test
pub one_next : {A : Type 0} (number : A → ℕ) (test : A → Bool) (x : A) (xs : List A) (i : ℕ) (b : Bool)
    → ((number x == i && b) || is_one (map number (filter test xs)) i) ≡ is_one (map number (cond b (x ∷ filter test xs) (filter test xs))) i
one_next number test x xs i true = ap (λ a. a || is_one (map number (filter test xs)) i) (and-true (number x == i))
one_next number test x xs i false = ap (λ a. a || is_one (map number (filter test xs)) i) (and-false (number x == i))

pub one_holds : {A : Type 0} (number : A → ℕ) (test : A → Bool) (xs : List A) (i : ℕ) → list_any (λ x. number x == i && test x) xs ≡ is_one (map number (filter test xs)) i
one_holds number test [] i = refl
one_holds number test (x ∷ xs) i = ap (λ b. (number x == i && test x) || b) (one_holds number test xs i) ∙ one_next number test x xs i (test x)

as_told : (P : ℕ → Type 0) (ns : List ℕ) (found : Option ℕ) → ((i : ℕ) → IsTrue (is_one ns i) → P i) → ((i : ℕ) → P i → IsTrue (is_one ns i)) → IsLeastIn ns found → IsLeastOf P found
as_told P ns None from to none = λ i is. let one = to i is in let nothing : is_one ns i ≡ false = ap (λ xs. is_one xs i) none in absurd (cc)
as_told P ns (Some id) from to is = (from id is.0, λ i held. above ns id i is.1 (to i held))

-- the least of some numbers, where a property is that of being one of them
pub least_told : (P : ℕ → Type 0) (ns : List ℕ) → ((i : ℕ) → IsTrue (is_one ns i) → P i) → ((i : ℕ) → P i → IsTrue (is_one ns i)) → IsLeastOf P (least ns)
least_told P ns from to = as_told P ns (least ns) from to (least_in ns)

-- of those that pass a test
pub least_passing : {A : Type 0} (number : A → ℕ) (test : A → Bool) (xs : List A) → IsLeastOf (λ i. IsTrue (list_any (λ x. number x == i && test x) xs)) (least (map number (filter test xs)))
least_passing number test xs = least_told _ (map number (filter test xs)) (λ i is. one_holds number test xs i ∙ is) (λ i is. sym (one_holds number test xs i) ∙ is)
