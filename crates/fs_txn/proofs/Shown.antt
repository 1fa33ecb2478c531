-- How many transactions are open, and the bytes that they were shown, after each of what becomes of them.
use Rattle.std.proofs.Common.{◌≡◌, ℕ, ℤ, ◌+◌, ◌≤◌, ◌<◌, Bool, true, false, cond, List, [], ◌∷◌, length, Some, None, refl, ap, ◌∙◌, subst, arith}
use Rattle.std.specs.Prelude.{◌==◌, nat_lt, not}
use Rattle.std.specs.List.{AllByRecursion, filter}
use Rattle.std.proofs.lemmas.List.Filters.{length-filter_both, sum_by-filter_both}
use Rattle.std.proofs.lemmas.List.Sums.{sum_by-cons}
use Rattle.std.proofs.lemmas.Bool.{eqb-true}
use Rattle.fs_txn.specs.declared.txn.Txn.{Txn}
use Rattle.fs_txn.specs.Expiry.{is_over, over}
use Rattle.fs_txn.specs.Reading.{shown_to_all, shown_to}
use Rattle.fs_txn.specs.Rising.{Rise}
use Rattle.fs_txn.specs.Transactions.{changed_at, put_in, txn_of}
use Rattle.fs_txn.proofs.Entries.{others_stay}

-- ---- how many

pub length_put : (t : Txn) (ts : List Txn) → length (put_in t ts) ≡ length ts + 1
length_put t [] = omega arith
length_put t (u ∷ us) = at (length_put t us) (nat_lt t.id u.id)
  where
    at : length (put_in t us) ≡ length us + 1 → (b : Bool) → length (cond b (t ∷ u ∷ us) (u ∷ put_in t us)) ≡ length (u ∷ us) + 1
    at more true = omega arith
    at more false = omega arith

pub length_changed : (id : ℕ) (f : Txn → Txn) (ts : List Txn) → length (changed_at id f ts) ≡ length ts
length_changed id f [] = refl
length_changed id f (t ∷ ts) = at (length_changed id f ts) (t.id == id)
  where
    at : length (changed_at id f ts) ≡ length ts → (b : Bool) → length (cond b (f t ∷ ts) (t ∷ changed_at id f ts)) ≡ length (t ∷ ts)
    at more true = refl
    at more false = omega arith

pub length_kept : (p : Txn → Bool) (ts : List Txn) → length (filter p ts) ≤ length ts
length_kept p ts = omega (arith, length-filter_both p (λ t. not (p t)) (λ t. refl) ts)

-- those that expire, and those that don't
pub length_over : (now : ℤ) (ts : List Txn) → length (over now ts) + length (filter (λ t. not (is_over now t)) ts) ≡ length ts
length_over now ts = length-filter_both (is_over now) (λ t. not (is_over now t)) (λ t. refl) ts

-- ---- bytes

pub shown_put : (t : Txn) (ts : List Txn) → shown_to t ≡ 0 → shown_to_all (put_in t ts) ≡ shown_to_all ts
shown_put t [] none = sum_by-cons shown_to t [] ∙ omega arith
shown_put t (u ∷ us) none = at (shown_put t us none) (nat_lt t.id u.id)
  where
    at : shown_to_all (put_in t us) ≡ shown_to_all us → (b : Bool) → shown_to_all (cond b (t ∷ u ∷ us) (u ∷ put_in t us)) ≡ shown_to_all (u ∷ us)
    at more true = omega (arith, sum_by-cons shown_to t (u ∷ us))
    at more false = omega (arith, sum_by-cons shown_to u (put_in t us), sum_by-cons shown_to u us)

-- the one of an id was shown this more
pub shown_changed : (id more : ℕ) (f : Txn → Txn) (o : Txn) (ts : List Txn) → ((t : Txn) → shown_to (f t) ≡ shown_to t + more) → txn_of id ts ≡ Some o → shown_to_all (changed_at id f ts) ≡ shown_to_all ts + more
shown_changed id more f o [] is at = absurd (cc)
shown_changed id more f o (t ∷ ts) is found = at (shown_changed id more f o ts is) (t.id == id) found
  where
    at : (txn_of id ts ≡ Some o → shown_to_all (changed_at id f ts) ≡ shown_to_all ts + more) → (b : Bool) → cond b (Some t) (txn_of id ts) ≡ Some o
        → shown_to_all (cond b (f t ∷ ts) (t ∷ changed_at id f ts)) ≡ shown_to_all (t ∷ ts) + more
    at rest true found = omega (arith, sum_by-cons shown_to (f t) ts, sum_by-cons shown_to t ts, is t)
    at rest false found = omega (arith, sum_by-cons shown_to t (changed_at id f ts), sum_by-cons shown_to t ts, rest found)

-- where none has the id, all stay
pub none_ends : (id : ℕ) (ts : List Txn) → txn_of id ts ≡ None → filter (λ t. not (t.id == id)) ts ≡ ts
none_ends id [] none = refl
none_ends id (t ∷ ts) none = at (none_ends id ts) (t.id == id) none
  where
    at : (txn_of id ts ≡ None → filter (λ u. not (u.id == id)) ts ≡ ts) → (b : Bool) → cond b (Some t) (txn_of id ts) ≡ None
        → cond (not b) (t ∷ filter (λ u. not (u.id == id)) ts) (filter (λ u. not (u.id == id)) ts) ≡ t ∷ ts
    at more true none = absurd (cc)
    at more false none = ap (λ us. t ∷ us) (more none)

pub shown_ended : (id : ℕ) (o : Txn) (ts : List Txn) → Rise ts → txn_of id ts ≡ Some o → shown_to_all (filter (λ t. not (t.id == id)) ts) + shown_to o ≡ shown_to_all ts
shown_ended id o [] rise found = absurd (cc)
shown_ended id o (t ∷ ts) rise found = at (shown_ended id o ts rise.1) (t.id == id) refl found
  where
    at : (txn_of id ts ≡ Some o → shown_to_all (filter (λ u. not (u.id == id)) ts) + shown_to o ≡ shown_to_all ts) → (b : Bool) → (t.id == id) ≡ b → cond b (Some t) (txn_of id ts) ≡ Some o
        → shown_to_all (cond (not b) (t ∷ filter (λ u. not (u.id == id)) ts) (filter (λ u. not (u.id == id)) ts)) + shown_to o ≡ shown_to_all (t ∷ ts)
    at more true is found =
        let stay = others_stay ts id (subst (λ (n : ℕ). AllByRecursion (λ (u : Txn). n < u.id) ts) (eqb-true t.id id is) rise.0) in
        let same : t ≡ o = cc in
        omega (arith, ap shown_to_all stay, ap shown_to same, sum_by-cons shown_to t ts)
    at more false is found = omega (arith, more found, sum_by-cons shown_to t (filter (λ u. not (u.id == id)) ts), sum_by-cons shown_to t ts)

pub shown_parts : (now : ℤ) (ts : List Txn) → shown_to_all (over now ts) + shown_to_all (filter (λ t. not (is_over now t)) ts) ≡ shown_to_all ts
shown_parts now ts = sum_by-filter_both (is_over now) (λ t. not (is_over now t)) (λ t. refl) shown_to ts

pub shown_over_below : (now : ℤ) (ts : List Txn) → shown_to_all (over now ts) ≤ shown_to_all ts
shown_over_below now ts = omega (arith, shown_parts now ts)
