-- Whether a number is among some: among those of two lists, and among those that pass a test.
use Rattle.std.proofs.Common.{◌≡◌, ℕ, Bool, true, false, cond, ◌||◌, List, [], ◌∷◌, ◌++◌, refl, sym, ap, ◌∙◌}
use Rattle.std.specs.Prelude.{◌&&◌, ◌==◌, is_some, not}
use Rattle.std.specs.FinMap.{contains_key, get}
use Rattle.std.specs.List.{filter}
use Rattle.std.specs.Ordering.{eq_by_cmp, nat_cmp}
use Rattle.std.proofs.Math.Bool.{and-true}
use Rattle.std.proofs.lemmas.Bool.{and_right, eqb-true}
use Rattle.fs_listen.proofs.Listed.{number_is, other_number, same_itself}
use Rattle.fs_cache.specs.Cached.{is_number, without}
use Rattle.fs_local.specs.State.{Targets}
use Rattle.fs_local.specs.Told.{own}

-- two tie exactly where they are the same
pub tied_is : (n k : ℕ) → eq_by_cmp nat_cmp n k ≡ (n == k)
tied_is n k = by_test (eq_by_cmp nat_cmp n k) refl where
  by_test : (same : Bool) → eq_by_cmp nat_cmp n k ≡ same → same ≡ (n == k)
  by_test true ties = sym (ap (λ m. n == m) (sym (number_is n k ties)) ∙ same_itself n)
  by_test false ties = sym (other_number n k ties)

pub in_append : (ks ls : List ℕ) (n : ℕ) → is_number (ks ++ ls) n ≡ (is_number ks n || is_number ls n)
in_append [] ls n = refl
in_append (k ∷ ks) ls n = by_test (n == k) (in_append ks ls n) where
  by_test : (same : Bool) → is_number (ks ++ ls) n ≡ (is_number ks n || is_number ls n) → (same || is_number (ks ++ ls) n) ≡ ((same || is_number ks n) || is_number ls n)
  by_test true rest = refl
  by_test false rest = rest

pub in_kept : (p : ℕ → Bool) (ks : List ℕ) (n : ℕ) → is_number (filter p ks) n ≡ (is_number ks n && p n)
in_kept p [] n = refl
in_kept p (k ∷ ks) n = by_tests (n == k) refl (p k) refl (in_kept p ks n) where
  by_tests : (same : Bool) → (n == k) ≡ same → (keeps : Bool) → p k ≡ keeps → is_number (filter p ks) n ≡ (is_number ks n && p n)
      → is_number (cond keeps (k ∷ filter p ks) (filter p ks)) n ≡ ((same || is_number ks n) && p n)
  by_tests true same true keeps rest = ap (λ b. b || is_number (filter p ks) n) same ∙ sym (ap p (eqb-true n k same) ∙ keeps)
  by_tests true same false keeps rest =
      let fails : p n ≡ false = ap p (eqb-true n k same) ∙ keeps in
      rest ∙ and_right (is_number ks n) (p n) fails ∙ sym fails
  by_tests false same true keeps rest = ap (λ b. b || is_number (filter p ks) n) same ∙ rest
  by_tests false same false keeps rest = rest

-- one that isn't gone stays
pub in_without : (gone ks : List ℕ) (n : ℕ) → is_number (without gone ks) n ≡ (is_number ks n && not (is_number gone n))
in_without gone ks n = in_kept (λ k. not (is_number gone k)) ks n

-- ---- of targets

pub in_own : (ts : Targets) (ids : List ℕ) (id : ℕ) → is_number (own ts ids) id ≡ (is_number ids id && is_some (get ts.listened id))
in_own ts ids id = in_kept (contains_key ts.listened) ids id

-- one that is listened to is among the client's own exactly where it is among all
pub in_own_listened : (ts : Targets) (ids : List ℕ) (id : ℕ) → is_some (get ts.listened id) ≡ true → is_number (own ts ids) id ≡ is_number ids id
in_own_listened ts ids id there = in_own ts ids id ∙ ap (λ b. is_number ids id && b) there ∙ and-true (is_number ids id)
