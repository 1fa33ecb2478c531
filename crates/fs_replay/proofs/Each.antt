-- What holds of each of a list holds of each of what is left of it, and of one more.
use Rattle.std.proofs.Common.{◌≡◌, ℕ, Bool, true, false, cond, List, [], ◌∷◌, ◌++◌, Some, subst, suc, zero}
use Rattle.std.specs.Prelude.{remove, slice_get}
use Rattle.std.specs.List.{filter, AllByRecursion}
use Rattle.std.proofs.lemmas.Option.{same_Some}

module _ {A : Type 0} (P : A → Type 0) where
  filtered_next : (f : A → Bool) (x : A) (xs : List A) (b : Bool) → P x → AllByRecursion P (filter f xs) → AllByRecursion P (cond b (x ∷ filter f xs) (filter f xs))
  filtered_next f x xs true here more = (here, more)
  filtered_next f x xs false here more = more

  pub all_filtered : (f : A → Bool) (xs : List A) → AllByRecursion P xs → AllByRecursion P (filter f xs)
  all_filtered f [] all = tt
  all_filtered f (x ∷ xs) all = filtered_next f x xs (f x) all.0 (all_filtered f xs all.1)

  pub all_removed : (xs : List A) (place : ℕ) → AllByRecursion P xs → AllByRecursion P (remove xs place)
  all_removed [] zero all = tt
  all_removed [] (suc place) all = tt
  all_removed (x ∷ xs) zero all = all.1
  all_removed (x ∷ xs) (suc place) all = (all.0, all_removed xs place all.1)

  pub all_more : (xs : List A) (x : A) → AllByRecursion P xs → P x → AllByRecursion P (xs ++ x ∷ [])
  all_more [] x all here = (here, tt)
  all_more (y ∷ xs) x all here = (all.0, all_more xs x all.1 here)

  pub all_at : (xs : List A) (place : ℕ) (x : A) → slice_get xs place ≡ Some x → AllByRecursion P xs → P x
  all_at [] place x is all = absurd (cc)
  all_at (y ∷ xs) zero x is all = subst P (same_Some y x is) all.0
  all_at (y ∷ xs) (suc place) x is all = all_at xs place x is all.1
