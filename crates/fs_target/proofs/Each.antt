-- What holds of each of a list.
use Rattle.std.proofs.Common.{◌≡◌, ℕ, zero, suc, ◌+◌, ◌<◌, Bool, true, false, cond, List, [], ◌∷◌, ◌++◌, map, length, get_or, take, refl, sym, subst, arith}
use Rattle.std.proofs.Math.ListN.{set}
use Rattle.std.specs.List.{AllByRecursion, filter, insert as put_in, remove as take_out}
use Rattle.std.proofs.lemmas.List.{take_more}

-- what is made of each
pub map_alike : {X Y : Type 0} (f g : X → Y) (xs : List X) → AllByRecursion (λ x. f x ≡ g x) xs → map f xs ≡ map g xs
map_alike f g [] same = refl
map_alike f g (x ∷ xs) same = λ i. same.0 i ∷ map_alike f g xs same.1 i

pub each_from_map : {X Y : Type 0} (f : X → Y) (P : Y → Type 0) (Q : X → Type 0) → ((x : X) → P (f x) → Q x) → (xs : List X) → AllByRecursion P (map f xs) → AllByRecursion Q xs
each_from_map f P Q so [] all = tt
each_from_map f P Q so (x ∷ xs) all = (so x all.0, each_from_map f P Q so xs all.1)

pub each_in_map : {X Y : Type 0} (f : X → Y) (P : Y → Type 0) → (xs : List X) → AllByRecursion (λ x. P (f x)) xs → AllByRecursion P (map f xs)
each_in_map f P [] all = tt
each_in_map f P (x ∷ xs) all = (all.0, each_in_map f P xs all.1)

module _ {X : Type 0} (P : X → Type 0) where
  pub each_push : (xs : List X) (x : X) → AllByRecursion P xs → P x → AllByRecursion P (xs ++ x ∷ [])
  each_push [] x all here = (here, tt)
  each_push (y ∷ ys) x all here = (all.0, each_push ys x all.1 here)

  pub each_of : ((x : X) → P x) → (xs : List X) → AllByRecursion P xs
  each_of is [] = tt
  each_of is (x ∷ xs) = (is x, each_of is xs)

  pub each_append : (xs ys : List X) → AllByRecursion P xs → AllByRecursion P ys → AllByRecursion P (xs ++ ys)
  each_append [] ys first second = second
  each_append (x ∷ xs) ys first second = (first.0, each_append xs ys first.1 second)

  pub each_weaker : (Q : X → Type 0) → ((x : X) → P x → Q x) → (xs : List X) → AllByRecursion P xs → AllByRecursion Q xs
  each_weaker Q weaker [] all = tt
  each_weaker Q weaker (x ∷ xs) all = (weaker x all.0, each_weaker Q weaker xs all.1)

  pub each_both : (Q : X → Type 0) (xs : List X) → AllByRecursion P xs → AllByRecursion Q xs → AllByRecursion (λ x. P x × Q x) xs
  each_both Q [] all other = tt
  each_both Q (x ∷ xs) all other = ((all.0, other.0), each_both Q xs all.1 other.1)

  pub each_filter : (p : X → Bool) (xs : List X) → AllByRecursion P xs → AllByRecursion P (filter p xs)
  each_filter p [] all = tt
  each_filter p (x ∷ xs) all = one (p x) (each_filter p xs all.1) where
    one : (b : Bool) → AllByRecursion P (filter p xs) → AllByRecursion P (cond b (x ∷ filter p xs) (filter p xs))
    one true rest = (all.0, rest)
    one false rest = rest

  pub each_at : (xs : List X) (i : ℕ) (d : X) → i < length xs → AllByRecursion P xs → P (get_or xs i d)
  each_at [] i d within all = absurd (omega arith)
  each_at (x ∷ xs) zero d within all = all.0
  each_at (x ∷ xs) (suc i) d within all = each_at xs i d (omega arith) all.1

  -- where another is put at a place, of which the same holds
  pub each_set : (xs : List X) (i : ℕ) (y d : X) → i < length xs → (P (get_or xs i d) → P y) → AllByRecursion P xs → AllByRecursion P (set xs i y)
  each_set [] i y d within so all = absurd (omega arith)
  each_set (x ∷ xs) zero y d within so all = (so all.0, all.1)
  each_set (x ∷ xs) (suc i) y d within so all = (all.0, each_set xs i y d (omega arith) so all.1)

  pub each_behind : (xs ys : List X) → AllByRecursion P (xs ++ ys) → AllByRecursion P ys
  each_behind [] ys all = all
  each_behind (x ∷ xs) ys all = each_behind xs ys all.1

  pub each_before : (xs ys : List X) → AllByRecursion P (xs ++ ys) → AllByRecursion P xs
  each_before [] ys all = tt
  each_before (x ∷ xs) ys all = (all.0, each_before xs ys all.1)

  -- one more of those in front
  pub each_more : (xs : List X) (i : ℕ) (x : X) → i < length xs → x ≡ get_or xs i x → AllByRecursion P (take i xs) → P x → AllByRecursion P (take (i + 1) xs)
  each_more xs i x low is all here = subst (AllByRecursion P) (sym (take_more xs i x low)) (each_push (take i xs) (get_or xs i x) all (subst P is here))

  -- one more at a place, and one less
  pub each_insert : (xs : List X) (i : ℕ) (x : X) → AllByRecursion P xs → P x → AllByRecursion P (put_in xs i x)
  each_insert [] zero x all here = (here, tt)
  each_insert [] (suc i) x all here = (here, tt)
  each_insert (y ∷ ys) zero x all here = (here, all)
  each_insert (y ∷ ys) (suc i) x all here = (all.0, each_insert ys i x all.1 here)

  pub each_remove : (xs : List X) (i : ℕ) → AllByRecursion P xs → AllByRecursion P (take_out xs i)
  each_remove [] zero all = tt
  each_remove [] (suc i) all = tt
  each_remove (x ∷ xs) zero all = all.1
  each_remove (x ∷ xs) (suc i) all = (all.0, each_remove xs i all.1)
