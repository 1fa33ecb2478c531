-- What holds of each of a list, of lists that are made of it, and back.
use Rattle.std.proofs.Common.{Bool, true, false, cond, List, [], ◌∷◌, ◌++◌, map, Option, Some, None}
use Rattle.std.specs.Prelude.{IfSome}
use Rattle.std.specs.List.{AllByRecursion, cons_option, filter, flat_map}

pub all_any : {X : Type 0} (P : X → Type 0) → ((x : X) → P x) → (xs : List X) → AllByRecursion P xs
all_any P each [] = tt
all_any P each (x ∷ xs) = (each x, all_any P each xs)

pub all_cons : {X : Type 0} (Q : X → Type 0) (o : Option X) (xs : List X) → IfSome o Q → AllByRecursion Q xs → AllByRecursion Q (cons_option o xs)
all_cons Q None xs one all = all
all_cons Q (Some x) xs one all = (one, all)

pub all_both : {X : Type 0} (P : X → Type 0) (xs ys : List X) → AllByRecursion P xs → AllByRecursion P ys → AllByRecursion P (xs ++ ys)
all_both P [] ys first second = second
all_both P (x ∷ xs) ys first second = (first.0, all_both P xs ys first.1 second)

pub all_flat : {X Y : Type 0} (P : X → Type 0) (Q : Y → Type 0) (f : X → List Y) → ((x : X) → P x → AllByRecursion Q (f x)) → (xs : List X) → AllByRecursion P xs → AllByRecursion Q (flat_map f xs)
all_flat P Q f each [] all = tt
all_flat P Q f each (x ∷ xs) all = all_both Q (f x) (flat_map f xs) (each x all.0) (all_flat P Q f each xs all.1)

pub all_passing : {X : Type 0} (P : X → Type 0) (p : X → Bool) (xs : List X) → AllByRecursion P xs → AllByRecursion P (filter p xs)
all_passing P p [] all = tt
all_passing P p (x ∷ xs) all = by_test (all_passing P p xs all.1) (p x) where
  by_test : AllByRecursion P (filter p xs) → (b : Bool) → AllByRecursion P (cond b (x ∷ filter p xs) (filter p xs))
  by_test rest true = (all.0, rest)
  by_test rest false = rest

-- ---- and back

pub all_unmapped : {X Y : Type 0} (Q : Y → Type 0) (f : X → Y) (xs : List X) → AllByRecursion Q (map f xs) → AllByRecursion (λ x. Q (f x)) xs
all_unmapped Q f [] all = tt
all_unmapped Q f (x ∷ xs) all = (all.0, all_unmapped Q f xs all.1)

parts_of : {X : Type 0} (Q : X → Type 0) (xs ys : List X) → AllByRecursion Q (xs ++ ys) → AllByRecursion Q xs × AllByRecursion Q ys
parts_of Q [] ys all = (tt, all)
parts_of Q (x ∷ xs) ys all = let rest = parts_of Q xs ys all.1 in ((all.0, rest.0), rest.1)

pub all_unflat : {X Y : Type 0} (Q : Y → Type 0) (f : X → List Y) (xs : List X) → AllByRecursion Q (flat_map f xs) → AllByRecursion (λ x. AllByRecursion Q (f x)) xs
all_unflat Q f [] all = tt
all_unflat Q f (x ∷ xs) all = let parts = parts_of Q (f x) (flat_map f xs) all in (parts.0, all_unflat Q f xs parts.1)
