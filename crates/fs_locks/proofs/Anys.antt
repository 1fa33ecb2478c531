-- Whether a test passes for some of several.
use Rattle.std.proofs.Common.{◌≡◌, Bool, true, false, cond, List, [], ◌∷◌, map, refl, sym, ap, ◌∙◌}
use Rattle.std.specs.Prelude.{◌&&◌, ◌||◌}
use Rattle.std.specs.List.{filter, list_any}

pub none_any : {A : Type 0} (xs : List A) → list_any (λ x. false) xs ≡ false
none_any [] = refl
none_any (x ∷ xs) = none_any xs

pub any_or : {A : Type 0} (p q : A → Bool) (xs : List A) → list_any (λ x. p x || q x) xs ≡ (list_any p xs || list_any q xs)
any_or p q [] = refl
any_or p q (x ∷ xs) = ap (λ b. (p x || q x) || b) (any_or p q xs) ∙ mixed (p x) (q x) (list_any p xs) (list_any q xs)
  where
    mixed : (a b c d : Bool) → ((a || b) || (c || d)) ≡ ((a || c) || (b || d))
    mixed true b c d = refl
    mixed false true true d = refl
    mixed false true false d = refl
    mixed false false c d = refl

pub any_and : {A : Type 0} (a : Bool) (p : A → Bool) (xs : List A) → list_any (λ x. a && p x) xs ≡ (a && list_any p xs)
any_and true p xs = refl
any_and false p xs = none_any xs

pub any_map : {A B : Type 0} (f : A → B) (p : B → Bool) (xs : List A) → list_any p (map f xs) ≡ list_any (λ x. p (f x)) xs
any_map f p [] = refl
any_map f p (x ∷ xs) = ap (λ b. p (f x) || b) (any_map f p xs)

pub any_kept : {A : Type 0} (g p : A → Bool) (xs : List A) → list_any p (filter g xs) ≡ list_any (λ x. g x && p x) xs
any_kept g p [] = refl
any_kept g p (x ∷ xs) = at (any_kept g p xs) (g x)
  where
    at : list_any p (filter g xs) ≡ list_any (λ y. g y && p y) xs → (b : Bool) → list_any p (cond b (x ∷ filter g xs) (filter g xs)) ≡ ((b && p x) || list_any (λ y. g y && p y) xs)
    at more true = ap (λ c. p x || c) more
    at more false = more

-- whichever is gone over first
pub swapped : {A B : Type 0} (f : A → B → Bool) (xs : List A) (ys : List B) → list_any (λ x. list_any (f x) ys) xs ≡ list_any (λ y. list_any (λ x. f x y) xs) ys
swapped f [] ys = sym (none_any ys)
swapped f (x ∷ xs) ys = ap (λ b. list_any (f x) ys || b) (swapped f xs ys) ∙ sym (any_or (f x) (λ y. list_any (λ z. f z y) xs) ys)
