-- A walk over an object's members, beside the look-up of the one that is there. Each crate that reads JSON may cite it.
use Rattle.std.proofs.Common.{◌≡◌, ℕ, List, [], ◌∷◌, ◌++◌, map, Option, Some, None, option_map, Result, Ok, Err, IfOk, refl, sym, ap, ◌∙◌, cond}
use mathlib.Core.List.{map-append}
use Rattle.std.specs.List.{AllByRecursion}
use Rattle.std.specs.Option.{option_to_list, option_map_or}
use Rattle.fs_path.specs.declared.place.Rule.TheVariants.{G}
use Rattle.serde_json.specs.Data.{Data, Members, member}
use Rattle.fs_json.specs.Answer.{or_fault, ◌>>=◌}
use Rattle.fs_json.specs.Members.{chosen, if_chosen, is_given, first_spelled, none_or_one, only_at, the_one}
use Rattle.fs_json.specs.declared.bad.Bad.{Bad}
use Rattle.fs_json.specs.declared.bad.Bad.TheVariants.{At}
use Rattle.fs_json.proofs.Readings.{at_last_holds}

-- ---- what holds of the members that are chosen

all_append : {A : Type 0} (P : A → Type 0) (xs ys : List A) → AllByRecursion P xs → AllByRecursion P ys → AllByRecursion P (xs ++ ys)
all_append P [] ys front back = back
all_append P (x ∷ xs) ys front back = (front.0, all_append P xs ys front.1 back)

all_there : {A B : Type 0} (P : B → Type 0) (make : A → B) (found : Option A) → ((x : A) → P (make x)) → AllByRecursion P (option_to_list (option_map make found))
all_there P make None each = tt
all_there P make (Some x) each = (each x, tt)

-- a walk that reads the members that are chosen
pub each_chosen : {A : Type 0} (P : A → Type 0) (names : List (List ℕ)) (make : List ℕ → A) (k : List ℕ) (d : Data) (rest : List A)
    → ((name : List ℕ) → P (make name)) → AllByRecursion P rest → AllByRecursion P (if_chosen names make k d ++ rest)
each_chosen P names make k d rest each more =
    all_append P (if_chosen names make k d) rest (all_there P make (cond (is_given k d) (first_spelled names k) None) each) more

-- the reading of the one that is there
pub one_of : {A : Type 0} (P : A → Type 0) (place : List ℕ) (absent : Result A Bad) (readings : List (Result A Bad)) → IfOk absent P
    → AllByRecursion (λ reading. IfOk reading P) readings → IfOk (the_one place absent readings) P
one_of P place absent [] none each = none
one_of P place absent (reading ∷ []) none each = each.0
one_of P place absent (first ∷ second ∷ rest) none each = record {}

-- and where no other member is there
pub only_one_of : {A : Type 0} (P : A → Type 0) (names : List (List ℕ)) (d : Data) (place : List ℕ) (absent : Result A Bad) (readings : List (Result A Bad)) → IfOk absent P
    → AllByRecursion (λ reading. IfOk reading P) readings → IfOk (only_at names d place >>= λ _. the_one place absent readings) P
only_one_of P names d place absent readings none each = at_last_holds P (only_at names d place) _ (λ u. one_of P place absent readings none each)

-- ---- the walk as a look-up

map-made : {A B C : Type 0} (f : B → C) (g : A → B) (o : Option A) → map f (option_to_list (option_map g o)) ≡ option_to_list (option_map (λ x. f (g x)) o)
map-made f g None = refl
map-made f g (Some x) = refl

-- a walk that reads the members that are chosen
pub one_more : {A : Type 0} (names : List (List ℕ)) (f : List ℕ × Data → A) (k : List ℕ) (d : Data) (ms : Members) (rest : List A)
    → rest ≡ map f (chosen names ms) → if_chosen names (λ name. f (name, d)) k d ++ rest ≡ map f (chosen names (member k d ms))
one_more names f k d ms rest e =
    ap (λ r. if_chosen names (λ name. f (name, d)) k d ++ r) e
    ∙ ap (λ front. front ++ map f (chosen names ms)) (sym (map-made f (λ name. (name, d)) (cond (is_given k d) (first_spelled names k) None)))
    ∙ sym (map-append f (if_chosen names (λ name. (name, d)) k d) (chosen names ms))

-- one of the readings, beside the reading of the one
pub the_one-map : {A X : Type 0} (f : X → Result A Bad) (place : List ℕ) (absent : Result A Bad) (xs : List X)
    → the_one place absent (map f xs) ≡ or_fault G place (none_or_one xs) >>= λ found. option_map_or f found absent
the_one-map f place absent [] = refl
the_one-map f place absent (x ∷ []) = refl
the_one-map f place absent (x ∷ y ∷ rest) = refl

-- what is read in turn
pub in_turn : {A B C : Type 0} (first : Result A Bad) (then : Result B Bad) (f : B → Result C Bad) → (first >>= λ _. then >>= f) ≡ ((first >>= λ _. then) >>= f)
in_turn (Ok x) then f = refl
in_turn (Err bad) then f = refl

pub one_or_fault : {A X : Type 0} (f : X → Result A Bad) (place : List ℕ) (read : Result (Option X) Bad)
    → (read >>= λ found. option_map_or f found (Err (At G place))) ≡ ((read >>= or_fault G place) >>= f)
one_or_fault f place (Ok None) = refl
one_or_fault f place (Ok (Some x)) = refl
one_or_fault f place (Err bad) = refl
