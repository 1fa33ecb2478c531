-- Lists that are written item by item. Each crate that writes JSON may cite it.
use Rattle.std.proofs.Common.{◌≡◌, ℕ, ◌+◌, ◌<◌, List, [], ◌∷◌, ◌++◌, map, take, length, get_or, Result, Ok, Err, OnOk, sym, ap, ◌∙◌, subst}
use mathlib.Core.List.{map-append}
use Rattle.std.specs.List.{AllByRecursion}
use Rattle.std.proofs.lemmas.List.{take_more}
use Rattle.serde_json.specs.Data.{Data}
use Rattle.serde_json.specs.View.{view as json}
use Rattle.serde_json.specs.declared.value.Value.{Value}

all_push : {X : Type 0} (P : X → Type 0) (xs : List X) (x : X) → AllByRecursion P xs → P x → AllByRecursion P (xs ++ x ∷ [])
all_push P [] x all one = (one, tt)
all_push P (y ∷ xs) x all one = (all.0, all_push P xs x all.1 one)

-- the next element, behind those before it
next_taken : {X : Type 0} (xs : List X) (i : ℕ) (x : X) → i < length xs → x ≡ get_or xs i x → take (i + 1) xs ≡ take i xs ++ x ∷ []
next_taken xs i x within is = take_more xs i x within ∙ ap (λ y. take i xs ++ y ∷ []) (sym is)

pub all_next : {X : Type 0} (P : X → Type 0) (xs : List X) (i : ℕ) (x : X) → i < length xs → x ≡ get_or xs i x
    → AllByRecursion P (take i xs) → P x → AllByRecursion P (take (i + 1) xs)
all_next P xs i x within is all one = subst (AllByRecursion P) (sym (next_taken xs i x within is)) (all_push P (take i xs) x all one)

-- what is written so far, with one more
pub written_next : {X : Type 0} (f : X → Data) (js : List Value) (j : Value) (xs : List X) (i : ℕ) (x : X) → i < length xs → x ≡ get_or xs i x
    → map json js ≡ map f (take i xs) → json j ≡ f x → map json (js ++ j ∷ []) ≡ map f (take (i + 1) xs)
written_next f js j xs i x within is written one =
    let pushed : map json (js ++ j ∷ []) ≡ map f (take i xs ++ x ∷ []) =
    map-append json js (j ∷ []) ∙ ap (λ l. l ++ json j ∷ []) written ∙ ap (λ d. map f (take i xs) ++ d ∷ []) one ∙ sym (map-append f (take i xs) (x ∷ [])) in
    pushed ∙ ap (map f) (sym (next_taken xs i x within is))

-- what holds in any case holds where something is written
pub on_ok_always : {T E P : Type 0} (r : Result T E) → P → OnOk r P
on_ok_always (Ok x) p = p
on_ok_always (Err e) p = record {}
