-- A key without a `_` is no name's second spelling.
use Rattle.std.proofs.Common.{◌≡◌, ◌||◌, ◌&&◌, ℕ, List, [], ◌∷◌, Bool, true, false, cond, refl, sym, ◌∙◌, ap, true≢false}
use Rattle.std.specs.Bool.{OnFalse}
use Rattle.std.specs.Prelude.{◌==◌, not, is_some, Some}
use Rattle.std.proofs.lemmas.Bool.{and_right, or_parts}
use Rattle.std.specs.Char.{is_ascii_uppercase, to_ascii_lowercase}
use Rattle.std.specs.List.{list_any}
use Rattle.std.specs.Str.{bytes_eq}
use Rattle.std.proofs.lemmas.Slice.Eq.{bytes_eq-Decides}
use Rattle.serde_json.specs.Data.{Data, Members, member}
use Rattle.fs_json.specs.Names.{snake_of}
use Rattle.fs_json.specs.Members.{first_twice, given_at, is_given, is_second}

-- whether a text has a `_`
abbrev pub has_low_line : List ℕ → Bool
has_low_line = list_any (λ c. c == 95)

-- of a name whose second spelling has no `_`, that is the name
plain : (name : List ℕ) → has_low_line (snake_of name) ≡ false → snake_of name ≡ name
plain [] h = refl
plain (c ∷ cs) h =
    let P : Bool → Type 0 = λ upper. has_low_line (cond upper (95 ∷ to_ascii_lowercase c ∷ snake_of cs) (c ∷ snake_of cs)) ≡ false
    → cond upper (95 ∷ to_ascii_lowercase c ∷ snake_of cs) (c ∷ snake_of cs) ≡ c ∷ cs in
    let cases : (upper : Bool) → P upper = λ upper. elim upper as P [
      | true ↦ λ lower. absurd (true≢false lower)
      | false ↦ λ lower. ap (λ rest. c ∷ rest) (plain cs (or_parts (c == 95) _ lower).1)
    ] in cases (is_ascii_uppercase c) h

-- no name has it as its second spelling
not_second : (name key : List ℕ) (given : Bool) → has_low_line key ≡ false
    → (bytes_eq (snake_of name) key && (not (bytes_eq name key) && given)) ≡ false
not_second name key given none =
    let P : Bool → Type 0 = λ snake. bytes_eq (snake_of name) key ≡ snake → (snake && (not (bytes_eq name key) && given)) ≡ false in
    let cases : (snake : Bool) → P snake = λ snake. elim snake as P [
      | true ↦ λ is.
          let same : snake_of name ≡ key = (bytes_eq-Decides _ _).0 is in
          let low : has_low_line (snake_of name) ≡ false = ap has_low_line same ∙ none in
          let named : bytes_eq name key ≡ true = (bytes_eq-Decides _ _).1 (sym (plain name low) ∙ same) in
          ap (λ b. not b && given) named
      | false ↦ λ is. refl
    ] in cases (bytes_eq (snake_of name) key) refl

pub none_second : (names : List (List ℕ)) (all : Members) (key : List ℕ) → has_low_line key ≡ false
    → is_second names all key ≡ false
none_second [] all key none = refl
none_second (name ∷ names) all key none =
    ap (λ b. b || is_second names all key) (not_second name key (is_some (given_at name all)) none) ∙ none_second names all key none

-- so no member is given a second time by it
pub not_twice : (names : List (List ℕ)) (all : Members) (key : List ℕ) (d : Data) (ms : Members) → is_second names all key ≡ false
    → first_twice names all (member key d ms) ≡ first_twice names all ms
not_twice names all key d ms none = ap (λ b. cond b (Some key) (first_twice names all ms)) (and_right (is_given key d) (is_second names all key) none)

-- ---- what holds where a test fails

pub on_false : (b : Bool) {P : Type 0} → (b ≡ false → P) → OnFalse b P
on_false true h = tt
on_false false h = h refl

pub where_false : (b : Bool) {P Q : Type 0} → OnFalse b P → (P → Q) → OnFalse b Q
where_false true h more = tt
where_false false h more = more h
