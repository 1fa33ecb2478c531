-- What a walk over an object's members finds under the two spellings of a name.
use Rattle.std.proofs.Common.{◌≡◌, ◌≤◌, ◌&&◌, ℕ, List, [], ◌∷◌, length, Bool, true, false, Option, Some, None, option_map, IfSome, Ok, bytes_eq, cond, is_eq, refl, sym, ap, ◌∙◌, true≢false, arith}
use Rattle.std.specs.Prelude.{not}
use Rattle.std.specs.Char.{is_ascii_uppercase, to_ascii_lowercase}
use Rattle.std.specs.Cmp.Lexicographic.{slice_cmp}
use Rattle.std.specs.Option.{option_or}
use Rattle.std.specs.Ordering.{nat_cmp, match_ordering}
use Rattle.std.specs.declared.cmp.Ordering.{Ordering}
use Rattle.std.specs.declared.cmp.Ordering.TheVariants.{Less, Equal, Greater}
use Rattle.std.proofs.lemmas.Map.Text.{is_eq-slice_cmp}
use Rattle.std.proofs.lemmas.Slice.Eq.{bytes_eq-Decides}
use Rattle.serde_json.specs.Data.{Data, Members, member}
use Rattle.serde_json.specs.Find.{get_member}
use Rattle.fs_json.specs.Members.{given_at, member_in, one_spelling}
use Rattle.fs_json.specs.Names.{snake_of, spells}
use Rattle.fs_json.specs.Spellings.{second_at, second_given}
use Rattle.fs_path.specs.Place.{member_place}
use Rattle.fs_path.proofs.Bools.{or_within}

-- ---- the lengths of the spellings

-- the second spelling is no shorter
longer : (name : List ℕ) → length name ≤ length (snake_of name)
longer [] = omega arith
longer (c ∷ cs) =
    let P : Bool → Type 0 = λ upper. length (c ∷ cs) ≤ length (cond upper (95 ∷ to_ascii_lowercase c ∷ snake_of cs) (c ∷ snake_of cs)) in
    let cases : (upper : Bool) → P upper = λ upper. elim upper as P [
      | true ↦ omega (arith, longer cs)
      | false ↦ omega (arith, longer cs)
    ] in cases (is_ascii_uppercase c)

-- and one that isn't longer is the name
as_long : (name : List ℕ) → length (snake_of name) ≤ length name → snake_of name ≡ name
as_long [] h = refl
as_long (c ∷ cs) h =
    let P : Bool → Type 0 = λ upper. length (cond upper (95 ∷ to_ascii_lowercase c ∷ snake_of cs) (c ∷ snake_of cs)) ≤ length (c ∷ cs)
    → cond upper (95 ∷ to_ascii_lowercase c ∷ snake_of cs) (c ∷ snake_of cs) ≡ c ∷ cs in
    let cases : (upper : Bool) → P upper = λ upper. elim upper as P [
      | true ↦ λ short. absurd (omega (arith, longer cs, short))
      | false ↦ λ short. ap (λ rest. c ∷ rest) (as_long cs (omega (arith, short)))
    ] in cases (is_ascii_uppercase c) h

-- a key that is no longer than a name is its second spelling only where it is the name
pub no_longer : (name key : List ℕ) → length key ≤ length name → bytes_eq (snake_of name) key ≡ true → bytes_eq name key ≡ true
no_longer name key h is =
    let same : snake_of name ≡ key = (bytes_eq-Decides (snake_of name) key).0 is in
    (bytes_eq-Decides name key).1 (sym (as_long name (omega (arith, h, ap length same))) ∙ same)

pub spells_short : (name key : List ℕ) → length key ≤ length name → spells name key ≡ bytes_eq name key
spells_short name key h = or_within (bytes_eq name key) (bytes_eq (snake_of name) key) (no_longer name key h)

pub no_second_short : (name key : List ℕ) → length key ≤ length name → (bytes_eq (snake_of name) key && not (bytes_eq name key)) ≡ false
no_second_short name key h = cases (bytes_eq name key) (bytes_eq (snake_of name) key) (no_longer name key h)
  where
    cases : (first second : Bool) → (second ≡ true → first ≡ true) → (second && not first) ≡ false
    cases true true h = refl
    cases true false h = refl
    cases false true h = sym (h refl)
    cases false false h = refl

-- ---- members

matched : (o : Ordering) (d : Data) (rest : Option Data) → match_ordering o rest (Some d) rest ≡ cond (is_eq o) (Some d) rest
matched Less d rest = refl
matched Equal d rest = refl
matched Greater d rest = refl

-- a look-up at the first member
looked_up : (name key : List ℕ) (d : Data) (ms : Members) → get_member name (member key d ms) ≡ cond (bytes_eq name key) (Some d) (get_member name ms)
looked_up name key d ms = matched (slice_cmp nat_cmp name key) d (get_member name ms) ∙ ap (λ b. cond b (Some d) (get_member name ms)) (is_eq-slice_cmp name key)

pub first_here : (name key : List ℕ) (d : Data) (ms : Members) → bytes_eq name key ≡ true → get_member name (member key d ms) ≡ Some d
first_here name key d ms is = looked_up name key d ms ∙ ap (λ b. cond b (Some d) (get_member name ms)) is

pub first_later : (name key : List ℕ) (d : Data) (ms : Members) → bytes_eq name key ≡ false → get_member name (member key d ms) ≡ get_member name ms
first_later name key d ms isnt = looked_up name key d ms ∙ ap (λ b. cond b (Some d) (get_member name ms)) isnt

both : (a b : Bool) → (a && not b) ≡ true → (a ≡ true) × (b ≡ false)
both true false e = (refl, refl)
both true true e = absurd (true≢false (sym e))
both false b e = absurd (true≢false (sym e))

differs : (name key : List ℕ) (b : Bool) → bytes_eq (snake_of name) name ≡ b → bytes_eq (snake_of name) key ≡ true → bytes_eq name key ≡ false → b ≡ false
differs name key true e is isnt =
    let same : name ≡ key = sym ((bytes_eq-Decides (snake_of name) name).0 e) ∙ (bytes_eq-Decides (snake_of name) key).0 is in
    absurd (true≢false (sym ((bytes_eq-Decides name key).1 same) ∙ isnt))
differs name key false e is isnt = refl

pub second_first : (name key : List ℕ) → (bytes_eq (snake_of name) key && not (bytes_eq name key)) ≡ true → snake_of name ≡ key
second_first name key is = (bytes_eq-Decides (snake_of name) key).0 (both (bytes_eq (snake_of name) key) (bytes_eq name key) is).0

pub second_here : (name key : List ℕ) (d : Data) (ms : Members) → (bytes_eq (snake_of name) key && not (bytes_eq name key)) ≡ true → second_at name (member key d ms) ≡ Some d
second_here name key d ms is =
    let parts = both (bytes_eq (snake_of name) key) (bytes_eq name key) is in
    ap (λ b. cond b None (get_member (snake_of name) (member key d ms))) (differs name key (bytes_eq (snake_of name) name) refl parts.0 parts.1)
    ∙ first_here (snake_of name) key d ms parts.0

other_key : (name key : List ℕ) (a b : Bool) → bytes_eq (snake_of name) key ≡ a → bytes_eq name key ≡ b → bytes_eq (snake_of name) name ≡ false → (a && not b) ≡ false → a ≡ false
other_key name key true true ea eb e none =
    let same : snake_of name ≡ name = (bytes_eq-Decides (snake_of name) key).0 ea ∙ sym ((bytes_eq-Decides name key).0 eb) in
    absurd (true≢false (sym ((bytes_eq-Decides (snake_of name) name).1 same) ∙ e))
other_key name key true false ea eb e none = none
other_key name key false b ea eb e none = refl

later_at : (name key : List ℕ) (d : Data) (ms : Members) (b : Bool) → bytes_eq (snake_of name) name ≡ b → (bytes_eq (snake_of name) key && not (bytes_eq name key)) ≡ false
    → cond b None (get_member (snake_of name) (member key d ms)) ≡ cond b None (get_member (snake_of name) ms)
later_at name key d ms true e none = refl
later_at name key d ms false e none = first_later (snake_of name) key d ms (other_key name key (bytes_eq (snake_of name) key) (bytes_eq name key) refl refl e none)

pub second_later : (name key : List ℕ) (d : Data) (ms : Members) → (bytes_eq (snake_of name) key && not (bytes_eq name key)) ≡ false
    → second_at name (member key d ms) ≡ second_at name ms
second_later name key d ms none = later_at name key d ms (bytes_eq (snake_of name) name) refl none

-- the name itself is no other spelling
pub first_no_second : (name key : List ℕ) → bytes_eq name key ≡ true → (bytes_eq (snake_of name) key && not (bytes_eq name key)) ≡ false
first_no_second name key is = ap (λ b. bytes_eq (snake_of name) key && not b) is ∙ none (bytes_eq (snake_of name) key)
  where
    none : (a : Bool) → (a && false) ≡ false
    none true = refl
    none false = refl

-- what was found before what is found here stays
pub found_first : {A B : Type 0} (f : A → B) (o : Option A) (x : A) (rest : Option B) → option_or (option_map f (option_or o (Some x))) rest ≡ option_or (option_map f o) (Some (f x))
found_first f None x rest = refl
found_first f (Some y) x rest = refl

pub kept_first : {A : Type 0} (P : A → Type 0) (o : Option A) (x : A) → IfSome o P → P x → IfSome (option_or o (Some x)) P
kept_first P None x holds is = is
kept_first P (Some y) x holds is = holds

-- a member by its two spellings
pub by_spellings : (name : List ℕ) (ms : Members) (place : List ℕ)
    → member_in name ms place ≡ one_spelling (member_place place (snake_of name)) (given_at name ms) (second_given name ms)
by_spellings name ms place = cases (bytes_eq (snake_of name) name) (member_place place (snake_of name)) (given_at name ms) (given_at (snake_of name) ms)
  where
    cases : (b : Bool) (second : List ℕ) (first other : Option Data) → cond b (Ok first) (one_spelling second first other) ≡ one_spelling second first (cond b None other)
    cases true second None other = refl
    cases true second (Some d) other = refl
    cases false second first other = refl
