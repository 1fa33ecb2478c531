-- Members of which some are absent: which of them is found, that no others are there, and how they are put in.
use Rattle.std.proofs.Common.{◌≡◌, ℕ, List, [], ◌∷◌, ◌&&◌, Bool, true, false, cond, Option, Some, None, Ordering, Less, Equal, Greater, Ok, Err, refl, ap, ◌∙◌, bytes_eq, nat_cmp}
use Rattle.std.specs.Prelude.{option_and_then}
use Rattle.std.specs.Cmp.Lexicographic.{slice_cmp}
use Rattle.std.specs.List.{list_any}
use Rattle.std.specs.Option.{option_map_or, option_or}
use Rattle.std.specs.Ordering.{is_lt, match_ordering}
use Rattle.fs_path.specs.Place.{member_place}
use Rattle.fs_path.specs.declared.place.Rule.TheVariants.{G}
use Rattle.serde_json.specs.Data.{Data, object, Members, no_members, member, put}
use Rattle.serde_json.specs.Find.{get_member}
use Rattle.fs_json.specs.Members.{first_twice, first_unknown, first_wrong, given_at, is_given, is_second, member_at, one_spelling, only_at}
use Rattle.fs_json.specs.Names.{snake_of, spells}
use Rattle.fs_json.specs.declared.bad.Bad.TheVariants.{At}
use Rattle.fs_queryjson.specs.Steps.{with_put}
use Rattle.fs_queryjson.specs.Written.{those_there, with_member}
use Rattle.std.proofs.lemmas.Bool.{and_parts, or_parts}
use Rattle.fs_path.proofs.Orders.{less_is}

abbrev pub Row : Type 0
Row = List ℕ × Option Data

-- ---- what is found

abbrev pub found : List ℕ → List Row → Option Data
found k [] = None
found k (r ∷ rows) = match_ordering (slice_cmp nat_cmp k r.0) (found k rows) (option_or r.1 (found k rows)) (found k rows)

same_anyhow : {A : Type 0} (o : Ordering) (x : A) → x ≡ match_ordering o x x x
same_anyhow Less x = refl
same_anyhow Equal x = refl
same_anyhow Greater x = refl

found_with : (k l : List ℕ) (o : Option Data) (rest : Members)
    → get_member k (with_member l o rest) ≡ match_ordering (slice_cmp nat_cmp k l) (get_member k rest) (option_or o (get_member k rest)) (get_member k rest)
found_with k l None rest = same_anyhow (slice_cmp nat_cmp k l) (get_member k rest)
found_with k l (Some d) rest = refl

get_member-there : (k : List ℕ) (rows : List Row) → get_member k (those_there rows) ≡ found k rows
get_member-there k [] = refl
get_member-there k (r ∷ rows) =
    found_with k r.0 r.1 (those_there rows) ∙ ap (λ g. match_ordering (slice_cmp nat_cmp k r.0) g (option_or r.1 g) g) (get_member-there k rows)

-- what counts as there
abbrev pub given : List ℕ → Option Data → Option Data
given k o = option_and_then (λ d. cond (is_given k d) (Some d) None) o

given_at-there : (k : List ℕ) (rows : List Row) → given_at k (those_there rows) ≡ given k (found k rows)
given_at-there k rows = ap (given k) (get_member-there k rows)

pub option_or-none : {A : Type 0} (o : Option A) → option_or o None ≡ o
option_or-none None = refl
option_or-none (Some x) = refl

one_spelling-none : (second : List ℕ) (o : Option Data) → one_spelling second o None ≡ Ok o
one_spelling-none second None = refl
one_spelling-none second (Some d) = refl

in_spelling : (one : Bool) (second key : List ℕ) (o other : Option Data) → cond one None other ≡ None → cond one (Ok o) (one_spelling second o (given key other)) ≡ Ok o
in_spelling true second key o other h = refl
in_spelling false second key o other h = rw h (one_spelling-none second o)

-- the member of this name, whose other spelling isn't there
pub member_at-there : (name : List ℕ) (rows : List Row) (place : List ℕ) (o : Option Data) → found name rows ≡ o → given name o ≡ o
    → cond (bytes_eq (snake_of name) name) None (found (snake_of name) rows) ≡ None → member_at name (object (those_there rows)) place ≡ Ok o
member_at-there name rows place o is counts other =
    let one = bytes_eq (snake_of name) name in
    let second = member_place place (snake_of name) in
    let here : given_at name (those_there rows) ≡ o = given_at-there name rows ∙ ap (given name) is ∙ counts in
    ap (λ g. cond one (Ok g) (one_spelling second g (given_at (snake_of name) (those_there rows)))) here
    ∙ ap (λ g. cond one (Ok o) (one_spelling second o g)) (given_at-there (snake_of name) rows)
    ∙ in_spelling one second (snake_of name) o (found (snake_of name) rows) other

-- ---- no others

abbrev pub all_known : List (List ℕ) → List Row → Bool
all_known names [] = true
all_known names (r ∷ rows) = list_any (λ name. spells name r.0) names && all_known names rows

abbrev pub some_second : List (List ℕ) → Members → List Row → Bool
some_second names all rows = list_any (λ r. is_second names all r.0) rows

known_with : (names : List (List ℕ)) (k : List ℕ) (o : Option Data) (rest : Members) → list_any (λ name. spells name k) names ≡ true
    → first_unknown names (with_member k o rest) ≡ first_unknown names rest
known_with names k None rest known = refl
known_with names k (Some d) rest known = rw known refl

first_unknown-there : (names : List (List ℕ)) (rows : List Row) → all_known names rows ≡ true → first_unknown names (those_there rows) ≡ None
first_unknown-there names [] known = refl
first_unknown-there names (r ∷ rows) known =
    let h = and_parts (list_any (λ name. spells name r.0) names) (all_known names rows) known in
    known_with names r.0 r.1 (those_there rows) h.0 ∙ first_unknown-there names rows h.1

never : {A : Type 0} (a b : Bool) (x y : A) → b ≡ false → cond (a && b) x y ≡ y
never true b x y h = rw h refl
never false b x y h = refl

once_with : (names : List (List ℕ)) (all : Members) (k : List ℕ) (o : Option Data) (rest : Members) → is_second names all k ≡ false
    → first_twice names all (with_member k o rest) ≡ first_twice names all rest
once_with names all k None rest once = refl
once_with names all k (Some d) rest once = never (is_given k d) (is_second names all k) (Some k) (first_twice names all rest) once

first_twice-there : (names : List (List ℕ)) (all : Members) (rows : List Row) → some_second names all rows ≡ false → first_twice names all (those_there rows) ≡ None
first_twice-there names all [] once = refl
first_twice-there names all (r ∷ rows) once =
    let h = or_parts (is_second names all r.0) (some_second names all rows) once in
    once_with names all r.0 r.1 (those_there rows) h.0 ∙ first_twice-there names all rows h.1

first_wrong-there : (names : List (List ℕ)) (rows : List Row) → all_known names rows ≡ true → some_second names (those_there rows) rows ≡ false
    → first_wrong names (those_there rows) ≡ None
first_wrong-there names rows known once =
    ap (λ o. option_or o (first_twice names (those_there rows) (those_there rows))) (first_unknown-there names rows known)
    ∙ first_twice-there names (those_there rows) rows once

pub only_at-there : (names : List (List ℕ)) (rows : List Row) (place : List ℕ) → all_known names rows ≡ true → some_second names (those_there rows) rows ≡ false
    → only_at names (object (those_there rows)) place ≡ Ok tt
only_at-there names rows place known once =
    ap (λ o. option_map_or (λ key. Err (At G (member_place place key))) o (Ok tt)) (first_wrong-there names rows known once)

-- ---- put in from the last to the first

abbrev pub put_rows : List Row → Members
put_rows [] = no_members
put_rows (r ∷ rows) = with_put r.0 r.1 (put_rows rows)

abbrev pub is_ahead : List ℕ → List Row → Bool
is_ahead k [] = true
is_ahead k (r ∷ rows) = is_lt (slice_cmp nat_cmp k r.0) && is_ahead k rows

abbrev pub rise : List Row → Bool
rise [] = true
rise (r ∷ rows) = is_ahead r.0 rows && rise rows

put_before : (k : List ℕ) (d : Data) (l : List ℕ) (o : Option Data) (rest : Members) → slice_cmp nat_cmp k l ≡ Less → put k d rest ≡ member k d rest
    → put k d (with_member l o rest) ≡ member k d (with_member l o rest)
put_before k d l None rest lower h = h
put_before k d l (Some e) rest lower h = rw lower refl

put_ahead : (k : List ℕ) (d : Data) (rows : List Row) → is_ahead k rows ≡ true → put k d (those_there rows) ≡ member k d (those_there rows)
put_ahead k d [] h = refl
put_ahead k d (r ∷ rows) h =
    let b = and_parts (is_lt (slice_cmp nat_cmp k r.0)) (is_ahead k rows) h in
    put_before k d r.0 r.1 (those_there rows) (less_is _ b.0) (put_ahead k d rows b.1)

with_put-ahead : (k : List ℕ) (o : Option Data) (rows : List Row) → is_ahead k rows ≡ true → with_put k o (those_there rows) ≡ with_member k o (those_there rows)
with_put-ahead k None rows h = refl
with_put-ahead k (Some d) rows h = put_ahead k d rows h

pub put_rows-there : (rows : List Row) → rise rows ≡ true → put_rows rows ≡ those_there rows
put_rows-there [] h = refl
put_rows-there (r ∷ rows) h =
    let b = and_parts (is_ahead r.0 rows) (rise rows) h in
    ap (with_put r.0 r.1) (put_rows-there rows b.1) ∙ with_put-ahead r.0 r.1 rows b.0
