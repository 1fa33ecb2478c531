-- The members of an object that a request may have.
use Rattle.std.specs.Prelude.{ℕ, Bool, true, false, not, ◌&&◌, List, [], ◌∷◌, ◌++◌, Option, Some, None, Result, Ok, Err, codes, is_none, is_some, option_map, option_and_then, if◌then◌else◌, ⊤}
use Rattle.std.specs.Option.{option_or, option_map_or, option_to_list}
use Rattle.std.specs.List.{list_any}
use Rattle.std.specs.Str.{bytes_eq}
use Rattle.fs_path.specs.Place.{member_place}
use Rattle.fs_path.specs.declared.place.Rule.TheVariants.{G}
use Rattle.serde_json.specs.Data.{Data, null, boolean, number, string, array, object, Members, no_members, member}
use Rattle.serde_json.specs.Find.{as_null, as_object, get, get_member}
use Rattle.fs_json.specs.Names.{snake_of, spells}
use Rattle.fs_json.specs.Answer.{or_fault, ◌>>=◌}
use Rattle.fs_json.specs.declared.bad.Bad.{Bad}
use Rattle.fs_json.specs.declared.bad.Bad.TheVariants.{At, Method}

-- whether a member counts as there: one whose value is null counts as absent, but for `nullValue`
abbrev pub is_given : List ℕ → Data → Bool
is_given key null = spells (codes "nullValue") key
is_given key (boolean b) = true
is_given key (number n) = true
is_given key (string s) = true
is_given key (array ds) = true
is_given key (object ms) = true

-- the value under this very key, if it counts as there
abbrev pub given_at : List ℕ → Members → Option Data
given_at key ms = option_and_then (λ d. if is_given key d then Some d else None) (get_member key ms)

-- whether an object has a member under this very key, whose value isn't null
abbrev pub is_there : List ℕ → Data → Bool
is_there key d = option_map_or (λ v. is_none (as_null v)) (get key d) false

-- ---- one member

-- what two spellings of one member give: together they are refused at the second
abbrev pub one_spelling : List ℕ → Option Data → Option Data → Result (Option Data) Bad
one_spelling second None found = Ok found
one_spelling second (Some d) None = Ok (Some d)
one_spelling second (Some d) (Some e) = Err (At G second)

-- the member of this name, in either spelling
abbrev pub member_in : List ℕ → Members → List ℕ → Result (Option Data) Bad
member_in name ms place = if bytes_eq (snake_of name) name then Ok (given_at name ms)
    else one_spelling (member_place place (snake_of name)) (given_at name ms) (given_at (snake_of name) ms)

-- what is no object has no members
abbrev pub member_at : List ℕ → Data → List ℕ → Result (Option Data) Bad
member_at name d place = option_map_or (λ ms. member_in name ms place) (as_object d) (Ok None)

-- the member of this name, which has to be there: else its own place is at fault
abbrev pub required_at : List ℕ → Data → List ℕ → Result Data Bad
required_at name d place = member_at name d place >>= or_fault G (member_place place name)

-- the member of this name as it is read at its own place, or this where it is absent
abbrev pub member_or : {A : Type 0} → A → (Data → List ℕ → Result A Bad) → List ℕ → Data → List ℕ → Result A Bad
member_or absent read name d place = member_at name d place >>= λ found. option_map_or (λ x. read x (member_place place name)) found (Ok absent)

-- and one that has to be there
abbrev pub required_as : {A : Type 0} → (Data → List ℕ → Result A Bad) → List ℕ → Data → List ℕ → Result A Bad
required_as read name d place = required_at name d place >>= λ x. read x (member_place place name)

-- ---- members that aren't built

-- none of these is there; the first that is, is told
abbrev pub unbuilt_at : List (List ℕ) → Data → List ℕ → Result ⊤ Bad
unbuilt_at [] d place = Ok tt
unbuilt_at (name ∷ names) d place = member_at name d place >>= λ found. option_map_or (λ _. Err (Method name)) found (unbuilt_at names d place)

-- ---- no other members

-- the first key, in byte order, that spells none of the names
abbrev pub first_unknown : List (List ℕ) → Members → Option (List ℕ)
first_unknown names no_members = None
first_unknown names (member k d ms) = if list_any (λ name. spells name k) names then first_unknown names ms else Some k

-- whether the key is the snake_case spelling of a name whose lowerCamelCase spelling is there too
abbrev pub is_second : List (List ℕ) → Members → List ℕ → Bool
is_second names all key =
    list_any (λ name. bytes_eq (snake_of name) key && (not (bytes_eq name key) && is_some (given_at name all))) names

-- the first key, in byte order, by which a member is given a second time
abbrev pub first_twice : List (List ℕ) → Members → Members → Option (List ℕ)
first_twice names all no_members = None
first_twice names all (member k d ms) = if is_given k d && is_second names all k then Some k else first_twice names all ms

-- unknown members come first, then a member given twice
abbrev pub first_wrong : List (List ℕ) → Members → Option (List ℕ)
first_wrong names ms = option_or (first_unknown names ms) (first_twice names ms ms)

-- the value is an object, and has no member but these
abbrev pub only_at : List (List ℕ) → Data → List ℕ → Result ⊤ Bad
only_at names d place = or_fault G place (as_object d) >>= λ ms.
    option_map_or (λ key. Err (At G (member_place place key))) (first_wrong names ms) (Ok tt)

-- ---- one of several members

-- the first of the names that the key spells
abbrev pub first_spelled : List (List ℕ) → List ℕ → Option (List ℕ)
first_spelled [] key = None
first_spelled (name ∷ names) key = if spells name key then Some name else first_spelled names key

-- what is made of a member by its name, if it counts as there and is one of these
abbrev pub if_chosen : {A : Type 0} → List (List ℕ) → (List ℕ → A) → List ℕ → Data → List A
if_chosen names make key d = option_to_list (option_map make (if is_given key d then first_spelled names key else None))

-- the members that are there of these names, in byte order of their keys, by name
abbrev pub chosen : List (List ℕ) → Members → List (List ℕ × Data)
chosen names no_members = []
chosen names (member k d ms) = if_chosen names (λ name. (name, d)) k d ++ chosen names ms

-- none or the one, and nothing where there are more
abbrev pub none_or_one : {A : Type 0} → List A → Option (Option A)
none_or_one [] = Some None
none_or_one (x ∷ []) = Some (Some x)
none_or_one (x ∷ y ∷ rest) = None

-- at most one of these members is there
abbrev pub at_most_one_at : List (List ℕ) → Data → List ℕ → Result (Option (List ℕ × Data)) Bad
at_most_one_at names d place = or_fault G place (option_and_then (λ ms. none_or_one (chosen names ms)) (as_object d))

-- just one of these members is there
abbrev pub one_of_at : List (List ℕ) → Data → List ℕ → Result (List ℕ × Data) Bad
one_of_at names d place = at_most_one_at names d place >>= or_fault G place

-- of the readings of members of which one may be there: that one, or this where there is none
abbrev pub the_one : {A : Type 0} → List ℕ → Result A Bad → List (Result A Bad) → Result A Bad
the_one place absent [] = absent
the_one place absent (reading ∷ []) = reading
the_one place absent (first ∷ second ∷ rest) = Err (At G place)

-- ---- writing

-- an object of one member
abbrev pub with_one : List ℕ → Data → Data
with_one name content = object (member name content no_members)
