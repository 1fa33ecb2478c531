-- The walk over an object's members, beside the look-up of the one that is there.
use Rattle.std.proofs.Common.{◌≡◌, ℕ, List, [], map, Bool, true, false, codes, Ok, Err, refl, ap, ◌∙◌, bytes_eq, cond}
use Rattle.std.specs.Option.{option_map_or}
use Rattle.std.proofs.lemmas.Slice.Eq.{bytes_eq-Decides}
use Rattle.fs_path.specs.Place.{member_place}
use Rattle.fs_path.specs.declared.place.Rule.TheVariants.{G}
use Rattle.serde_json.specs.Data as json
use Rattle.fs_json.specs.Answer.{◌>>=◌, made}
use Rattle.fs_json.specs.Members.{at_most_one_at, chosen, one_of_at, only_at, the_one}
use Rattle.fs_json.specs.declared.bad.Bad.TheVariants.{At}
use Rattle.fs_value.specs.FieldPaths.{map_of}
use Rattle.fs_json.proofs.Choices.{one_more, the_one-map, in_turn, one_or_fault}
use Rattle.fs_valjson.specs.Reading.{kinds, array_members, map_members, array_of, plain_at, value_at, kinds_in, kind_at, lists_in, list_at, array_at, maps_in, fields_at, map_at}
use Rattle.fs_valjson.specs.Steps.{the_content, the_kind}

lists_in-chosen : (ms : json.Members) (place : List ℕ) → lists_in ms place ≡ map (λ one. list_at one.1 (member_place place one.0)) (chosen array_members ms)
lists_in-chosen json.no_members place = refl
lists_in-chosen (json.member k d ms) place = one_more array_members (λ one. list_at one.1 (member_place place one.0)) k d ms _ (lists_in-chosen ms place)

maps_in-chosen : (ms : json.Members) (place : List ℕ) → maps_in ms place ≡ map (λ one. fields_at one.1 (member_place place one.0)) (chosen map_members ms)
maps_in-chosen json.no_members place = refl
maps_in-chosen (json.member k d ms) place = one_more map_members (λ one. fields_at one.1 (member_place place one.0)) k d ms _ (maps_in-chosen ms place)

-- the content of an array is read in two steps, and that of a map
pub array_at-steps : (d : json.Data) (place : List ℕ)
    → array_at d place ≡ the_content array_members d place >>= λ found. option_map_or (λ one. list_at one.1 (member_place place one.0)) found (Ok [])
array_at-steps json.null place = refl
array_at-steps (json.boolean b) place = refl
array_at-steps (json.number n) place = refl
array_at-steps (json.string s) place = refl
array_at-steps (json.array ds) place = refl
array_at-steps (json.object ms) place =
    ap (λ r. only_at array_members (json.object ms) place >>= λ _. r)
    (ap (the_one place (Ok [])) (lists_in-chosen ms place)
    ∙ the_one-map (λ one. list_at one.1 (member_place place one.0)) place (Ok []) (chosen array_members ms))
    ∙ in_turn _ (at_most_one_at array_members (json.object ms) place) _

pub map_at-steps : (d : json.Data) (place : List ℕ)
    → map_at d place ≡ the_content map_members d place >>= λ found. option_map_or (λ one. fields_at one.1 (member_place place one.0)) found (Ok [])
map_at-steps json.null place = refl
map_at-steps (json.boolean b) place = refl
map_at-steps (json.number n) place = refl
map_at-steps (json.string s) place = refl
map_at-steps (json.array ds) place = refl
map_at-steps (json.object ms) place =
    ap (λ r. only_at map_members (json.object ms) place >>= λ _. r)
    (ap (the_one place (Ok [])) (maps_in-chosen ms place)
    ∙ the_one-map (λ one. fields_at one.1 (member_place place one.0)) place (Ok []) (chosen map_members ms))
    ∙ in_turn _ (at_most_one_at map_members (json.object ms) place) _

plain_at-array : (name : List ℕ) (d : json.Data) (place : List ℕ) → bytes_eq name (codes "arrayValue") ≡ true → plain_at name d place ≡ Err (At G place)
plain_at-array name d place is = let same : name ≡ codes "arrayValue" = (bytes_eq-Decides _ _).0 is in rw same refl

plain_at-map : (name : List ℕ) (d : json.Data) (place : List ℕ) → bytes_eq name (codes "mapValue") ≡ true → plain_at name d place ≡ Err (At G place)
plain_at-map name d place is = let same : name ≡ codes "mapValue" = (bytes_eq-Decides _ _).0 is in rw same refl

-- a choice that makes no difference
needless : {A : Type 0} (b c : Bool) (x y z : A) → (b ≡ true → x ≡ y) → (c ≡ true → x ≡ z) → x ≡ cond b y (cond c z x)
needless true c x y z e f = e refl
needless false true x y z e f = f refl
needless false false x y z e f = refl

-- the content of a member, by its name
pub kind_at-steps : (d : json.Data) (name place : List ℕ)
    → kind_at d name place
    ≡ cond (bytes_eq name (codes "arrayValue")) (made array_of (array_at d place)) (cond (bytes_eq name (codes "mapValue")) (made map_of (map_at d place)) (plain_at name d place))
kind_at-steps json.null name place = needless _ _ _ _ _ (plain_at-array name json.null place) (plain_at-map name json.null place)
kind_at-steps (json.boolean b) name place = needless _ _ _ _ _ (plain_at-array name (json.boolean b) place) (plain_at-map name (json.boolean b) place)
kind_at-steps (json.number n) name place = needless _ _ _ _ _ (plain_at-array name (json.number n) place) (plain_at-map name (json.number n) place)
kind_at-steps (json.string s) name place = needless _ _ _ _ _ (plain_at-array name (json.string s) place) (plain_at-map name (json.string s) place)
kind_at-steps (json.array ds) name place = needless _ _ _ _ _ (plain_at-array name (json.array ds) place) (plain_at-map name (json.array ds) place)
kind_at-steps (json.object ms) name place = refl

kinds_in-chosen : (ms : json.Members) (place : List ℕ) → kinds_in ms place ≡ map (λ one. kind_at one.1 one.0 (member_place place one.0)) (chosen kinds ms)
kinds_in-chosen json.no_members place = refl
kinds_in-chosen (json.member k d ms) place = one_more kinds (λ one. kind_at one.1 one.0 (member_place place one.0)) k d ms _ (kinds_in-chosen ms place)

-- a value is read in three steps
pub value_at-steps : (d : json.Data) (place : List ℕ)
    → value_at d place ≡ the_kind d place >>= λ one. kind_at one.1 one.0 (member_place place one.0)
value_at-steps json.null place = refl
value_at-steps (json.boolean b) place = refl
value_at-steps (json.number n) place = refl
value_at-steps (json.string s) place = refl
value_at-steps (json.array ds) place = refl
value_at-steps (json.object ms) place =
    ap (λ r. only_at kinds (json.object ms) place >>= λ _. r)
    (ap (the_one place (Err (At G place))) (kinds_in-chosen ms place)
    ∙ the_one-map (λ one. kind_at one.1 one.0 (member_place place one.0)) place (Err (At G place)) (chosen kinds ms)
    ∙ one_or_fault (λ one. kind_at one.1 one.0 (member_place place one.0)) place (at_most_one_at kinds (json.object ms) place))
    ∙ in_turn _ (one_of_at kinds (json.object ms) place) _
