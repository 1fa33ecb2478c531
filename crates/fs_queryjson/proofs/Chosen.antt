-- The walk over the members of a filter, beside the look-up of the one that is there.
use Rattle.std.proofs.Common.{◌≡◌, ℕ, List, [], map, Bool, true, false, codes, Ok, Err, refl, ap, ◌∙◌, bytes_eq, cond}
use Rattle.std.specs.Option.{option_map_or}
use Rattle.std.proofs.lemmas.Slice.Eq.{bytes_eq-Decides}
use Rattle.fs_path.specs.Place.{member_place}
use Rattle.fs_path.specs.declared.place.Rule.TheVariants.{G}
use Rattle.serde_json.specs.Data as json
use Rattle.fs_json.specs.Answer.{◌>>=◌}
use Rattle.fs_json.specs.Members.{at_most_one_at, chosen, one_of_at, only_at, the_one}
use Rattle.fs_json.specs.declared.bad.Bad.TheVariants.{At}
use Rattle.fs_json.proofs.Choices.{one_more, the_one-map, in_turn, one_or_fault}
use Rattle.fs_queryjson.specs.Filter.{filter_at, filter_kinds, filters_at, inner_in, inner_members, kind_at, kinds_in, simple_at}
use Rattle.fs_queryjson.specs.Steps.{composite_at, inner_at, the_filter, the_inner}

kinds_in-chosen : (ms : json.Members) (place : List ℕ) → kinds_in ms place ≡ map (λ one. kind_at one.1 one.0 (member_place place one.0)) (chosen filter_kinds ms)
kinds_in-chosen json.no_members place = refl
kinds_in-chosen (json.member k d ms) place = one_more filter_kinds (λ one. kind_at one.1 one.0 (member_place place one.0)) k d ms _ (kinds_in-chosen ms place)

inner_in-chosen : (ms : json.Members) (place : List ℕ) → inner_in ms place ≡ map (λ one. filters_at one.1 (member_place place one.0)) (chosen inner_members ms)
inner_in-chosen json.no_members place = refl
inner_in-chosen (json.member k d ms) place = one_more inner_members (λ one. filters_at one.1 (member_place place one.0)) k d ms _ (inner_in-chosen ms place)

-- a filter is read in three steps
pub filter_at-steps : (d : json.Data) (place : List ℕ)
    → filter_at d place ≡ the_filter d place >>= λ one. kind_at one.1 one.0 (member_place place one.0)
filter_at-steps json.null place = refl
filter_at-steps (json.boolean b) place = refl
filter_at-steps (json.number n) place = refl
filter_at-steps (json.string s) place = refl
filter_at-steps (json.array ds) place = refl
filter_at-steps (json.object ms) place =
    ap (λ r. only_at filter_kinds (json.object ms) place >>= λ _. r)
    (ap (the_one place (Err (At G place))) (kinds_in-chosen ms place)
    ∙ the_one-map (λ one. kind_at one.1 one.0 (member_place place one.0)) place (Err (At G place)) (chosen filter_kinds ms)
    ∙ one_or_fault (λ one. kind_at one.1 one.0 (member_place place one.0)) place (at_most_one_at filter_kinds (json.object ms) place))
    ∙ in_turn _ (one_of_at filter_kinds (json.object ms) place) _

-- the filters of a composite one are read in two
pub inner_at-steps : (d : json.Data) (place : List ℕ)
    → inner_at d place ≡ the_inner d place >>= λ found. option_map_or (λ one. filters_at one.1 (member_place place one.0)) found (Ok [])
inner_at-steps json.null place = refl
inner_at-steps (json.boolean b) place = refl
inner_at-steps (json.number n) place = refl
inner_at-steps (json.string s) place = refl
inner_at-steps (json.array ds) place = refl
inner_at-steps (json.object ms) place =
    ap (the_one place (Ok [])) (inner_in-chosen ms place)
    ∙ the_one-map (λ one. filters_at one.1 (member_place place one.0)) place (Ok []) (chosen inner_members ms)

-- a choice that makes no difference
needless : {A : Type 0} (b : Bool) (x y : A) → (b ≡ true → x ≡ y) → x ≡ cond b y x
needless true x y e = e refl
needless false x y e = refl

simple_at-composite : (name : List ℕ) (d : json.Data) (place : List ℕ) → bytes_eq name (codes "compositeFilter") ≡ true → simple_at name d place ≡ Err (At G place)
simple_at-composite name d place is = let same : name ≡ codes "compositeFilter" = (bytes_eq-Decides _ _).0 is in rw same refl

-- the content of a member, by its name
pub kind_at-steps : (d : json.Data) (name place : List ℕ)
    → kind_at d name place ≡ cond (bytes_eq name (codes "compositeFilter")) (composite_at d place) (simple_at name d place)
kind_at-steps json.null name place = needless _ _ _ (simple_at-composite name json.null place)
kind_at-steps (json.boolean b) name place = needless _ _ _ (simple_at-composite name (json.boolean b) place)
kind_at-steps (json.number n) name place = needless _ _ _ (simple_at-composite name (json.number n) place)
kind_at-steps (json.string s) name place = needless _ _ _ (simple_at-composite name (json.string s) place)
kind_at-steps (json.array ds) name place = needless _ _ _ (simple_at-composite name (json.array ds) place)
kind_at-steps (json.object ms) name place = refl
