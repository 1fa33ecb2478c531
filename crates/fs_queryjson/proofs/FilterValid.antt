-- A filter that is read asks something in each of its parts, and its references are names of documents.
use Rattle.std.proofs.Common.{ℕ, ◌+◌, List, [], ◌∷◌, Bool, true, false, Result, Ok, Err, IfOk, codes, bytes_eq}
use Rattle.std.specs.List.{AllByRecursion}
use Rattle.fs_path.specs.Place.{member_place, item_place}
use Rattle.fs_path.specs.declared.field.FieldPath.{FieldPath}
use Rattle.fs_path.specs.declared.place.Rule.TheVariants.{G}
use Rattle.serde_json.specs.Data as json
use Rattle.fs_json.specs.Members.{only_at, the_one, required_as}
use Rattle.fs_json.specs.declared.bad.Bad.{Bad}
use Rattle.fs_json.specs.declared.bad.Bad.TheVariants.{At}
use Rattle.fs_query.specs.Condition.{Condition, anything, compared, is_null, is_not_null, all_of, any_of, conditions_of}
use Rattle.fs_json.proofs.Readings.{at_last_holds, either, in_turn_holds, of_made, member_holds, both_hold, required_holds}
use Rattle.fs_json.proofs.Choices.{each_chosen, one_of, only_one_of}
use Rattle.fs_valjson.specs.Reading.{value_at}
use Rattle.fs_valjson.proofs.Valid.{value_names}
use Rattle.fs_valjson.specs.Writing.{HasNames}
use Rattle.fs_queryjson.specs.Field.{field_in}
use Rattle.fs_queryjson.specs.Filter.{compare_at, compare_members, composite_of, each_filter_at, filter_at, filter_kinds, filters_at, inner_in, inner_members, join_at, joined, kind_at, kinds_in, nullness, simple_at, unary_at, unary_members, where_in}
use Rattle.fs_queryjson.specs.Op.{is_null_at, op_at}
use Rattle.fs_queryjson.specs.Valid.{AreFilters, IsFilter, IsWhere}
use Rattle.std.proofs.lemmas.Result.{IfOk-weaker}
use Rattle.fs_queryjson.proofs.Simple.{simple_holds}

compare_valid : (d : json.Data) (place : List ℕ) → IfOk (compare_at d place) IsFilter
unfolding compare_at
compare_valid d place =
    at_last_holds IsFilter (only_at compare_members d place) _
    (λ u. at_last_holds IsFilter (field_in d place) _
    (λ path. at_last_holds IsFilter (required_as op_at (codes "op") d place) _
    (λ op. in_turn_holds HasNames IsFilter (required_as value_at (codes "value") d place) _
    (required_holds HasNames value_at (codes "value") d place value_names) (λ v names. names))))

nullness_valid : (null : Bool) (path : FieldPath) → IsFilter (nullness null path)
nullness_valid true path = tt
nullness_valid false path = tt

unary_valid : (d : json.Data) (place : List ℕ) → IfOk (unary_at d place) IsFilter
unfolding unary_at
unary_valid d place =
    at_last_holds IsFilter (only_at unary_members d place) _
    (λ u. at_last_holds IsFilter (required_as is_null_at (codes "op") d place) _ (λ null. at_last_holds IsFilter (field_in d place) _ (λ path. nullness_valid null path)))

simple_valid : (name : List ℕ) (d : json.Data) (place : List ℕ) → IfOk (simple_at name d place) IsFilter
simple_valid name d place = simple_holds IsFilter name d place (compare_valid d place) (unary_valid d place)

-- filters that are joined
abbrev AreJoined : List Condition → Type 0
AreJoined cs = AreFilters (conditions_of cs)

joined_valid : (all : Bool) (cs : List Condition) → AreJoined cs → IsFilter (joined all cs)
joined_valid true cs are = are
joined_valid false cs are = are

composite_valid : (d : json.Data) (place : List ℕ) (filters : Result (List Condition) Bad) → IfOk filters AreJoined → IfOk (composite_of d place filters) IsFilter
composite_valid d place filters are = at_last_holds IsFilter (join_at d place) _ (λ all. of_made AreJoined IsFilter (joined all) filters are (λ cs each. joined_valid all cs each))

mutual
  filter_valid : (d : json.Data) (place : List ℕ) → IfOk (filter_at d place) IsFilter
  filter_valid json.null place = record {}
  filter_valid (json.boolean b) place = record {}
  filter_valid (json.number n) place = record {}
  filter_valid (json.string s) place = record {}
  filter_valid (json.array ds) place = record {}
  filter_valid (json.object ms) place =
      only_one_of IsFilter filter_kinds (json.object ms) place (Err (At G place)) (kinds_in ms place) (record {}) (kinds_valid ms place)

  kinds_valid : (ms : json.Members) (place : List ℕ) → AllByRecursion (λ r. IfOk r IsFilter) (kinds_in ms place)
  kinds_valid json.no_members place = tt
  kinds_valid (json.member k d ms) place =
      each_chosen (λ r. IfOk r IsFilter) filter_kinds (λ name. kind_at d name (member_place place name)) k d (kinds_in ms place)
      (λ name. kind_valid d name (member_place place name)) (kinds_valid ms place)

  kind_valid : (d : json.Data) (name place : List ℕ) → IfOk (kind_at d name place) IsFilter
  kind_valid json.null name place = simple_valid name json.null place
  kind_valid (json.boolean b) name place = simple_valid name (json.boolean b) place
  kind_valid (json.number n) name place = simple_valid name (json.number n) place
  kind_valid (json.string s) name place = simple_valid name (json.string s) place
  kind_valid (json.array ds) name place = simple_valid name (json.array ds) place
  kind_valid (json.object ms) name place =
      either IsFilter (bytes_eq name (codes "compositeFilter")) _ _
      (composite_valid (json.object ms) place (the_one place (Ok []) (inner_in ms place)) (one_of AreJoined place (Ok []) (inner_in ms place) tt (inner_valid ms place)))
      (simple_valid name (json.object ms) place)

  inner_valid : (ms : json.Members) (place : List ℕ) → AllByRecursion (λ r. IfOk r AreJoined) (inner_in ms place)
  inner_valid json.no_members place = tt
  inner_valid (json.member k d ms) place =
      each_chosen (λ r. IfOk r AreJoined) inner_members (λ name. filters_at d (member_place place name)) k d (inner_in ms place)
      (λ name. filters_valid d (member_place place name)) (inner_valid ms place)

  filters_valid : (d : json.Data) (place : List ℕ) → IfOk (filters_at d place) AreJoined
  filters_valid json.null place = record {}
  filters_valid (json.boolean b) place = record {}
  filters_valid (json.number n) place = record {}
  filters_valid (json.string s) place = record {}
  filters_valid (json.array ds) place = each_filter_valid ds 0 place
  filters_valid (json.object ms) place = record {}

  each_filter_valid : (ds : json.Items) (i : ℕ) (place : List ℕ) → IfOk (each_filter_at ds i place) AreJoined
  each_filter_valid json.no_items i place = tt
  each_filter_valid (json.item d ds) i place =
      both_hold IsFilter AreJoined AreJoined (λ c cs. c ∷ cs) (filter_at d (item_place place i)) (each_filter_at ds (i + 1) place)
      (filter_valid d (item_place place i)) (each_filter_valid ds (i + 1) place) (λ c cs is are. (is, are))

whole_filter : (c : Condition) → IsFilter c → IsWhere c
whole_filter anything is = absurd is
whole_filter (compared p op v) is = is
whole_filter (is_null p) is = is
whole_filter (is_not_null p) is = is
whole_filter (all_of cs) is = is
whole_filter (any_of cs) is = is

pub where_valid : (d : json.Data) (place : List ℕ) → IfOk (where_in d place) IsWhere
where_valid d place =
    member_holds IsWhere anything filter_at (codes "where") d place (λ x p. IfOk-weaker (filter_at x p) IsFilter IsWhere whole_filter (filter_valid x p)) tt
