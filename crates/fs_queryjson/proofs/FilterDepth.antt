-- What is written of a filter that was read nests no deeper than what was read.
use Rattle.std.proofs.Common.{ℕ, suc, ◌+◌, ◌≤◌, ◌<◌, List, [], ◌∷◌, Bool, true, false, Result, Ok, Err, IfOk, codes, bytes_eq, arith}
use Rattle.std.proofs.lemmas.Result.{IfOk-weaker}
use Rattle.std.specs.List.{AllByRecursion}
use Rattle.fs_path.specs.Place.{member_place, item_place}
use Rattle.fs_path.specs.declared.field.FieldPath.{FieldPath}
use Rattle.fs_path.specs.declared.place.Rule.TheVariants.{G}
use Rattle.serde_json.specs.Data as json
use Rattle.serde_json.specs.Data.{depth, items_depth, members_depth}
use Rattle.fs_value.specs.Data.{Data}
use Rattle.fs_json.specs.Members.{only_at, the_one, required_as}
use Rattle.fs_json.specs.Paths.{field_path_at}
use Rattle.fs_json.specs.declared.bad.Bad.{Bad}
use Rattle.fs_json.specs.declared.bad.Bad.TheVariants.{At}
use Rattle.fs_query.specs.Condition.{Condition, conditions_of}
use Rattle.fs_json.proofs.Readings.{at_last_holds, either, in_turn_holds, of_made, as_it_is, both_hold}
use Rattle.fs_json.proofs.Choices.{each_chosen, one_of, only_one_of}
use Rattle.fs_json.proofs.Depths.{inside}
use Rattle.fs_valjson.proofs.Depths.{value_within}
use Rattle.fs_valjson.specs.Reading.{value_at}
use Rattle.fs_valjson.specs.Writing.{value_json}
use Rattle.fs_queryjson.specs.Field.{field_at, field_in, field_members}
use Rattle.fs_queryjson.specs.Filter.{compare_at, compare_members, composite_of, each_filter_at, filter_at, filter_kinds, filters_at, inner_in, inner_members, join_at, joined, kind_at, kinds_in, nullness, simple_at, unary_at, unary_members}
use Rattle.fs_queryjson.specs.Op.{is_null_at, op_at}
use Rattle.fs_queryjson.specs.Written.{composite_json, filter_json, filters_json}
use Rattle.fs_queryjson.proofs.Simple.{simple_holds}

-- a field stands in an object in an object
field_deep : (d : json.Data) (place : List ℕ) → IfOk (field_in d place) (λ p. 1 < depth d)
field_deep d place =
    let P : FieldPath → Type 0 = λ p. 1 < depth d in
    inside P (codes "field") d place (λ field. field_at field (member_place place (codes "field")))
    (λ x falls. at_last_holds P (only_at field_members x (member_place place (codes "field"))) _
    (λ u. inside P (codes "fieldPath") x (member_place place (codes "field")) _ (λ t under. as_it_is P (field_path_at t _) (λ p is. omega (arith, falls, under)))))

abbrev FilterWithin : ℕ → Condition → Type 0
FilterWithin n c = depth (filter_json c) ≤ n

compare_within : (d : json.Data) (place : List ℕ) (n : ℕ) → depth d < n → IfOk (compare_at d place) (FilterWithin n)
unfolding compare_at
compare_within d place n h =
    let P = FilterWithin n in
    let Q : Data → Type 0 = λ v. depth (value_json v) < depth d in
    at_last_holds P (only_at compare_members d place) _
    (λ u. in_turn_holds (λ p. 1 < depth d) P (field_in d place) _ (field_deep d place)
    (λ path deep. at_last_holds P (required_as op_at (codes "op") d place) _
    (λ op. in_turn_holds Q P (required_as value_at (codes "value") d place) _
    (inside Q (codes "value") d place (λ x. value_at x (member_place place (codes "value")))
    (λ x falls. IfOk-weaker (value_at x (member_place place (codes "value"))) (λ v. depth (value_json v) ≤ depth x) Q (λ v is. omega (arith, is, falls)) (value_within x (member_place place (codes "value")))))
    (λ v is. omega (arith, deep, is, h)))))

nullness_within : (null : Bool) (path : FieldPath) (n : ℕ) → 2 < n → FilterWithin n (nullness null path)
nullness_within true path n h = omega (arith, h)
nullness_within false path n h = omega (arith, h)

unary_within : (d : json.Data) (place : List ℕ) (n : ℕ) → depth d < n → IfOk (unary_at d place) (FilterWithin n)
unfolding unary_at
unary_within d place n h =
    let P = FilterWithin n in
    at_last_holds P (only_at unary_members d place) _
    (λ u. at_last_holds P (required_as is_null_at (codes "op") d place) _
    (λ null. in_turn_holds (λ p. 1 < depth d) P (field_in d place) _ (field_deep d place) (λ path deep. nullness_within null path n (omega (arith, deep, h)))))

simple_within : (name : List ℕ) (d : json.Data) (place : List ℕ) (n : ℕ) → depth d < n → IfOk (simple_at name d place) (FilterWithin n)
simple_within name d place n h = simple_holds (FilterWithin n) name d place (compare_within d place n h) (unary_within d place n h)

-- filters that are joined, as they are written in an object
abbrev JoinWithin : ℕ → List Condition → Type 0
JoinWithin n cs = (all : Bool) → depth (composite_json all (filters_json (conditions_of cs))) ≤ n

join_fits : (all : Bool) (ds : json.Items) (n : ℕ) → depth (json.array ds) < n → depth (composite_json all ds) ≤ n
join_fits all json.no_items n h = omega (arith, h)
join_fits all (json.item d ds) n h = omega (arith, h)

joined_within : (all : Bool) (cs : List Condition) (m n : ℕ) → JoinWithin m cs → m < n → FilterWithin n (joined all cs)
joined_within true cs m n are h = omega (arith, are true, h)
joined_within false cs m n are h = omega (arith, are false, h)

composite_within : (d : json.Data) (place : List ℕ) (filters : Result (List Condition) Bad) (m n : ℕ) → m < n → IfOk filters (JoinWithin m) → IfOk (composite_of d place filters) (FilterWithin n)
composite_within d place filters m n h are =
    at_last_holds (FilterWithin n) (join_at d place) _ (λ all. of_made (JoinWithin m) (FilterWithin n) (joined all) filters are (λ cs each. joined_within all cs m n each h))

mutual
  pub filter_within : (d : json.Data) (place : List ℕ) → IfOk (filter_at d place) (λ c. depth (filter_json c) ≤ depth d)
  filter_within json.null place = record {}
  filter_within (json.boolean b) place = record {}
  filter_within (json.number n) place = record {}
  filter_within (json.string s) place = record {}
  filter_within (json.array ds) place = record {}
  filter_within (json.object ms) place =
      let n = suc (members_depth ms) in
      only_one_of (FilterWithin n) filter_kinds (json.object ms) place (Err (At G place)) (kinds_in ms place) (record {}) (kinds_within ms place n (omega arith))

  kinds_within : (ms : json.Members) (place : List ℕ) (n : ℕ) → members_depth ms < n → AllByRecursion (λ r. IfOk r (FilterWithin n)) (kinds_in ms place)
  kinds_within json.no_members place n h = tt
  kinds_within (json.member k d ms) place n h =
      each_chosen (λ r. IfOk r (FilterWithin n)) filter_kinds (λ name. kind_at d name (member_place place name)) k d (kinds_in ms place)
      (λ name. kind_within d name (member_place place name) n (omega (arith, h))) (kinds_within ms place n (omega (arith, h)))

  kind_within : (d : json.Data) (name place : List ℕ) (n : ℕ) → depth d < n → IfOk (kind_at d name place) (FilterWithin n)
  kind_within json.null name place n h = simple_within name json.null place n h
  kind_within (json.boolean b) name place n h = simple_within name (json.boolean b) place n h
  kind_within (json.number m) name place n h = simple_within name (json.number m) place n h
  kind_within (json.string s) name place n h = simple_within name (json.string s) place n h
  kind_within (json.array ds) name place n h = simple_within name (json.array ds) place n h
  kind_within (json.object ms) name place n h =
      let m = suc (members_depth ms) in
      either (FilterWithin n) (bytes_eq name (codes "compositeFilter")) _ _
      (composite_within (json.object ms) place (the_one place (Ok []) (inner_in ms place)) m n (omega (arith, h))
      (one_of (JoinWithin m) place (Ok []) (inner_in ms place) (λ all. omega arith) (inner_within ms place m (omega arith))))
      (simple_within name (json.object ms) place n h)

  inner_within : (ms : json.Members) (place : List ℕ) (n : ℕ) → members_depth ms < n → AllByRecursion (λ r. IfOk r (JoinWithin n)) (inner_in ms place)
  inner_within json.no_members place n h = tt
  inner_within (json.member k d ms) place n h =
      each_chosen (λ r. IfOk r (JoinWithin n)) inner_members (λ name. filters_at d (member_place place name)) k d (inner_in ms place)
      (λ name. IfOk-weaker (filters_at d (member_place place name)) (λ cs. depth (json.array (filters_json (conditions_of cs))) ≤ depth d) (JoinWithin n)
      (λ cs are all. join_fits all (filters_json (conditions_of cs)) n (omega (arith, are, h))) (filters_within d (member_place place name))) (inner_within ms place n (omega (arith, h)))

  filters_within : (d : json.Data) (place : List ℕ) → IfOk (filters_at d place) (λ cs. depth (json.array (filters_json (conditions_of cs))) ≤ depth d)
  filters_within json.null place = record {}
  filters_within (json.boolean b) place = record {}
  filters_within (json.number n) place = record {}
  filters_within (json.string s) place = record {}
  filters_within (json.array ds) place =
      IfOk-weaker (each_filter_at ds 0 place) (λ cs. items_depth (filters_json (conditions_of cs)) ≤ items_depth ds) (λ cs. depth (json.array (filters_json (conditions_of cs))) ≤ suc (items_depth ds))
      (λ cs are. omega (arith, are)) (each_filter_within ds 0 place)
  filters_within (json.object ms) place = record {}

  each_filter_within : (ds : json.Items) (i : ℕ) (place : List ℕ) → IfOk (each_filter_at ds i place) (λ cs. items_depth (filters_json (conditions_of cs)) ≤ items_depth ds)
  each_filter_within json.no_items i place = omega arith
  each_filter_within (json.item d ds) i place =
      both_hold (FilterWithin (depth d)) (λ cs. items_depth (filters_json (conditions_of cs)) ≤ items_depth ds) (λ cs. items_depth (filters_json (conditions_of cs)) ≤ items_depth (json.item d ds)) (λ c cs. c ∷ cs)
      (filter_at d (item_place place i)) (each_filter_at ds (i + 1) place) (filter_within d (item_place place i)) (each_filter_within ds (i + 1) place) (λ c cs is are. omega (arith, is, are))
