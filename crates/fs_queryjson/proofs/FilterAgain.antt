-- What is written of a filter is read as the same filter.
use Rattle.std.proofs.Common.{◌≡◌, ℕ, ◌+◌, Bool, true, false, List, Ok, codes, refl, sym, ap, ◌∙◌}
use Rattle.fs_path.specs.Place.{member_place, item_place}
use Rattle.fs_path.specs.declared.field.FieldPath.{FieldPath}
use Rattle.serde_json.specs.Data as json
use Rattle.fs_json.proofs.FieldPaths.{path_again}
use Rattle.fs_json.specs.Answer.{made}
use Rattle.fs_json.specs.Paths.{IsPathHeld}
use Rattle.fs_value.specs.Data.{Data, null, boolean, integer, timestamp, string, bytes, reference, array, object}
use Rattle.fs_query.specs.Condition.{Condition, anything, compared, is_null, is_not_null, all_of, any_of, Conditions, no_more, one_more, condition_list, conditions_of}
use Rattle.fs_query.specs.declared.op.Op.{Op}
use Rattle.fs_query.specs.declared.op.Op.TheVariants.{Less, LessEqual, Greater, GreaterEqual, Equal, NotEqual, ArrayContains, In, ArrayContainsAny, NotIn}
use Rattle.fs_valjson.specs.Reading.{value_at}
use Rattle.fs_valjson.specs.Writing.{HasNames, value_json}
use Rattle.fs_queryjson.specs.Field.{field_at, field_json}
use Rattle.fs_queryjson.specs.Filter.{compare_at, each_filter_at, filter_at, joined, nullness, unary_at}
use Rattle.fs_queryjson.specs.Held.{AreHeld, IsHeld, IsOperandHeld}
use Rattle.fs_queryjson.specs.Op.{is_null_at, null_name, op_at, op_name}
use Rattle.fs_queryjson.specs.Valid.{AreFilters, IsFilter}
use Rattle.fs_queryjson.specs.Written.{compare_json, filter_json, filters_json, unary_json}

-- ---- fields and operators

pub field_again : (p : FieldPath) (place : List ℕ) → IsPathHeld p → field_at (field_json p) place ≡ Ok p
field_again p place held = path_again p (member_place place (codes "fieldPath")) held

op_again : (op : Op) (place : List ℕ) → op_at (json.string (op_name op)) place ≡ Ok op
op_again Less place = refl
op_again LessEqual place = refl
op_again Greater place = refl
op_again GreaterEqual place = refl
op_again Equal place = refl
op_again NotEqual place = refl
op_again ArrayContains place = refl
op_again In place = refl
op_again ArrayContainsAny place = refl
op_again NotIn place = refl

null_again : (b : Bool) (place : List ℕ) → is_null_at (json.string (null_name b)) place ≡ Ok b
null_again true place = refl
null_again false place = refl

-- ---- operands: the JSON of a value is an object

abbrev members_in : json.Data → json.Members
members_in (json.object ms) = ms
members_in _ = json.no_members

value_is : (v : Data) → value_json v ≡ json.object (members_in (value_json v))
value_is null = refl
value_is (boolean b) = refl
value_is (integer n) = refl
value_is (timestamp t) = refl
value_is (string s) = refl
value_is (bytes b) = refl
value_is (reference n) = refl
value_is (array ds) = refl
value_is (object ms) = refl

-- ---- filters on one field

abbrev compare_with : FieldPath → Op → json.Data → json.Data
compare_with p op value =
    json.object (json.member (codes "field") (field_json p) (json.member (codes "op") (json.string (op_name op)) (json.member (codes "value") value json.no_members)))

compare_with_again : (p : FieldPath) (op : Op) (ms : json.Members) (v : Data) (place : List ℕ) → IsPathHeld p
    → value_at (json.object ms) (member_place place (codes "value")) ≡ Ok v → compare_at (compare_with p op (json.object ms)) place ≡ Ok (compared p op v)
unfolding compare_at
compare_with_again p op ms v place held value =
    rw (field_again p (member_place place (codes "field")) held, op_again op (member_place place (codes "op")), value) refl

compare_again : (p : FieldPath) (op : Op) (v : Data) (place : List ℕ) → IsPathHeld p → IsOperandHeld v → HasNames v
    → compare_at (compare_json p op v) place ≡ Ok (compared p op v)
compare_again p op v place path operand names =
    let inside = member_place place (codes "value") in
    let value : value_at (json.object (members_in (value_json v))) inside ≡ Ok v = ap (λ d. value_at d inside) (sym (value_is v)) ∙ operand inside names in
    ap (λ d. compare_at (compare_with p op d) place) (value_is v) ∙ compare_with_again p op (members_in (value_json v)) v place path value

unary_again : (b : Bool) (p : FieldPath) (place : List ℕ) → IsPathHeld p → unary_at (unary_json b p) place ≡ Ok (nullness b p)
unfolding unary_at
unary_again b p place held = rw (null_again b (member_place place (codes "op")), field_again p (member_place place (codes "field")) held) refl

-- ---- all filters

conditions_of-condition_list : (cs : Conditions) → conditions_of (condition_list cs) ≡ cs
conditions_of-condition_list no_more = refl
conditions_of-condition_list (one_more c cs) = ap (one_more c) (conditions_of-condition_list cs)

mutual
  pub filter_again : (c : Condition) (place : List ℕ) → IsHeld c → IsFilter c → filter_at (filter_json c) place ≡ Ok c
  filter_again anything place held valid = absurd valid
  filter_again (compared p op v) place held valid = compare_again p op v (member_place place (codes "fieldFilter")) held.0 held.1 valid
  filter_again (is_null p) place held valid = unary_again true p (member_place place (codes "unaryFilter")) held
  filter_again (is_not_null p) place held valid = unary_again false p (member_place place (codes "unaryFilter")) held
  filter_again (all_of no_more) place held valid = refl
  filter_again (all_of (one_more c cs)) place held valid =
      let inside = member_place (member_place place (codes "compositeFilter")) (codes "filters") in
      ap (made (joined true)) (filters_again (one_more c cs) 0 inside held valid) ∙ ap (λ ds. Ok (all_of ds)) (conditions_of-condition_list (one_more c cs))
  filter_again (any_of no_more) place held valid = refl
  filter_again (any_of (one_more c cs)) place held valid =
      let inside = member_place (member_place place (codes "compositeFilter")) (codes "filters") in
      ap (made (joined false)) (filters_again (one_more c cs) 0 inside held valid) ∙ ap (λ ds. Ok (any_of ds)) (conditions_of-condition_list (one_more c cs))

  filters_again : (cs : Conditions) (i : ℕ) (place : List ℕ) → AreHeld cs → AreFilters cs → each_filter_at (filters_json cs) i place ≡ Ok (condition_list cs)
  filters_again no_more i place held valid = refl
  filters_again (one_more c cs) i place held valid = rw (filter_again c (item_place place i) held.0 valid.0, filters_again cs (i + 1) place held.1 valid.1) refl
