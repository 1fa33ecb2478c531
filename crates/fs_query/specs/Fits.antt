-- Which documents fit a query: those in its scope that have each field of its order and meet its filter. Of the documents
-- {a: 1}, {a: "x"}, {a: null} and {b: 1}
--     a > 0 is met by the first alone: a string is of another kind than 0, and null too
--     a != 2 is met by the first two: null isn't other than 2, and the last has no `a`
--     a in [1, null] is met by the first and the third
--     a not-in [1, null] is met by none
-- (Cloud Firestore documentation, "Query operators" and "Order and limit data".)
use Rattle.std.specs.Prelude.{Bool, true, false, ◌&&◌, ◌||◌, not, List, Option, ◌==◌}
use Rattle.std.specs.List.{list_any, list_all}
use Rattle.std.specs.Option.{option_map_or, is_some}
use Rattle.std.specs.Ordering.{is_lt, is_le, is_gt, is_ge}
use Rattle.fs_path.specs.Scope.{covers}
use Rattle.fs_value.specs.Data.{Data, null}
use Rattle.fs_value.specs.ValueOrder.{kind, value_cmp}
use Rattle.fs_value.specs.declared.document.Document.{Document}
use Rattle.fs_query.specs.Asked.{Asked}
use Rattle.fs_query.specs.Condition.{Condition, anything, compared, is_null, is_not_null, all_of, any_of, Conditions, no_more, one_more}
use Rattle.fs_query.specs.Field.{value_at}
use Rattle.fs_query.specs.Normal.{whole_order}
use Rattle.fs_query.specs.declared.op.Op.{Op}
use Rattle.fs_query.specs.declared.op.Op.TheVariants.{Less, LessEqual, Greater, GreaterEqual, Equal, NotEqual, ArrayContains, In, ArrayContainsAny, NotIn}
use Rattle.fs_query.specs.declared.order.Order.{Order}
use Rattle.fs_value.specs.Elements.{array_contains, elements, same}

-- ---- one operator

abbrev pub is_null_value : Data → Bool
is_null_value null = true
is_null_value d = false

abbrev pub same_kind : Data → Data → Bool
same_kind v w = kind v == kind w

-- NOT_IN: null isn't outside of anything, and nothing is where the list has null
abbrev pub is_outside : Data → List Data → Bool
is_outside v ws = not (is_null_value v) && (not (array_contains ws null) && not (array_contains ws v))

abbrev pub one_is_among : List Data → List Data → Bool
one_is_among vs ws = list_any (λ v. array_contains ws v) vs

-- whether a field's value meets an operator with an operand
abbrev pub holds : Op → Data → Data → Bool
-- only values of the operand's kind are in a range
holds Less v w = same_kind v w && is_lt (value_cmp v w)
holds LessEqual v w = same_kind v w && is_le (value_cmp v w)
holds Greater v w = same_kind v w && is_gt (value_cmp v w)
holds GreaterEqual v w = same_kind v w && is_ge (value_cmp v w)
holds Equal v w = same v w
-- null isn't other than anything
holds NotEqual v w = not (is_null_value v) && not (same v w)
holds In v w = array_contains (elements w) v
holds NotIn v w = is_outside v (elements w)
holds ArrayContains v w = array_contains (elements v) w
holds ArrayContainsAny v w = one_is_among (elements v) (elements w)

-- ---- a filter

-- a test of a field, which is false where the field is absent
abbrev pub passes : (Data → Bool) → Option Data → Bool
passes test v = option_map_or test v false

abbrev mutual
  pub meets : Condition → Document → Bool
  meets anything d = true
  meets (compared p op w) d = passes (λ v. holds op v w) (value_at p d)
  meets (is_null p) d = passes is_null_value (value_at p d)
  meets (is_not_null p) d = passes (λ v. not (is_null_value v)) (value_at p d)
  meets (all_of cs) d = meets_all cs d
  meets (any_of cs) d = meets_any cs d

  pub meets_all : Conditions → Document → Bool
  meets_all no_more d = true
  meets_all (one_more c cs) d = meets c d && meets_all cs d

  pub meets_any : Conditions → Document → Bool
  meets_any no_more d = false
  meets_any (one_more c cs) d = meets c d || meets_any cs d

-- ---- a query

abbrev pub has_field : Document → Order → Bool
has_field d o = is_some (value_at o.path d)

abbrev pub fits : Asked → Document → Bool
fits q d = covers q.scope d.name && (list_all (has_field d) (whole_order q) && meets q.filter d)
