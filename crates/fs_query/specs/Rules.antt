-- The rules of queries. A query breaks
--   1  where the id of its collection is no id;
--   2  where the name of a field is bad. Of the names that Firestore keeps, `__name__` may be a whole path;
--   3  where the operand of IN, NOT_IN or ARRAY_CONTAINS_ANY is no array, or an empty one;
--   4  where a NOT_IN has more than 10 values; its number is told;
--   5  where the filter has more than 30 disjuncts; their number is told, as 1,000 where there are more;
--   6  where two ARRAY_CONTAINS meet in a conjunction;
--   7  where ARRAY_CONTAINS_ANY meets ARRAY_CONTAINS, or another of its kind, in a conjunction;
--   8  where NOT_IN stands in a filter with OR, IN, ARRAY_CONTAINS_ANY or NOT_EQUAL;
--   9  where NOT_IN stands in a filter with IS_NOT_NULL or another NOT_IN;
--  10  where `__name__` is asked by an array operator, IS_NULL or IS_NOT_NULL, or compared with what is no reference;
--  11  where a cursor has no value, more values than the whole order has fields, or for `__name__` what is no reference;
--  12  where the offset or the limit is below 0;
--  13  where a field is given twice among the orders;
--  14  where an AND or an OR has no filters.
-- The least is told. That `from` has exactly one entry is seen as a query is read: here there is one scope.
-- (v1 reference, "StructuredQuery"; Cloud Firestore documentation, "Query operators": "Limitations".)
use Rattle.std.specs.Prelude.{ℕ, ℤ, pos, negsuc, Bool, true, false, not, ◌&&◌, ◌||◌, List, [], ◌∷◌, Option, Some, None, length, min, if◌then◌else◌, ◌==◌, nat_lt}
use Rattle.std.specs.List.{list_any, zip}
use Rattle.std.specs.Option.{option_map_or}
use Rattle.fs_path.specs.Segment.{is_bad_id}
use Rattle.fs_value.specs.Data.{Data}
use Rattle.fs_path.specs.Scope.{scope_id}
use Rattle.fs_query.specs.Asked.{Asked}
use Rattle.fs_query.specs.Field.{is_name}
use Rattle.fs_query.specs.Limits.{most_told}
use Rattle.fs_query.specs.Normal.{whole_order, is_ordered}
use Rattle.fs_query.specs.declared.cursor.Cursor.{Cursor}
use Rattle.fs_query.specs.declared.order.Order.{Order}
use Rattle.fs_query.specs.declared.rule.QueryRule.{QueryRule}
use Rattle.fs_query.specs.FilterParts.{has_part}
use Rattle.fs_query.specs.FilterRules.{is_reference, is_bad_path, has_bad_path_itself, has_bad_list, long_not_in, disjunct_count, has_many_disjuncts, has_two_contains, has_contains_any_beside, has_not_in_beside_other, has_not_in_beside_its_like, has_misused_name, has_empty_composite}

-- ---- 1

abbrev pub has_bad_collection : Asked → Bool
has_bad_collection q = is_bad_id (scope_id q.scope)

-- ---- 2

abbrev pub has_bad_path : Asked → Bool
has_bad_path q = has_part has_bad_path_itself q.filter || (list_any (λ o. is_bad_path o.path) q.orders || option_map_or (list_any is_bad_path) q.select false)

-- ---- 11

abbrev pub is_bad_place : Order × Data → Bool
is_bad_place p = is_name p.0.path && not (is_reference p.1)

abbrev pub is_bad_cursor : List Order → Cursor → Bool
is_bad_cursor os c = length c.values == 0 || (nat_lt (length os) (length c.values) || list_any is_bad_place (zip os c.values))

abbrev pub has_bad_cursor : Asked → Bool
has_bad_cursor q = option_map_or (is_bad_cursor (whole_order q)) q.start false || option_map_or (is_bad_cursor (whole_order q)) q.end false

-- ---- 12

abbrev pub is_negative : ℤ → Bool
is_negative (pos n) = false
is_negative (negsuc n) = true

abbrev pub has_negative_number : Asked → Bool
has_negative_number q = is_negative q.offset || option_map_or is_negative q.limit false

-- ---- 13

abbrev pub some_twice : List Order → Bool
some_twice [] = false
some_twice (o ∷ os) = is_ordered os o.path || some_twice os

abbrev pub has_order_twice : Asked → Bool
has_order_twice q = some_twice q.orders

-- ---- the least rule that a query breaks

abbrev pub told : ℕ → Option QueryRule
told n = Some (record { number = n; count = None })

abbrev pub told_with : ℕ → ℕ → Option QueryRule
told_with n count = Some (record { number = n; count = Some count })

-- the rules from 5 on
abbrev pub later_rule_of_query : Asked → Option QueryRule
later_rule_of_query q =
    if has_many_disjuncts q then told_with 5 (min (disjunct_count q) most_told)
    else if has_two_contains q then told 6
    else if has_contains_any_beside q then told 7
    else if has_not_in_beside_other q then told 8
    else if has_not_in_beside_its_like q then told 9
    else if has_misused_name q then told 10
    else if has_bad_cursor q then told 11
    else if has_negative_number q then told 12
    else if has_order_twice q then told 13
    else if has_empty_composite q then told 14
    else None

abbrev pub rule_of_query : Asked → Option QueryRule
rule_of_query q =
    if has_bad_collection q then told 1
    else if has_bad_path q then told 2
    else if has_bad_list q then told 3
    else option_map_or (told_with 4) (long_not_in q) (later_rule_of_query q)
