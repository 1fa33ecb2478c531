-- Only private clauses cite this: the least rule that is broken, of the first ten from a rule on, and of those behind them.
use Rattle.std.specs.Prelude.{Option, None, min, if◌then◌else◌}
use Rattle.std.specs.Option.{option_map_or}
use Rattle.fs_query.specs.Asked.{Asked}
use Rattle.fs_query.specs.FilterRules.{has_bad_list, long_not_in, disjunct_count, has_many_disjuncts, has_two_contains, has_contains_any_beside, has_not_in_beside_other, has_not_in_beside_its_like, has_misused_name, has_empty_composite}
use Rattle.fs_query.specs.Limits.{most_told}
use Rattle.fs_query.specs.Rules.{has_bad_collection, has_bad_path, has_bad_cursor, has_negative_number, has_order_twice, told, told_with}
use Rattle.fs_query.specs.declared.rule.QueryRule.{QueryRule}

abbrev pub rules_from_8 : Asked → Option QueryRule
rules_from_8 q = if has_not_in_beside_other q then told 8 else if has_not_in_beside_its_like q then told 9 else if has_misused_name q then told 10 else None

abbrev pub rules_from_6 : Asked → Option QueryRule
rules_from_6 q = if has_two_contains q then told 6 else if has_contains_any_beside q then told 7 else rules_from_8 q

abbrev pub rules_from_5 : Asked → Option QueryRule
rules_from_5 q = if has_many_disjuncts q then told_with 5 (min (disjunct_count q) most_told) else rules_from_6 q

abbrev pub rules_to_10 : Asked → Option QueryRule
rules_to_10 q = if has_bad_collection q then told 1 else if has_bad_path q then told 2 else if has_bad_list q then told 3 else option_map_or (told_with 4) (long_not_in q) (rules_from_5 q)

abbrev pub rules_from_11 : Asked → Option QueryRule
rules_from_11 q = if has_bad_cursor q then told 11 else if has_negative_number q then told 12 else if has_order_twice q then told 13 else if has_empty_composite q then told 14 else None
