-- Only private clauses cite this: what the rules ask of the parts of a filter, gathered.
use Rattle.std.specs.Prelude.{◌&&◌, ◌||◌, List, nat_lt, count_by, if◌then◌else◌}
use Rattle.std.specs.List.{list_any}
use Rattle.std.specs.Option.{is_some}
use Rattle.fs_query.specs.Condition.{Condition}
use Rattle.fs_query.specs.FilterParts.{is_by, is_not_in_op}
use Rattle.fs_query.specs.FilterRules.{has_bad_path_itself, has_bad_list_itself, first_some, is_kept_from_not_in, is_is_not_null, misuses_name, is_without_filters}
use Rattle.fs_query.specs.declared.census.Census.{Census}

abbrev pub census_in : List Condition → Census
census_in cs = record {
  bad_path = list_any has_bad_path_itself cs;
  bad_list = list_any has_bad_list_itself cs;
  long_not_in = first_some cs;
  not_in = list_any (is_by is_not_in_op) cs;
  second_not_in = nat_lt 1 (count_by (is_by is_not_in_op) cs);
  kept_from_not_in = list_any is_kept_from_not_in cs;
  not_null = list_any is_is_not_null cs;
  misused_name = list_any misuses_name cs;
  without_filters = list_any is_without_filters cs;
}

-- those of two lists of parts, one behind the other
abbrev pub joined_census : Census → Census → Census
joined_census a b = record {
  bad_path = a.bad_path || b.bad_path;
  bad_list = a.bad_list || b.bad_list;
  long_not_in = if is_some a.long_not_in then a.long_not_in else b.long_not_in;
  not_in = a.not_in || b.not_in;
  second_not_in = (a.second_not_in || b.second_not_in) || (a.not_in && b.not_in);
  kept_from_not_in = a.kept_from_not_in || b.kept_from_not_in;
  not_null = a.not_null || b.not_null;
  misused_name = a.misused_name || b.misused_name;
  without_filters = a.without_filters || b.without_filters;
}
