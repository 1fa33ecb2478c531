-- What a filter is. The lists inside it are seen as conditions already, so this goes down one level.
use Rattle.fs_query.specs.Condition.{Condition, anything, compared, is_null, is_not_null, all_of, any_of, conditions_of}
use Rattle.fs_query.specs.declared.filter.Filter.{Filter}
use Rattle.fs_query.specs.declared.filter.Filter.TheVariants.{All, Field, IsNull, IsNotNull, And, Or}
use Rattle.fs_value.specs.View.{view as value_view}

abbrev pub view : Filter → Condition
view All = anything
view (Field p op v) = compared p op (value_view v)
view (IsNull p) = is_null p
view (IsNotNull p) = is_not_null p
view (And fs) = all_of (conditions_of fs)
view (Or fs) = any_of (conditions_of fs)
