-- Only private clauses cite this: whether a document has the fields of a filter's inequalities, filter by filter.
use Rattle.std.specs.Prelude.{Bool, true, ◌&&◌, ◌||◌, not}
use Rattle.std.specs.Option.{is_some}
use Rattle.fs_value.specs.declared.document.Document.{Document}
use Rattle.fs_query.specs.Condition.{Condition, compared, is_not_null, all_of, any_of, Conditions, no_more, one_more}
use Rattle.fs_query.specs.Field.{value_at}
use Rattle.fs_query.specs.Normal.{is_inequality}

abbrev mutual
  pub has_inequality_fields : Condition → Document → Bool
  has_inequality_fields (compared p op v) d = not (is_inequality op) || is_some (value_at p d)
  has_inequality_fields (is_not_null p) d = is_some (value_at p d)
  has_inequality_fields (all_of cs) d = have_inequality_fields cs d
  has_inequality_fields (any_of cs) d = have_inequality_fields cs d
  has_inequality_fields c d = true

  pub have_inequality_fields : Conditions → Document → Bool
  have_inequality_fields no_more d = true
  have_inequality_fields (one_more c cs) d = has_inequality_fields c d && have_inequality_fields cs d
