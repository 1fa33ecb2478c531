use Rattle.std.proofs.Common.{false, ◌∙◌}
use Rattle.fs_value.specs.View.{view as value_view}
use Rattle.fs_query.specs.Condition.{compared}
use Rattle.fs_query.proofs.CensusParts.{census_alone}
use Rattle.fs_query.proofs.census.field_census.Goals as goal

pub returns : goal.returns
returns c =
    (λ i. record {
      bad_path = c.is_bad_path.ensures i;
      bad_list = c.is_bad_list.ensures c.args.path.now i;
      long_not_in = c.long_not_in.ensures c.args.path.now i;
      not_in = c.is_not_in_op.ensures i;
      second_not_in = false;
      kept_from_not_in = c.is_kept_from_not_in.ensures c.args.path.now (value_view c.args.value.now) i;
      not_null = false;
      misused_name = c.misuses_name.ensures i;
      without_filters = false;
    })
    ∙ census_alone (compared c.args.path.now c.args.op (value_view c.args.value.now))
