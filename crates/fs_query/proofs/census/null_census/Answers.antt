use Rattle.std.proofs.Common.{false, ◌∙◌}
use Rattle.std.specs.Prelude.{None}
use Rattle.fs_query.specs.Condition.{is_null}
use Rattle.fs_query.proofs.CensusParts.{census_alone}
use Rattle.fs_query.proofs.census.null_census.Goals as goal

pub returns : goal.returns
returns c =
    (λ i. record {
      bad_path = c.is_bad_path.ensures i;
      bad_list = false;
      long_not_in = None;
      not_in = false;
      second_not_in = false;
      kept_from_not_in = false;
      not_null = false;
      misused_name = c.is_name.ensures i;
      without_filters = false;
    })
    ∙ census_alone (is_null c.args.path.now)
