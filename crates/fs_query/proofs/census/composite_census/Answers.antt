use Rattle.fs_query.proofs.CensusParts.{composite_alone}
use Rattle.fs_query.proofs.census.composite_census.Goals as goal

pub returns : goal.returns
returns c = composite_alone c.is_empty.result c.args.is_or c.args.filters.now c.is_empty.ensures
