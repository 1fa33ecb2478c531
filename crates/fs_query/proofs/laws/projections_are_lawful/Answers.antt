use Rattle.fs_query.proofs.ProjectionLaws.{paths_are_kept, others_are_left_out, no_map_is_left_empty}
use Rattle.fs_query.proofs.laws.projections_are_lawful.Goals as goal

pub returns-clause-kept : goal.returns-clause-kept
returns-clause-kept c = paths_are_kept

pub returns-clause-others : goal.returns-clause-others
returns-clause-others c = others_are_left_out

pub returns-clause-maps : goal.returns-clause-maps
returns-clause-maps c = no_map_is_left_empty
