use Rattle.std.proofs.Common.{ap, ◌∙◌, ◌<◌, map, get_or, subst}
use Rattle.fs_query.specs.Condition.{weight, conditions_weight, conditions_of}
use Rattle.fs_query.specs.View.{view}
use Rattle.fs_query.proofs.Weights.{filter_lighter}
use Rattle.fs_query.proofs.filter.Filters.as_slice.Goals as goal

pub returns-clause-lighter : goal.returns-clause-lighter
returns-clause-lighter c = λ k f h. subst (λ cs. weight (view (get_or c.as_slice.result.now k f)) < conditions_weight (conditions_of cs)) (ap (map view) c.as_slice.ensures.value ∙ c.self.view_is) (filter_lighter c.as_slice.result.now k f h)
