use Rattle.std.proofs.Common.{ap, ◌∙◌, ◌<◌, map, get_or, subst}
use Rattle.fs_value.specs.Data.{weight, items_weight, items_of}
use Rattle.fs_value.specs.View.{view}
use Rattle.fs_value.proofs.Weights.{item_lighter}
use Rattle.fs_value.proofs.values.Values.as_slice.Goals as goal

pub returns-clause-lighter : goal.returns-clause-lighter
returns-clause-lighter c = λ k d h. subst (λ ds. weight (view (get_or c.as_slice.result.now k d)) < items_weight (items_of ds)) (ap (map view) c.as_slice.ensures.value ∙ c.self.view_is) (item_lighter c.as_slice.result.now k d h)
