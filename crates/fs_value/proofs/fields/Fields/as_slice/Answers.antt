use Rattle.std.proofs.Common.{ap, ◌∙◌, ◌<◌, map, get_or, subst}
use Rattle.fs_value.specs.Data.{weight, members_weight, members_of}
use Rattle.fs_value.specs.View.{view, field_view}
use Rattle.fs_value.proofs.Weights.{field_lighter}
use Rattle.fs_value.proofs.fields.Fields.as_slice.Goals as goal

pub returns-clause-lighter : goal.returns-clause-lighter
returns-clause-lighter c = λ k f h. subst (λ fs. weight (view (get_or c.as_slice.result.now k f).value) < members_weight (members_of fs)) (ap (map field_view) c.as_slice.ensures.value ∙ c.self.view_is) (field_lighter c.as_slice.result.now k f h)
