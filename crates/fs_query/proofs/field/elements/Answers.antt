use Rattle.std.proofs.Common.{sym, ap, ◌∙◌}
use Rattle.fs_value.specs.DataLaws.{list_of-items_of}
use Rattle.fs_value.specs.Elements.{elements}
use Rattle.fs_value.specs.View.{view}
use Rattle.fs_query.proofs.field.elements.Goals as goal

pub returns-in-Array : goal.returns-in-Array
returns-in-Array c = c.as_slice.ensures.value ∙ sym (list_of-items_of c.in-Array.values) ∙ sym (ap (λ v. elements (view v)) c.in-Array.is)
