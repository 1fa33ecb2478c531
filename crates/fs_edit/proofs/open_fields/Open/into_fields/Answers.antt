use Rattle.std.proofs.Common.{ap, sym, ◌∙◌}
use Rattle.std.specs.Prelude.{Some}
use Rattle.fs_value.specs.DataLaws.{fields_of-members_of}
use Rattle.fs_value.specs.FieldPaths.{fields_below}
use Rattle.fs_value.specs.View.{view}
use Rattle.fs_edit.specs.OpenView.{open_view}
use Rattle.std.proofs.lemmas.Result.{IfOk-weaker}
use Rattle.fs_edit.proofs.open_fields.Open.into_fields.Goals as goal

pub returns-in-Map : goal.returns-in-Map
returns-in-Map c = sym (fields_of-members_of c.in-Map.fields) ∙ ap (λ o. fields_below (Some (open_view o))) (sym c.in-Map.is)

pub returns-in-Whole-Map : goal.returns-in-Whole-Map
returns-in-Whole-Map c =
    IfOk-weaker c.open.result _ _ (λ fs is. is ∙ sym (fields_of-members_of c.in-Whole-Map.fields) ∙ ap (λ v. fields_below (Some (view v))) (sym c.in-Whole-Map.field-0-is) ∙ ap (λ o. fields_below (Some (open_view o))) (sym c.in-Whole-Map.is)) c.open.ensures
