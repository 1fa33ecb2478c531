use Rattle.std.proofs.Common.{ap, sym, ◌∙◌, subst, map}
use Rattle.fs_value.specs.FieldPaths.{without}
use Rattle.fs_value.specs.FieldPlace.{IsFoundAt}
use Rattle.fs_value.specs.View.{field_view}
use Rattle.fs_value.proofs.FieldPlaces.{removed, without_rises, without_missing}
use Rattle.fs_value.proofs.path.remove.Goals as goal

pub returns-in-Ok : goal.returns-in-Ok
returns-in-Ok c =
    let key = c.as_str.result.now in
    let here = subst (λ fs. IsFoundAt key fs c.in-Ok.i) (sym c.fields.view_is) c.in-Ok.ensures in
    ap (map field_view) c.remove.ensures.items
    ∙ removed key c.fields.inside.items.items c.in-Ok.i c.fields.invariant here
    ∙ ap (without key) c.fields.view_is
    ∙ ap (λ k. without k c.args.fields.now) c.as_str.ensures.value

pub invariant_of-fields : goal.invariant_of-fields
invariant_of-fields c =
    let key = c.as_str.result.now in
    let here = subst (λ fs. IsFoundAt key fs c.in-Ok.i) (sym c.fields.view_is) c.in-Ok.ensures in
    without_rises key (map field_view c.fields.inside.items.items) _ c.fields.invariant
    (ap (map field_view) c.remove.ensures.items ∙ removed key c.fields.inside.items.items c.in-Ok.i c.fields.invariant here)

pub returns-in-Err : goal.returns-in-Err
returns-in-Err c = sym (ap (λ k. without k c.args.fields.now) (sym c.as_str.ensures.value) ∙ without_missing c.as_str.result.now c.args.fields.now c.in-Err.ensures.missing)
