use Rattle.std.proofs.Common.{◌<◌, ap, sym, ◌∙◌, subst, length, arith}
use Rattle.fs_value.specs.FieldPaths.{unset_fields}
use Rattle.fs_value.specs.FieldPlace.{IsFoundAt}
use Rattle.fs_value.specs.View.{view}
use Rattle.fs_value.proofs.FieldPlaces.{replaced_rises}
use Rattle.fs_value.proofs.PathSteps.{first_name, unset_there, unset_map}
use Rattle.fs_value.proofs.path.+unset.Goals as goal

pub unset_at-invariant_of-fields : goal.unset_at-invariant_of-fields
unset_at-invariant_of-fields t c =
    let key = c.as_str.result.now in
    let here = subst (λ fs. IsFoundAt key fs c.in-Ok.i) (sym c.fields.view_is) c.in-Ok.ensures in
    replaced_rises key c.fields.inside.items.items c.in-Ok.i c.index_mut.result.now c.unset_inside.new.value c.fields.invariant here c.index_mut.ensures.value

pub unset_at-returns-in-Ok : goal.unset_at-returns-in-Ok
unset_at-returns-in-Ok t c =
    let key = c.as_str.result.now in
    let names = c.args.names.now in
    let more : 1 < length names = omega arith in
    let first = first_name names key c.key-item-2.result c.as_str.ensures.value c.key-item-2.is in
    let here = subst (λ fs. IsFoundAt key fs c.in-Ok.i) (sym c.fields.view_is) c.in-Ok.ensures in
    unset_there key names c.fields.inside.items.items c.in-Ok.i c.index_mut.result.now c.unset_inside.new.value more first here c.index_mut.ensures.value c.unset_inside.ensures
    ∙ ap (unset_fields names) c.fields.view_is

pub unset_inside-returns-in-Map : goal.unset_inside-returns-in-Map
unset_inside-returns-in-Map t c = unset_map c.args.names.now (view c.args.value.now) c.in-Map.fields c.unset_at.new.fields (ap view c.in-Map.is) c.unset_at.ensures
