use Rattle.std.specs.Prelude.{Some}
use Rattle.std.proofs.Common.{◌<◌, ap, sym, ◌∙◌, subst, length, arith}
use Rattle.fs_value.specs.FieldPaths.{set_fields}
use Rattle.fs_value.specs.FieldPlace.{IsFoundAt}
use Rattle.fs_value.specs.View.{view}
use Rattle.fs_value.proofs.FieldPlaces.{kept, replaced_rises}
use Rattle.std.proofs.lemmas.Result.{on_ok_weaker, on_err_weaker}
use Rattle.fs_value.proofs.PathSteps.{first_name, set_there, set_missing, set_map, set_no_map, set_whole}
use Rattle.fs_value.proofs.path.+set.Goals as goal
use Rattle.fs_value.proofs.path.+set.Goals.{set_inside-in-Map+else-not-is_empty, set_inside-in_default}

pub set_at-invariant_of-fields : goal.set_at-invariant_of-fields
set_at-invariant_of-fields t c =
    let key = c.as_str.result.now in
    let here = subst (λ fs. IsFoundAt key fs c.in-Ok.i) (sym c.fields.view_is) c.in-Ok.ensures in
    replaced_rises key c.fields.inside.items.items c.in-Ok.i c.index_mut.result.now c.set_inside.new.value c.fields.invariant here c.index_mut.ensures.value

pub set_at-returns-in-Ok-clause-ok : goal.set_at-returns-in-Ok-clause-ok
set_at-returns-in-Ok-clause-ok t c =
    let key = c.as_str.result.now in
    let names = c.args.names.now in
    let more : 0 < length names = omega arith in
    let first = first_name names key c.key-item.result c.as_str.ensures.value c.key-item.is in
    let here = subst (λ fs. IsFoundAt key fs c.in-Ok.i) (sym c.fields.view_is) c.in-Ok.ensures in
    on_ok_weaker c.set_inside.result
    (λ new. set_there key names (view c.args.v) c.fields.inside.items.items c.in-Ok.i c.index_mut.result.now c.set_inside.new.value more first here c.index_mut.ensures.value new
    ∙ ap (set_fields names (view c.args.v)) c.fields.view_is)
    c.set_inside.ensures.ok

pub set_at-returns-in-Ok-clause-err : goal.set_at-returns-in-Ok-clause-err
set_at-returns-in-Ok-clause-err t c =
    on_err_weaker c.set_inside.result
    (λ same. kept c.fields.inside.items.items c.in-Ok.i c.index_mut.result.now c.set_inside.new.value c.index_mut.ensures.value same ∙ c.fields.view_is)
    c.set_inside.ensures.err

pub set_at-returns-in_ok-copy-in-Err-clause-ok : goal.set_at-returns-in_ok-copy-in-Err-clause-ok
set_at-returns-in_ok-copy-in-Err-clause-ok t c =
    let key = c.as_str.result.now in
    let names = c.args.names.now in
    let more : 0 < length names = omega arith in
    let first = first_name names key c.key-item.result c.as_str.ensures.value c.key-item.is in
    on_ok_weaker c.put.result
    (set_missing key c.in_ok-copy-in-Err.field-0 names (view c.args.v) c.args.fields.now c.put.new.self (view c.in_ok-made-in-Err.made) more first
    (c.in_ok-copy-in-Err.ensures ∙ sym c.as_str.ensures.value) c.in-Err.ensures.missing c.in_ok-made-in-Err.ensures)
    c.put.ensures.ok

pub set_inside-returns-then-not-is_empty-clause-ok : goal.set_inside-returns-then-not-is_empty-clause-ok
set_inside-returns-then-not-is_empty-clause-ok t c =
    on_ok_weaker c.set_at.result
    (set_map c.args.names.now (view c.args.v) (view c.args.value.now) c.in-Map.fields c.set_at.new.fields (grind arith) (ap view c.in-Map.is))
    c.set_at.ensures.ok

pub set_inside-returns-clause-ok : goal.set_inside-returns-clause-ok
set_inside-returns-clause-ok t c =
    c.in_ok-value.ensures
    ∙ elim c.match-value.branch [
      | set_inside-in-Map+else-not-is_empty w ↦ set_whole c.args.names.now (view c.args.v) (Some (view c.args.value.now)) (grind arith)
      | set_inside-in_default w ↦ set_no_map c.args.names.now (view c.args.v) c.args.value.now w.in_default.not-Map
    ]
