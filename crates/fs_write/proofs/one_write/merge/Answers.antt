use Rattle.std.proofs.Common.{◌<◌, length, get_or, ap, ◌∙◌, subst, refl}
use Rattle.fs_value.specs.FieldPaths.{get_fields}
use Rattle.fs_write.proofs.Fields.{merged_more}
use Rattle.fs_write.proofs.one_write.merge.Goals as goal

pub loop-path-preserved : goal.loop-path-preserved
loop-path-preserved c =
    let mask = c.args.mask.now in
    let i = c.loop-path.path-index in
    let p = c.path-item.result in
    let seen = c.as_slice-path-items.ensures in
    let within : i < length mask = subst (λ ps. i < length ps) seen c.loop-path-test.true in
    let is = c.path-item.is ∙ ap (λ ps. get_or ps i p) seen in
    merged_more mask i p (get_fields p.parts c.args.input.now) c.args.input.now c.args.fields c.loop-path.opened c.in_ok-opened-2.opened within is c.loop-path.invariant refl c.in_ok-opened-2.ensures
