use Rattle.std.proofs.Common.{sym, ap, ◌∙◌}
use Rattle.fs_listen.specs.Cuts.{base, greatest_before}
use Rattle.fs_target.specs.Prepared.{held_in}
use Rattle.fs_target.proofs.MayStand.{are_still, shown_still}
use Rattle.fs_target.proofs.Stands.{still_base}
use Rattle.fs_target.proofs.targets.Targets.base.Goals as goal

pub returns-in-Some : goal.returns-in-Some
returns-in-Some c =
    let o = c.self.inside.still in
    let m = c.self.inside.awake in
    let s = c.in-Some.still in
    let are = are_still o s m c.in-Some.is c.self.invariant.0 in
    let shown = shown_still o s m c.args.self.now c.in-Some.is c.self.view_is in
    c.base.ensures ∙ ap (λ r. greatest_before r s.base) c.raised.ensures ∙ sym (still_base s m are) ∙ ap (λ v. base (held_in v).listening) shown
