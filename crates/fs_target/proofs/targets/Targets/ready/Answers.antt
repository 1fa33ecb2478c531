use Rattle.std.proofs.Common.{sym, ap, ◌∙◌}
use Rattle.fs_listen.specs.Cuts.{is_ready, least}
use Rattle.fs_target.specs.Prepared.{held_in}
use Rattle.fs_target.specs.Still.{is_ready_still}
use Rattle.fs_target.proofs.MayStand.{are_still, shown_still}
use Rattle.fs_target.proofs.Stands.{still_ready}
use Rattle.fs_target.proofs.targets.Targets.ready.Goals as goal

pub returns-in-Some : goal.returns-in-Some
returns-in-Some c =
    let o = c.self.inside.still in
    let m = c.self.inside.awake in
    let s = c.in-Some.still in
    let are = are_still o s m c.in-Some.is c.self.invariant.0 in
    let shown = shown_still o s m c.args.self.now c.in-Some.is c.self.view_is in
    c.ready.ensures ∙ ap (λ r. is_ready_still (least s.positions.items) s.base r) c.raised.ensures ∙ sym (still_ready s m are) ∙ ap (λ v. is_ready (held_in v).listening) shown
