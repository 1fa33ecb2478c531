use Rattle.std.proofs.Common.{None, get_or, sym, ap, ◌∙◌}
use Rattle.fs_listen.specs.Cuts.{least}
use Rattle.fs_target.specs.Held.{positions_in}
use Rattle.fs_target.specs.Prepared.{held_in}
use Rattle.fs_target.proofs.MayStand.{are_still, shown_still}
use Rattle.fs_target.proofs.Stands.{still_least_in}
use Rattle.fs_target.proofs.targets.Targets.least_in.Goals as goal

pub returns-in-Some : goal.returns-in-Some
returns-in-Some c =
    let o = c.self.inside.still in
    let m = c.self.inside.awake in
    let s = c.in-Some.still in
    let are = are_still o s m c.in-Some.is c.self.invariant.0 in
    let shown = shown_still o s m c.args.self.now c.in-Some.is c.self.view_is in
    c.position_in.ensures ∙ ap (λ ps. get_or ps c.args.shard None) c.as_slice.ensures.value ∙ sym (still_least_in s m are c.args.shard) ∙ ap (λ v. least (positions_in c.args.shard (held_in v))) shown
