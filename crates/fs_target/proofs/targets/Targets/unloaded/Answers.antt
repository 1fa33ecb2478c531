use Rattle.std.proofs.Common.{sym, ap, ◌∙◌}
use Rattle.std.specs.FinMap.{entries}
use Rattle.fs_listen.specs.Cuts.{first_loading}
use Rattle.fs_target.specs.Prepared.{held_in}
use Rattle.fs_target.proofs.MayStand.{are_still, shown_still}
use Rattle.fs_target.proofs.Stands.{still_unloaded}
use Rattle.fs_target.proofs.targets.Targets.unloaded.Goals as goal

pub returns-in-Some : goal.returns-in-Some
returns-in-Some c =
    let o = c.self.inside.still in
    let m = c.self.inside.awake in
    let s = c.in-Some.field-0 in
    let are = are_still o s m c.in-Some.is c.self.invariant.0 in
    let shown = shown_still o s m c.args.self.now c.in-Some.is c.self.view_is in
    sym (still_unloaded s m are) ∙ ap (λ v. first_loading (entries (held_in v).listening.targets)) shown
