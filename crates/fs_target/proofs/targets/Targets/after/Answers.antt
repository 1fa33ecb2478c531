use Rattle.std.proofs.Common.{ap, ◌∙◌}
use Rattle.std.specs.FinMap.{keys}
use Rattle.fs_target.specs.Held.{id_after}
use Rattle.fs_target.specs.Prepared.{held_in}
use Rattle.fs_target.proofs.MayStand.{keys_shown}
use Rattle.fs_target.proofs.targets.Targets.after.Goals as goal

pub returns : goal.returns
returns c =
    c.after.ensures
    ∙ ap (id_after c.args.id) (keys_shown c.self.inside.awake c.self.inside.still c.self.invariant.0)
    ∙ ap (λ v. id_after c.args.id (keys (held_in v).listening.targets)) c.self.view_is
