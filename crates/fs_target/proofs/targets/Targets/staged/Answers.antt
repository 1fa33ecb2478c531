use Rattle.std.proofs.Common.{ap, ◌∙◌}
use Rattle.std.specs.FinMap.{get}
use Rattle.fs_target.specs.Held.{staged_of}
use Rattle.fs_target.specs.Prepared.{held_in}
use Rattle.fs_target.proofs.MayStand.{kept_shown}
use Rattle.fs_target.proofs.targets.Targets.staged.Goals as goal

pub returns : goal.returns
returns c =
    c.staged.ensures
    ∙ ap (λ ks. staged_of (get ks c.args.id)) (kept_shown c.self.inside.awake c.self.inside.still)
    ∙ ap (λ v. staged_of (get (held_in v).kept c.args.id)) c.self.view_is
