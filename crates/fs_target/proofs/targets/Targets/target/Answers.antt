use Rattle.std.proofs.Common.{ap, ◌∙◌}
use Rattle.std.specs.FinMap.{get}
use Rattle.std.specs.Option.{option_map}
use Rattle.fs_listen.specs.Listening.{Listened}
use Rattle.fs_target.specs.Prepared.{held_in}
use Rattle.fs_target.proofs.MayStand.{asked_same, target_same}
use Rattle.fs_target.proofs.targets.Targets.target.Goals as goal

pub returns : goal.returns
returns c =
    c.target.ensures
    ∙ asked_same c.self.inside.awake (option_map (λ (l : Listened). l.target)) target_same c.self.inside.still c.args.id
    ∙ ap (λ v. option_map (λ (l : Listened). l.target) (get (held_in v).listening.targets c.args.id)) c.self.view_is
