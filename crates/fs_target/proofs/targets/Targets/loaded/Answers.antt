use Rattle.std.proofs.Common.{ap, ◌∙◌}
use Rattle.std.specs.FinMap.{get}
use Rattle.std.specs.Option.{option_map}
use Rattle.fs_listen.specs.Cuts.{is_loaded}
use Rattle.fs_listen.specs.Listening.{Listened}
use Rattle.fs_target.specs.Prepared.{held_in}
use Rattle.fs_target.proofs.MayStand.{asked_same, loaded_same}
use Rattle.fs_target.proofs.targets.Targets.loaded.Goals as goal

pub returns : goal.returns
returns c =
    c.loaded.ensures
    ∙ asked_same c.self.inside.awake (option_map (λ (l : Listened). is_loaded l.loaded)) loaded_same c.self.inside.still c.args.id
    ∙ ap (λ v. option_map (λ (l : Listened). is_loaded l.loaded) (get (held_in v).listening.targets c.args.id)) c.self.view_is
