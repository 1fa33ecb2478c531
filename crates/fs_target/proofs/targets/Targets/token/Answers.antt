use Rattle.std.proofs.Common.{ap, ◌∙◌}
use Rattle.std.specs.FinMap.{get}
use Rattle.std.specs.Option.{option_and_then}
use Rattle.fs_listen.specs.Listening.{Listened}
use Rattle.fs_target.specs.Prepared.{held_in}
use Rattle.fs_target.proofs.MayStand.{asked_same, token_same}
use Rattle.fs_target.proofs.targets.Targets.token.Goals as goal

pub returns : goal.returns
returns c =
    c.token.ensures
    ∙ asked_same c.self.inside.awake (option_and_then (λ (l : Listened). l.token)) token_same c.self.inside.still c.args.id
    ∙ ap (λ v. option_and_then (λ (l : Listened). l.token) (get (held_in v).listening.targets c.args.id)) c.self.view_is
