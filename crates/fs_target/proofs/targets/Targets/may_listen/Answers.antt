use Rattle.std.proofs.Common.{subst}
use Rattle.fs_target.specs.Held.{IsListenedByNone}
use Rattle.fs_target.specs.Prepared.{held_in}
use Rattle.fs_target.proofs.Collected.{none_shown}
use Rattle.fs_target.proofs.targets.Targets.may_listen.Goals as goal

pub returns : goal.returns
returns c = λ none.
    subst (λ v. IsListenedByNone c.args.name.now (held_in v)) c.self.view_is
    (none_shown c.args.name.now c.self.inside.awake c.self.inside.still (c.may_listen.ensures none))
