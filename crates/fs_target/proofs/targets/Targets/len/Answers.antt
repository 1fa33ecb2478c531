use Rattle.std.proofs.Common.{ap, ◌∙◌}
use Rattle.std.specs.FinMap.{len}
use Rattle.fs_target.specs.Prepared.{held_in}
use Rattle.fs_target.proofs.MayStand.{len_shown}
use Rattle.fs_target.proofs.targets.Targets.len.Goals as goal

pub returns : goal.returns
returns c = c.len.ensures ∙ len_shown c.self.inside.awake c.self.inside.still c.self.invariant.0 ∙ ap (λ v. len (held_in v).listening.targets) c.self.view_is
