use Rattle.std.proofs.Common.{sym, ◌∙◌}
use Rattle.fs_target.proofs.Named.{all_named, all_tell}
use Rattle.fs_target.proofs.event.are_named.Goals as goal

pub returns : goal.returns
returns c = (λ is. all_named c.args.events.now (sym c.all_named.ensures ∙ is), λ named. c.all_named.ensures ∙ all_tell c.args.events.now named)
