use Rattle.std.proofs.Common.{ap, ◌∙◌}
use Rattle.std.specs.Ordering.{is_lt}
use Rattle.fs_target.proofs.Aside.{before_none, before_some}
use Rattle.fs_target.proofs.staged.is_before.Goals as goal

pub returns-in-Some : goal.returns-in-Some
returns-in-Some c =
    c.is_lt.ensures ∙ ap is_lt c.event_cmp.ensures ∙ before_some c.args.event.now c.args.others.now c.in-Some.last.now c.in-Some.ensures.value

pub returns-in-None : goal.returns-in-None
returns-in-None c = before_none c.args.event.now c.args.others.now c.in-None.ensures.value
