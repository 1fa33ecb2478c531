use Rattle.std.proofs.Common.{ap, ◌∙◌}
use Rattle.fs_history.specs.History.{whole}
use Rattle.fs_machine.specs.Pending.{next_pending}
use Rattle.fs_past.proofs.OnBoard.{next_there}
use Rattle.fs_past.proofs.past.Past.next_pending.Goals as goal

pub returns : goal.returns
returns c = c.next_pending.ensures ∙ next_there (whole c.self.inside.journal.history) c.self.inside.board.commits c.self.invariant.stand ∙ ap next_pending c.self.view_is
