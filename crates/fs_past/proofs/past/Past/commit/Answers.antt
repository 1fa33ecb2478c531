use Rattle.std.proofs.Common.{ap, ◌∙◌}
use Rattle.fs_history.specs.History.{whole}
use Rattle.fs_machine.specs.Past.{Past}
use Rattle.fs_machine.specs.Settle.{pending_of}
use Rattle.fs_past.proofs.OnBoard.{asked_pending_there}
use Rattle.fs_past.proofs.past.Past.commit.Goals as goal

pub returns : goal.returns
returns c =
    let s = c.self.inside in
    c.pending.ensures ∙ asked_pending_there (whole s.journal.history) s.board.commits c.args.id c.self.invariant.stand c.ids_differ.ensures
    ∙ ap (λ (p : Past). pending_of p c.args.id) c.self.view_is
