use Rattle.std.proofs.Common.{ap, ◌∙◌}
use Rattle.std.specs.Prelude.{is_some}
use Rattle.fs_history.specs.History.{whole}
use Rattle.fs_machine.specs.Past.{Past}
use Rattle.fs_machine.specs.Settle.{pending_of}
use Rattle.fs_past.proofs.OnBoard.{is_pending_there}
use Rattle.fs_past.proofs.past.Past.is_pending.Goals as goal

pub returns : goal.returns
returns c =
    let s = c.self.inside in
    c.is_pending.ensures ∙ is_pending_there (whole s.journal.history) s.board.commits c.args.id c.self.invariant.stand c.ids_differ.ensures ∙ ap (λ (p : Past). is_some (pending_of p c.args.id)) c.self.view_is
