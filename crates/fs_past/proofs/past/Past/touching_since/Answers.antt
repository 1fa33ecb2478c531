use Rattle.std.proofs.Common.{sym, ap, ◌∙◌}
use Rattle.fs_locks.specs.Holds.{lesser_of}
use Rattle.fs_machine.specs.Behind.{least}
use Rattle.fs_machine.specs.Conflict.{touching_since}
use Rattle.fs_machine.specs.Past.{Past, batches}
use Rattle.fs_past.specs.Kept.{all_unreleased}
use Rattle.fs_past.proofs.LeastNumber.{first_of_both}
use Rattle.fs_past.proofs.past.Past.touching_since.Goals as goal

pub returns : goal.returns
returns c =
    let s = c.self.inside in
    let time = c.args.time in
    let reads = c.args.reads.now in
    c.lesser.ensures
    ∙ (λ i. lesser_of (c.first_on_board.ensures i) (c.first_in_journal.ensures i))
    ∙ sym (first_of_both time reads (batches (all_unreleased s.board.commits)) s.journal.history)
    ∙ ap (λ (p : Past). least (touching_since time p reads)) c.self.view_is
