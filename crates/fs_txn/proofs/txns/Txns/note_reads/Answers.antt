use Rattle.std.proofs.Common.{sym, ◌∙◌}
use Rattle.fs_txn.proofs.Several.{noted_none}
use Rattle.fs_txn.proofs.txns.Txns.note_reads.Goals as goal

pub returns-else-is_read_write-clause-ok : goal.returns-else-is_read_write-clause-ok
returns-else-is_read_write-clause-ok c =
    c.use_at.ensures
    ∙ noted_none c.args.reads c.args.self.now c.args.id c.args.now c.requires.there (sym c.is_read_write.ensures ∙ c.if-is_read_write.false)
