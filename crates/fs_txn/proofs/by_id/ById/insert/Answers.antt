use Rattle.std.proofs.Common.{ap, ◌∙◌, subst, sym}
use Rattle.fs_txn.specs.Kept.{txns, AreById}
use Rattle.fs_txn.specs.Transactions.{put_in, txn_of}
use Rattle.fs_txn.proofs.Entries.{put, by_id_put}
use Rattle.fs_txn.proofs.by_id.ById.insert.Goals as goal

pub invariant_of-self-2 : goal.invariant_of-self-2
invariant_of-self-2 c =
    subst AreById (sym c.in_ok-insert.ensures.entries)
    (by_id_put c.self.inside.txns.entries c.args.txn c.self.invariant (ap (txn_of c.args.txn.id) c.self.view_is ∙ c.requires))

pub returns-clause-ok : goal.returns-clause-ok
returns-clause-ok c =
    ap txns c.in_ok-insert.ensures.entries
    ∙ put c.self.inside.txns.entries c.args.txn c.self.invariant.keys (ap (txn_of c.args.txn.id) c.self.view_is ∙ c.requires)
    ∙ ap (put_in c.args.txn) c.self.view_is
