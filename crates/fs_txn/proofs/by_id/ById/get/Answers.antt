use Rattle.std.proofs.Common.{ap, ◌∙◌}
use Rattle.fs_txn.specs.Transactions.{txn_of}
use Rattle.fs_txn.proofs.Entries.{found}
use Rattle.fs_txn.proofs.by_id.ById.get.Goals as goal

pub returns-clause-value : goal.returns-clause-value
returns-clause-value c = c.get.ensures.value ∙ found c.self.inside.txns.entries c.args.id c.self.invariant.keys ∙ ap (txn_of c.args.id) c.self.view_is
