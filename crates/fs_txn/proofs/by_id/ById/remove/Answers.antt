use Rattle.std.proofs.Common.{ap, ◌∙◌, subst, sym}
use Rattle.std.specs.Prelude.{◌==◌, not}
use Rattle.std.specs.List.{filter}
use Rattle.fs_txn.specs.Kept.{txns, AreById}
use Rattle.fs_txn.specs.Transactions.{txn_of}
use Rattle.fs_txn.proofs.Entries.{found, removed, by_id_removed}
use Rattle.fs_txn.proofs.by_id.ById.remove.Goals as goal

pub invariant_of-self : goal.invariant_of-self
invariant_of-self c = subst AreById (sym c.remove.ensures.entries) (by_id_removed c.self.inside.txns.entries c.args.id c.self.invariant)

pub returns-clause-value : goal.returns-clause-value
returns-clause-value c = c.remove.ensures.value ∙ found c.self.inside.txns.entries c.args.id c.self.invariant.keys ∙ ap (txn_of c.args.id) c.self.view_is

pub returns-clause-rest : goal.returns-clause-rest
returns-clause-rest c =
    ap txns c.remove.ensures.entries ∙ removed c.self.inside.txns.entries c.args.id c.self.invariant
    ∙ ap (filter (λ t. not (t.id == c.args.id))) c.self.view_is
