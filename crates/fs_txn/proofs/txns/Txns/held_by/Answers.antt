use Rattle.std.proofs.Common.{◌≡◌, ℕ, Bool, ap, ◌∙◌, subst}
use Rattle.std.specs.Prelude.{IsTrue}
use Rattle.std.specs.List.{list_any}
use Rattle.fs_locks.specs.Holds.{IsLeastOther}
use Rattle.fs_locks.specs.Shares.{is_shared}
use Rattle.fs_path.specs.declared.name.DocName.{DocName}
use Rattle.fs_txn.specs.Reading.{is_reader}
use Rattle.fs_txn.specs.Transactions.{Transactions}
use Rattle.fs_txn.proofs.txns.Txns.held_by.Goals as goal

pub returns : goal.returns
returns c =
    let same : is_shared c.self.inside.holds.shared ≡ (λ i n. is_reader c.args.self.now n i) =
    λ k i n. (c.self.invariant.0.1 i n ∙ ap (λ (ts : Transactions). is_reader ts n i) c.self.view_is) k in
    subst (λ (p : ℕ → DocName → Bool). IsLeastOther (λ i. IsTrue (list_any (p i) c.args.names.now)) c.args.by c.conflict.result) same c.conflict.ensures
