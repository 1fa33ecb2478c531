-- Always: the open transactions go by rising id, and no more are remembered than is said.
use Rattle.std.specs.Prelude.{◌<◌, ◌≤◌, List, [], ◌∷◌, length}
use Rattle.std.specs.List.{AllByRecursion}
use Rattle.fs_txn.specs.declared.txn.Txn.{Txn}
use Rattle.fs_txn.specs.Expiry.{remembered}
use Rattle.fs_txn.specs.Transactions.{Transactions}

-- each id is below those behind it
abbrev pub Rise : List Txn → Type 0
Rise [] = Unit {0}
Rise (t ∷ ts) = AllByRecursion (λ u. t.id < u.id) ts × Rise ts

pub record IsRising (ts : Transactions) : Type 0 where
  pub ids : Rise ts.open
  pub few : length ts.expired ≤ remembered
