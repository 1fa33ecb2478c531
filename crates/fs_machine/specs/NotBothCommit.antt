-- Of two transactions that are open at once, each of which writes what the other has read, not both are committed, whatever comes and in
-- whatever order: neither would have read what the other wrote.
--
--     1 and 2 are open, 1 has read c/a, and 2 has read c/b
--     1 commits a write of c/b, and 2 one of c/a      one of the two is aborted at least
-- (Cloud Firestore documentation, "Transaction serializability and isolation".)
use Rattle.std.specs.Prelude.{◌≡◌, ◌⊎◌, ℕ, true, List, Some}
use Rattle.std.specs.List.{Contains}
use Rattle.fs_history.specs.Touches.{some_touched}
use Rattle.fs_history.specs.declared.batch.Batch.{Batch}
use Rattle.fs_txn.specs.Transactions.{is_read_write, txn_of}
use Rattle.fs_txn.specs.declared.txn.Txn.{Txn}
use Rattle.fs_machine.specs.Event.{Event, after}
use Rattle.fs_machine.specs.Facts.{Facts}
use Rattle.fs_machine.specs.Past.{Past, batches}
use Rattle.fs_machine.specs.State.{Machine}

-- it is in the history, or behind it
abbrev pub IsCommitted : Past → Batch → Type 0
IsCommitted p b = Contains p.history b ⊎ Contains (batches p.unreleased) b

-- one of a number is open, and reads and writes
pub record IsOpenReadWrite (m : Machine) (id : ℕ) (t : Txn) : Type 0 where
  pub found : txn_of id m.txns.open ≡ Some t
  pub kind : is_read_write t.kind ≡ true

-- the commit of that number, by then
pub record IsCommitOf (p : Past) (id : ℕ) (b : Batch) : Type 0 where
  pub committed : IsCommitted p b
  pub number : b.id ≡ id

abbrev pub NotBothCommit : Type 0
NotBothCommit = (m : Machine) (events : List Event) (a b : ℕ) (t u : Txn) (x y : Batch) → Facts m → (a ≡ b → ⊥) → IsOpenReadWrite m a t → IsOpenReadWrite m b u
    → IsCommitOf (after m events).past a x → IsCommitOf (after m events).past b y → some_touched x.writes u.reads ≡ true → some_touched y.writes t.reads ≡ true → ⊥
