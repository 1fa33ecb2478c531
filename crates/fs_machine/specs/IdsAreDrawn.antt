-- Always: no two commits and transactions have one number, those that wait included, and each has one that was drawn. A commit of a
-- transaction has the transaction's number, which is no longer open then; one that waits is no holder of it beside the transaction.
use Rattle.std.specs.Prelude.{◌≡◌, ℕ, ◌+◌, ◌<◌, ◌≤◌, ◌==◌, List, [], ◌∷◌, Option, Some, None, if◌then◌else◌}
use Rattle.fs_history.specs.declared.batch.Batch.{Batch}
use Rattle.fs_txn.specs.Transactions.{Transactions}
use Rattle.fs_txn.specs.declared.expired.Expired.{Expired}
use Rattle.fs_txn.specs.declared.txn.Txn.{Txn}
use Rattle.fs_machine.specs.Numbered.{transaction_in}
use Rattle.fs_machine.specs.Past.{Past, batches}
use Rattle.fs_machine.specs.declared.parked_request.ParkedRequest.{ParkedRequest}

-- how many have a number
abbrev pub counted : ℕ → ℕ → ℕ
counted id n = if n == id then 1 else 0

abbrev pub times_in : ℕ → List Batch → ℕ
times_in id [] = 0
times_in id (b ∷ h) = counted id b.id + times_in id h

abbrev pub times_open : ℕ → List Txn → ℕ
times_open id [] = 0
times_open id (t ∷ ts) = counted id t.id + times_open id ts

abbrev pub times_expired : ℕ → List Expired → ℕ
times_expired id [] = 0
times_expired id (e ∷ es) = counted id e.id + times_expired id es

-- one that waits in a transaction has drawn none
abbrev pub own_count : ℕ → ParkedRequest → Option ℕ → ℕ
own_count id r None = counted id r.id
own_count id r (Some transaction) = 0

abbrev pub times_parked : ℕ → List ParkedRequest → ℕ
times_parked id [] = 0
times_parked id (r ∷ rs) = own_count id r (transaction_in r.envelope.request) + times_parked id rs

abbrev pub times : ℕ → Past → Transactions → List ParkedRequest → ℕ
times id p ts rs =
    ((times_in id p.history + times_in id (batches p.unreleased)) + (times_open id ts.open + times_expired id ts.expired)) + times_parked id rs

-- they count from 1
abbrev pub IdsAreDrawn : Past → Transactions → List ParkedRequest → ℕ → Type 0
IdsAreDrawn p ts rs ids = (id : ℕ) → (times id p ts rs ≤ 1) × (ids < id → times id p ts rs ≡ 0) × (id ≡ 0 → times id p ts rs ≡ 0)
