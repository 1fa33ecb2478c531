-- When a transaction expires: at a tick of the clock 60 seconds or more after its last use, or 270 seconds or more after its
-- begin. The last 1,000 that expired are remembered.
--
--     begun at 0, last used at 30 s       a tick at 89 s: open      at 90 s: expired, since 30 s
--     begun at 0, last used at 250 s      a tick at 269 s: open     at 270 s: expired, since 0 s
-- (Cloud Firestore documentation, "Transactions and batched writes": a transaction lasts at most 270 seconds, and expires
-- after 60 seconds of idleness.)
use Rattle.std.specs.Prelude.{ℕ, ℤ, pos, ◌+ℤ◌, ◌-◌, Bool, ◌||◌, not, int_le, List, ◌++◌, Option, Some, None, map, length, drop, if◌then◌else◌}
use Rattle.std.specs.List.{filter}
use Rattle.fs_txn.specs.declared.expired.Expired.{Expired}
use Rattle.fs_txn.specs.declared.expired.TxnError.{TxnError}
use Rattle.fs_txn.specs.declared.expired.TxnError.TheVariants as error
use Rattle.fs_txn.specs.declared.txn.Txn.{Txn}
use Rattle.fs_txn.specs.Transactions.{Transactions}

-- microseconds after its last use
abbrev pub idle : ℤ
idle = pos 60_000_000

-- microseconds after its begin
abbrev pub longest : ℤ
longest = pos 270_000_000

-- so many that expired are remembered
abbrev pub remembered : ℕ
remembered = 1_000

-- its longest time has passed
abbrev pub is_long : ℤ → Txn → Bool
is_long now t = int_le (t.begun +ℤ longest) now

-- it expires at a tick
abbrev pub is_over : ℤ → Txn → Bool
is_over now t = is_long now t || int_le (t.used +ℤ idle) now

-- the time that ran out
abbrev pub since : ℤ → Txn → ℤ
since now t = if is_long now t then t.begun else t.used

abbrev pub gone : ℤ → Txn → Expired
gone now t = record { id = t.id; since = since now t; now = now }

-- those that expire at a tick
abbrev pub over : ℤ → List Txn → List Txn
over now ts = filter (is_over now) ts

-- ---- those that are remembered

-- the last of them
abbrev pub last_of : List Expired → List Expired
last_of es = drop (length es - remembered) es

-- why none of an id is open, where what is remembered of it is this
abbrev pub error_of : Option Expired → TxnError
error_of None = error.Unknown
error_of (Some e) = error.Expired e

-- of those that expire at one tick, the greater id is the later
abbrev pub expired_at : ℤ → Transactions → Transactions
expired_at now ts = record {
  «open» = filter (λ t. not (is_over now t)) ts.open;
  expired = last_of (ts.expired ++ map (gone now) (over now ts.open));
}
