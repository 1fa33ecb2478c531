-- What the open transactions have read, and what was shown to them.
--
--     1 reads c/a, 2 queries c, both read-write       a write of c/a touches what 1 and 2 have read, one of c/b what 2 has
-- (Cloud Firestore documentation, "Transaction serializability and isolation".)
use Rattle.std.specs.Prelude.{ℕ, ℤ, Bool, ◌&&◌, ◌==◌, int_lt, List, [], ◌∷◌, Option, Some, None, sum_by, if◌then◌else◌}
use Rattle.std.specs.List.{list_any}
use Rattle.std.specs.Option.{option_and_then}
use Rattle.fs_history.specs.Bytes.{shown_size}
use Rattle.fs_history.specs.Touches.{touches}
use Rattle.fs_history.specs.declared.read.Read.{Read}
use Rattle.fs_path.specs.declared.name.DocName.{DocName}
use Rattle.fs_txn.specs.declared.txn.Txn.{Txn}
use Rattle.fs_txn.specs.Transactions.{Transactions, is_read_write, txn_of}

-- a read-write one has a read that a write of this name touches
abbrev pub has_read : DocName → Txn → Bool
has_read n t = is_read_write t.kind && list_any (touches n) t.reads

-- the one of this id has
abbrev pub reads_name : List Txn → DocName → ℕ → Bool
reads_name ts n i = list_any (λ t. t.id == i && has_read n t) ts

-- the open one of this id has
abbrev pub is_reader : Transactions → DocName → ℕ → Bool
is_reader ts n i = reads_name ts.open n i

-- the reads of a read-write one
abbrev pub reads_of : Txn → Option (List Read)
reads_of t = if is_read_write t.kind then Some t.reads else None

-- those of the open one of this id
abbrev pub reads_in : ℕ → List Txn → Option (List Read)
reads_in id ts = option_and_then reads_of (txn_of id ts)

-- the bytes that one was shown
abbrev pub shown_to : Txn → ℕ
shown_to t = sum_by shown_size t.reads

abbrev pub shown_to_all : List Txn → ℕ
shown_to_all ts = sum_by shown_to ts

-- those that all open ones were shown (a read-only one notes no reads)
abbrev pub shown_bytes : Transactions → ℕ
shown_bytes ts = shown_to_all ts.open

-- ---- at which times they read

-- the earlier of two times, or the one that is there
abbrev pub earlier : Option ℤ → ℤ → ℤ
earlier None time = time
earlier (Some other) time = if int_lt other time then other else time

-- the least time
abbrev pub oldest : List Txn → Option ℤ
oldest [] = None
oldest (t ∷ ts) = Some (earlier (oldest ts) t.read_time)
