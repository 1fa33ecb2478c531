-- Transactions begin and end, and what they read is noted. One that isn't open may be asked nothing.
--
--     begin, which draws 2       2 is open, and reads at the released time
--     2 reads c/a                2 has read c/a
--     rollback of 2              2 isn't open: what names it is refused
-- (v1 reference, "BeginTransaction", "Rollback", `TransactionOptions`.)
use Rattle.std.specs.Prelude.{ℕ, ℤ, List, [], Option, Some, None, unwrap_or}
use Rattle.fs_history.specs.declared.read.Read.{Read}
use Rattle.fs_request.specs.declared.options.TransactionOptions.{TransactionOptions}
use Rattle.fs_request.specs.declared.options.TransactionOptions.TheVariants as options
use Rattle.fs_status.specs.Refusal.{refusal_of}
use Rattle.fs_status.specs.declared.reason.Reason.TheVariants.{NotOpen, Expired}
use Rattle.fs_status.specs.declared.refusal.Refusal.{Refusal}
use Rattle.fs_txn.specs.Reading.{reads_in}
use Rattle.fs_txn.specs.Transactions.{Transactions, all_noted, begun, ended, expired_of, txn_of}
use Rattle.fs_txn.specs.declared.expired.Expired.{Expired as Gone}
use Rattle.fs_txn.specs.declared.kind.Kind.{Kind}
use Rattle.fs_txn.specs.declared.kind.Kind.TheVariants.{ReadWrite, ReadOnly}
use Rattle.fs_txn.specs.declared.txn.Txn.{Txn}
use Rattle.fs_machine.specs.Past.{Past}
use Rattle.fs_machine.specs.State.{Machine}
use Rattle.fs_machine.specs.declared.config.Mode.{Mode}
use Rattle.fs_machine.specs.declared.config.Mode.TheVariants.{Pessimistic, Optimistic}

-- ---- whether one is open

-- the one that expired, or that never was open or is forgotten
abbrev pub gone_refusal : ℕ → Option Gone → Refusal
gone_refusal id (Some e) = refusal_of (Expired id e.since e.now)
gone_refusal id None = refusal_of (NotOpen id)

abbrev pub refusal_unless : ℕ → Option Gone → Option Txn → Option Refusal
refusal_unless id ended (Some t) = None
refusal_unless id ended None = Some (gone_refusal id ended)

-- why the one of a number may be asked nothing
abbrev pub closed_refusal : Transactions → ℕ → Option Refusal
closed_refusal ts id = refusal_unless id (expired_of id ts.expired) (txn_of id ts.open)

-- ---- at which time one reads

-- in pessimistic mode a read-write one reads what is released, which is held; else it reads at its own time
abbrev pub time_of_kind : Mode → Past → Kind → ℤ → ℤ
time_of_kind Pessimistic p ReadWrite own = p.released
time_of_kind Pessimistic p ReadOnly own = own
time_of_kind Optimistic p kind own = own

abbrev pub time_in : Mode → Past → Txn → ℤ
time_in mode p t = time_of_kind mode p t.kind t.read_time

-- ---- what one has read

abbrev pub reads_had : Transactions → Option ℕ → List Read
reads_had ts (Some id) = unwrap_or (reads_in id ts.open) []
reads_had ts None = []

-- ---- beginning and ending

abbrev pub kind_of : TransactionOptions → Kind
kind_of options.ReadWrite = ReadWrite
kind_of (options.ReadOnly time) = ReadOnly

-- the time that is asked for
abbrev pub time_asked : TransactionOptions → Option ℤ
time_asked options.ReadWrite = None
time_asked (options.ReadOnly time) = time

-- one begins, at the moment of the last tick: it reads at the time that is asked for, or at the released one
abbrev pub with_begun : Machine → ℕ → TransactionOptions → Machine
with_begun m id o = record m { txns = begun m.txns id (kind_of o) (unwrap_or (time_asked o) m.past.released) m.past.moment }

-- one is open no more
abbrev pub with_ended : Machine → ℕ → Machine
with_ended m id = record m { txns = ended m.txns id }

-- one has made these reads, at the moment of the last tick
abbrev pub with_reads : Machine → ℕ → List Read → Machine
with_reads m id rs = record m { txns = all_noted m.txns id rs m.past.moment }
