-- The limits that a request would pass, the first of several in their order. (This project's own.)
use Rattle.std.specs.Prelude.{ℕ, ℤ, pos, ◌+ℤ◌, ◌+◌, Bool, List, Option, Some, None, length, nat_lt, nat_le, int_lt, sum_by, codes, if◌then◌else◌}
use Rattle.fs_history.specs.Bytes.{batch_size, commit_size, history_size, shown_size}
use Rattle.fs_history.specs.declared.read.Read.{Read}
use Rattle.fs_status.specs.Refusal.{at_limit}
use Rattle.fs_status.specs.declared.refusal.Refusal.{Refusal}
use Rattle.fs_txn.specs.Reading.{shown_bytes}
use Rattle.fs_write.specs.declared.write.Write.{Write}
use Rattle.fs_machine.specs.Outbox.{outbox_of}
use Rattle.fs_machine.specs.Past.{Past}
use Rattle.fs_machine.specs.State.{Machine}

-- a limit that would be passed, or not; by its name, and the number that it allows
abbrev pub passed : Bool → List ℕ → ℕ → Option Refusal → Option Refusal
passed over name number others = if over then Some (at_limit name number) else others

-- ---- messages that a session was not sent yet

-- so many messages wait for a session that it may ask nothing
abbrev pub outbox_is_full : Machine → ℕ → Bool
outbox_is_full m session = nat_le m.limits.outbox (length (outbox_of m session))

abbrev pub outbox_refusal : Machine → ℕ → Option Refusal → Option Refusal
outbox_refusal m session others = passed (outbox_is_full m session) (codes "outbox") m.limits.outbox others

-- ---- what was committed

-- what the history and the commits behind it count, in bytes
abbrev pub journal_size : Past → ℕ
journal_size p = history_size p.history + sum_by (λ u. batch_size u.batch) p.unreleased

-- how many there are
abbrev pub journal_count : Past → ℕ
journal_count p = length p.history + length p.unreleased

-- a commit of these writes, whose transaction made these reads
abbrev pub room_refusal : Machine → List Write → List Read → Option Refusal → Option Refusal
room_refusal m writes reads others =
    passed (nat_le m.limits.batches (journal_count m.past)) (codes "batches") m.limits.batches
    (passed (nat_lt m.limits.journal (journal_size m.past + commit_size writes reads)) (codes "journal") m.limits.journal others)

-- ---- what transactions were shown

-- reads in an open read-write transaction
abbrev pub reads_refusal : Machine → List Read → Option Refusal
reads_refusal m reads = passed (nat_lt m.limits.reads (shown_bytes m.txns + sum_by shown_size reads)) (codes "reads") m.limits.reads None

-- ---- numbers and times

abbrev pub ids_refusal : Machine → Option Refusal → Option Refusal
ids_refusal m others = passed (nat_le m.limits.ids m.numbers.ids) (codes "ids") m.limits.ids others

-- the time of the next commit
abbrev pub next_time : Past → ℤ
next_time p = p.last +ℤ pos 1

abbrev pub time_limit_refusal : Machine → Option Refusal
time_limit_refusal m = passed (int_lt (pos m.limits.time) (next_time m.past)) (codes "time") m.limits.time None
