-- A commit is carried out, which nothing holds. A plain one is pending from then on, one microsecond after the last time that was
-- issued. That of a read-write transaction ends it: it is pending too, with what the transaction had read, unless it is in conflict; then
-- it is aborted, and told the least of those that it is in conflict with. A read-only transaction ends without a commit: it is answered
-- with the time at which it read.
-- (v1 reference, "Commit"; Cloud Firestore documentation, "Transaction serializability and isolation".)
use Rattle.std.specs.Prelude.{ℕ, Bool, true, false, List, [], ◌∷◌, ◌++◌, Option, Some, None, length, nat_lt, codes, if◌then◌else◌}
use Rattle.std.specs.Option.{option_map_or}
use Rattle.fs_history.specs.declared.batch.Batch.{Batch}
use Rattle.fs_history.specs.declared.read.Read.{Read}
use Rattle.fs_request.specs.declared.message.Message.TheVariants as message
use Rattle.fs_status.specs.Refusal.{conflict_with, refusal_of}
use Rattle.fs_status.specs.declared.reason.Reason.TheVariants.{ReadOnly}
use Rattle.fs_status.specs.declared.refusal.Refusal.{Refusal}
use Rattle.fs_txn.specs.Transactions.{is_read_write, txn_of}
use Rattle.fs_txn.specs.declared.txn.Txn.{Txn}
use Rattle.fs_write.specs.declared.write.Write.{Write}
use Rattle.fs_machine.specs.Conflict.{conflict}
use Rattle.fs_machine.specs.Past.{Past}
use Rattle.fs_machine.specs.Refusing.{ids_refusal, next_time, outbox_refusal, passed, room_refusal, time_limit_refusal}
use Rattle.fs_machine.specs.State.{Machine}
use Rattle.fs_machine.specs.Transact.{closed_refusal, reads_had, with_ended}
use Rattle.fs_machine.specs.declared.answer.Answer.{Answer}
use Rattle.fs_machine.specs.declared.answer.Answer.TheVariants.{Reply, Prepared, Refused}
use Rattle.fs_machine.specs.declared.asker.Asker.{Asker}
use Rattle.fs_machine.specs.declared.asker.Asker.TheVariants.{Session, Stream}
use Rattle.fs_machine.specs.declared.parked_request.ParkedRequest.{ParkedRequest}
use Rattle.fs_machine.specs.declared.unreleased.Unreleased.{Unreleased}

-- ---- the commit

-- the batch that it is to be
abbrev pub next_batch : Past → ℕ → List Write → List Read → Batch
next_batch p id writes reads = record { time = next_time p; id = id; writes = writes; reads = reads }

-- whom it is answered: the session that asks for it, or the stream whose batch it is
abbrev pub asker_by : ParkedRequest → Option ℕ → Asker
asker_by r None = Session r.session r.envelope.id
asker_by r (Some n) = Stream n

-- that of a number, of a request which asks for these writes, and whose transaction made these reads
abbrev pub next_commit : Past → ℕ → ParkedRequest → List Write → List Read → Unreleased
next_commit p id r writes reads = record { batch = next_batch p id writes reads; asker = asker_by r r.stream; results = None }

abbrev pub past_prepared : Past → Unreleased → Past
past_prepared p u = record p { unreleased = p.unreleased ++ u ∷ []; last = u.batch.time }

abbrev pub prepared : Machine → Unreleased → Machine
prepared m u = record m { past = past_prepared m.past u }

-- ---- limits

-- it is of an open transaction that only reads, and adds nothing to what was committed
abbrev pub only_reads : Machine → Option ℕ → Bool
only_reads m None = false
only_reads m (Some id) = option_map_or (λ t. if is_read_write t.kind then false else true) (txn_of id m.txns.open) false

-- one that draws a number is tested for it
abbrev pub number_refusal : Machine → Option ℕ → Option Refusal → Option Refusal
number_refusal m None others = ids_refusal m others
number_refusal m (Some id) others = others

abbrev pub growth_refusal : Machine → List Write → Option ℕ → Option Refusal → Option Refusal
growth_refusal m writes transaction others = if only_reads m transaction then None else room_refusal m writes (reads_had m.txns transaction) others

-- at its arrival
abbrev pub commit_refusal : Machine → ℕ → List Write → Option ℕ → Option Refusal
commit_refusal m session writes transaction =
    passed (nat_lt m.limits.writes (length writes)) (codes "writes") m.limits.writes
    (outbox_refusal m session (growth_refusal m writes transaction (number_refusal m transaction (time_limit_refusal m))))

-- as it is tried again
abbrev pub commit_retry_refusal : Machine → List Write → Option ℕ → Option Refusal
commit_retry_refusal m writes transaction = growth_refusal m writes transaction (time_limit_refusal m)

-- ---- its transaction

abbrev pub writing_refusal : List Write → ℕ → Bool → Option Refusal
writing_refusal [] id reads = None
writing_refusal (w ∷ ws) id reads = if reads then Some (refusal_of (ReadOnly id)) else None

abbrev pub unless_closed : Option Refusal → Option Refusal → Option Refusal
unless_closed (Some refusal) others = Some refusal
unless_closed None others = others

-- one that isn't open, or that only reads and is to write
abbrev pub author_refusal : Machine → List Write → Option ℕ → Option Refusal
author_refusal m writes None = None
author_refusal m writes (Some id) = unless_closed (closed_refusal m.txns id) (writing_refusal writes id (only_reads m (Some id)))

-- ---- what becomes of it

-- of a read-write transaction, by what it is in conflict with
abbrev pub committed_unless : Machine → ParkedRequest → List Write → Txn → Option ℕ → Machine
committed_unless m r writes t (Some other) = with_ended m t.id
committed_unless m r writes t None = prepared (with_ended m t.id) (next_commit m.past t.id r writes t.reads)

abbrev pub committed_in : Machine → ParkedRequest → List Write → Option Txn → Machine
committed_in m r writes None = m
committed_in m r writes (Some t) =
    if is_read_write t.kind then committed_unless m r writes t (conflict m.config.mode m.past m.txns.open t writes) else with_ended m t.id

abbrev pub committed : Machine → ParkedRequest → List Write → Option ℕ → Machine
committed m r writes None = prepared m (next_commit m.past r.id r writes [])
committed m r writes (Some id) = committed_in m r writes (txn_of id m.txns.open)

-- and what it is answered
abbrev pub committed_answer_unless : Machine → Txn → Option ℕ → Answer
committed_answer_unless m t (Some other) = Refused (conflict_with other)
committed_answer_unless m t None = Prepared t.id (next_time m.past)

abbrev pub committed_answer_in : Machine → ParkedRequest → List Write → Option Txn → Answer
committed_answer_in m r writes None = Prepared r.id (next_time m.past)
committed_answer_in m r writes (Some t) =
    if is_read_write t.kind then committed_answer_unless m t (conflict m.config.mode m.past m.txns.open t writes)
    else Reply (message.Commit r.envelope.id t.read_time [])

abbrev pub committed_answer : Machine → ParkedRequest → List Write → Option ℕ → Answer
committed_answer m r writes None = Prepared r.id (next_time m.past)
committed_answer m r writes (Some id) = committed_answer_in m r writes (txn_of id m.txns.open)
