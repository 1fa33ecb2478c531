-- What a request waits for, and what a transaction is aborted for, are told just where they are there. A commit is aborted, with ABORTED, exactly
-- where its transaction is open, reads and writes, and is in conflict, while nothing else refuses or holds it. A request waits exactly where some other holds it.
-- Of several the least number is told.
--
--     1 and 2 are open, 1 has read c/a, and 3, pending, writes c/b
--     2 commits a write of c/a      it is aborted: in conflict with 1
--     2 commits a write of c/b      it waits for 3
--     2 commits a write of c/d      it is pending: neither
-- (Cloud Firestore documentation, "Transaction serializability and isolation"; v1 reference, `google.rpc.Code.ABORTED`.)
use Rattle.std.specs.Prelude.{◌≡◌, ◌↔◌, ℕ, ◌<◌, true, List, Option, Some, None, length}
use Rattle.fs_path.specs.declared.name.Root.{Root}
use Rattle.fs_request.specs.declared.request.Envelope.{Envelope}
use Rattle.fs_request.specs.declared.request.Request.{Request}
use Rattle.fs_request.specs.declared.request.Request.TheVariants.{Commit}
use Rattle.fs_status.specs.Refusal.{conflict_with}
use Rattle.fs_status.specs.declared.code.Code.TheVariants.{Aborted}
use Rattle.fs_status.specs.declared.refusal.Refusal.{Refusal}
use Rattle.fs_txn.specs.Transactions.{is_read_write, txn_of}
use Rattle.fs_txn.specs.declared.txn.Txn.{Txn}
use Rattle.fs_write.specs.declared.write.Write.{Write}
use Rattle.fs_machine.specs.Laws.{IsConflict, IsHolder, IsLeastOf}
use Rattle.fs_machine.specs.Request.{answered, arrival_refusal, arrived, check_refusal, retry_refusal}
use Rattle.fs_machine.specs.Retry.{tried_answer}
use Rattle.fs_machine.specs.State.{Machine}
use Rattle.fs_machine.specs.declared.answer.Answer.TheVariants.{Held, Refused}
use Rattle.fs_machine.specs.declared.parked_request.ParkedRequest.{ParkedRequest}

-- ---- aborted

-- it is the commit of an open read-write transaction, passes its limits, and waits for none; and this is the least with which it is in conflict
pub record IsAborted (m : Machine) (r : Request) (limits : Option Refusal) (with_id : ℕ) : Type 0 where
  pub database : Root
  pub writes : List Write
  pub transaction : ℕ
  pub asks : r ≡ Commit database writes (Some transaction)
  pub txn : Txn
  pub is_open : txn_of transaction m.txns.open ≡ Some txn
  pub read_write : is_read_write txn.kind ≡ true
  pub within : limits ≡ None
  pub free : IsLeastOf (IsHolder m r) None
  pub conflict : IsLeastOf (IsConflict m.config.mode m.past m.txns.open txn writes) (Some with_id)

-- a request that comes
abbrev pub AskedIsAborted : Machine → Type 0
AskedIsAborted m = (session : ℕ) (e : Envelope) (id : ℕ) → (answered m session e ≡ Refused (conflict_with id)) ↔ IsAborted m e.request (arrival_refusal m session e.request) id

-- and one that is tried again
abbrev pub RetriedIsAborted : Machine → Type 0
RetriedIsAborted m = (r : ParkedRequest) (id : ℕ) → (tried_answer m r ≡ Refused (conflict_with id)) ↔ IsAborted m r.envelope.request (retry_refusal m r.envelope.request) id

-- and no other answer is ABORTED
abbrev pub NamesItsConflict : Refusal → Type 0
NamesItsConflict refusal = refusal.code ≡ Aborted → (id : ℕ) × (refusal ≡ conflict_with id)

abbrev pub OnlyConflictsAbort : Machine → Type 0
OnlyConflictsAbort m = ((session : ℕ) (e : Envelope) (refusal : Refusal) → answered m session e ≡ Refused refusal → NamesItsConflict refusal)
    × ((r : ParkedRequest) (refusal : Refusal) → tried_answer m r ≡ Refused refusal → NamesItsConflict refusal)

abbrev pub AbortsNameTheirCause : Type 0
AbortsNameTheirCause = (m : Machine) → AskedIsAborted m × RetriedIsAborted m × OnlyConflictsAbort m

-- ---- made to wait

-- it passes its limits and is refused by no check, and this is the least that holds it
pub record IsMadeToWait (m : Machine) (session : ℕ) (r : Request) (limits : Option Refusal) (for_id : ℕ) : Type 0 where
  pub within : limits ≡ None
  pub passes : check_refusal m session r ≡ None
  pub holder : IsLeastOf (IsHolder m r) (Some for_id)

-- a request as it is carried out: the next batch of a stream is a commit
abbrev pub taken_request : Machine → ℕ → Envelope → Request
taken_request m session e = (arrived m session e).envelope.request

-- one that comes, where more may wait
abbrev pub AskedIsHeld : Machine → Type 0
AskedIsHeld m = (session : ℕ) (e : Envelope) (id : ℕ)
    → (answered m session e ≡ Held id) ↔ (IsMadeToWait m session (taken_request m session e) (arrival_refusal m session e.request) id × (length m.parked < m.limits.parked))

-- and one that is tried again, and waits on
abbrev pub RetriedIsHeld : Machine → Type 0
RetriedIsHeld m = (r : ParkedRequest) (id : ℕ) → (tried_answer m r ≡ Held id) ↔ IsMadeToWait m r.session r.envelope.request (retry_refusal m r.envelope.request) id

abbrev pub WaitsNameTheirCause : Type 0
WaitsNameTheirCause = (m : Machine) → AskedIsHeld m × RetriedIsHeld m
