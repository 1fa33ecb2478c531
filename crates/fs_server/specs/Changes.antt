-- Only private clauses cite this: what a request changes that is carried out.
use Rattle.std.specs.Prelude.{◌≡◌, ℕ, ◌+◌, ◌<◌, ◌≤◌, ◌^◌, ℤ, ⊤, IsNone, IsSome, List, Option, None, Some, sum_by}
use Rattle.fs_history.specs.Bytes.{batch_size, shown_size}
use Rattle.fs_history.specs.declared.read.Read.{Read}
use Rattle.fs_request.specs.declared.request.Envelope.{Envelope}
use Rattle.fs_request.specs.declared.request.Request.{Request}
use Rattle.fs_request.specs.declared.request.Request.TheVariants as request
use Rattle.fs_txn.specs.Reading.{shown_bytes}
use Rattle.fs_write.specs.declared.write.Write.{Write}
use Rattle.fs_txn.specs.Transactions.{IsNew, Transactions, all_noted, begun, ended, txn_of}
use Rattle.fs_machine.specs.Behind.{behind}
use Rattle.fs_machine.specs.Commit.{next_batch, past_prepared}
use Rattle.fs_machine.specs.IdsAreDrawn.{times_in}
use Rattle.fs_machine.specs.Limits.{greatest}
use Rattle.fs_machine.specs.Past.{Past, batches}
use Rattle.fs_machine.specs.ReadsHold.{MayRead}
use Rattle.fs_machine.specs.Refusing.{journal_size, next_time}
use Rattle.fs_machine.specs.Request.{check_refusal, retry_refusal}
use Rattle.fs_machine.specs.State.{Machine}
use Rattle.fs_machine.specs.declared.answer.Answer.{Answer}
use Rattle.fs_machine.specs.declared.asker.Asker.{Asker}
use Rattle.fs_machine.specs.declared.parked_request.ParkedRequest.{ParkedRequest}
use Rattle.fs_machine.specs.declared.unreleased.Unreleased.{Unreleased}
use Rattle.fs_server.specs.Noted.{noted_reads}
use Rattle.fs_server.specs.declared.changes.Change.{Change}
use Rattle.fs_server.specs.declared.changes.Change.TheVariants.{Nothing, Prepares, Commits, Ends, Begins, Notes}

-- ---- what becomes of what was committed, and of the transactions

abbrev pub past_changed : Past → Change → Past
past_changed p Nothing = p
past_changed p (Prepares u) = past_prepared p u
past_changed p (Commits u) = past_prepared p u
past_changed p (Ends id) = p
past_changed p (Begins id kind time) = p
past_changed p (Notes id reads) = p

-- at a moment
abbrev pub txns_changed : Transactions → ℤ → Change → Transactions
txns_changed ts now Nothing = ts
txns_changed ts now (Prepares u) = ts
txns_changed ts now (Commits u) = ended ts u.batch.id
txns_changed ts now (Ends id) = ended ts id
txns_changed ts now (Begins id kind time) = begun ts id kind time now
txns_changed ts now (Notes id reads) = all_noted ts id reads now

abbrev pub changed : Machine → Change → Machine
changed m c = record m { past = past_changed m.past c; txns = txns_changed m.txns m.past.moment c }

-- ---- which changes may be made

pub record MayPrepare (p : Past) (u : Unreleased) : Type 0 where
  pub pending : IsNone u.results
  pub time : u.batch.time ≡ next_time p
  pub fresh : times_in u.batch.id (batches p.unreleased) ≡ 0
  pub free : behind p u.batch.writes ≡ None
  pub reads : MayRead p u.batch.reads
  pub room : journal_size p + batch_size u.batch ≤ greatest.journal

abbrev pub MayChange : Past → Transactions → Change → Type 0
MayChange p ts Nothing = ⊤
MayChange p ts (Prepares u) = MayPrepare p u
MayChange p ts (Commits u) = MayPrepare p u
MayChange p ts (Ends id) = ⊤
MayChange p ts (Begins id kind time) = IsNew id ts
MayChange p ts (Notes id reads) = IsSome (txn_of id ts.open) × (shown_bytes ts + sum_by shown_size reads < 2 ^ 128)

-- ---- what is carried out

-- a request with its number, and the stream that took it
abbrev pub asking : ℕ → ℕ → Option ℕ → Envelope → ParkedRequest
asking session id stream e = record { session = session; id = id; stream = stream; envelope = e }

-- the commit of a number at the next time, by whom it is answered
abbrev pub commit_for : Past → ℕ → Asker → List Write → List Read → Unreleased
commit_for p id asker writes reads = record { batch = next_batch p id writes reads; asker = asker; results = None }

-- this is answered, and this change leads there
pub record Does (m : Machine) (answer : Answer) (after : Machine) (did : Answer × Change) : Type 0 where
  pub told : did.0 ≡ answer
  pub state : changed m did.1 ≡ after
  pub may : MayChange m.past m.txns did.1

-- nothing stands in a request's way: no limit, no transaction that isn't open, and these reads are noted of it
pub record IsClear (m : Machine) (session : ℕ) (q : Request) (rs : List Read) : Type 0 where
  pub limits : retry_refusal m q ≡ None
  pub check : check_refusal m session q ≡ None
  pub reads : rs ≡ noted_reads m q

-- its number is nobody's
abbrev pub IsFresh : Machine → ℕ → Request → Type 0
IsFresh m id (request.Commit database writes None) = times_in id (batches m.past.unreleased) ≡ 0
IsFresh m id (request.Commit database writes (Some transaction)) = ⊤
IsFresh m id (request.GetDocument name mask when) = ⊤
IsFresh m id (request.BatchGetDocuments database names mask when) = ⊤
IsFresh m id (request.RunQuery database query when) = ⊤
IsFresh m id (request.BeginTransaction database options) = IsNew id m.txns
IsFresh m id (request.Rollback database transaction) = ⊤
IsFresh m id (request.AddTarget database target t token) = ⊤
IsFresh m id (request.RemoveTarget database target) = ⊤
IsFresh m id (request.Write database asked) = ⊤
