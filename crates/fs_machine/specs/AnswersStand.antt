-- What a commit was answered is right for good: its results, or why it was refused, are what its writes come to on the documents just before its
-- time, in every later state. Those documents may be others then: commits that were still pending may have come in before it. But they
-- write other names.
--
--     c/a is {n: 1}          6, pending, writes c/b        7 increments n of c/a
--     7 is settled first     its result is 2, on the documents just before 7
--     6 is settled later     c/b is one of those documents then, and the result on them is still 2
-- (Cloud Firestore documentation, "Transaction serializability and isolation".)
use Rattle.std.specs.Prelude.{◌≡◌, ℕ, ℤ, List, [], Some, Ok, Err, slice_get}
use Rattle.std.specs.List.{AllByRecursion, Contains}
use Rattle.fs_history.specs.History.{before}
use Rattle.fs_history.specs.declared.batch.Batch.{Batch}
use Rattle.fs_request.specs.declared.request.Envelope.{Envelope}
use Rattle.fs_request.specs.declared.request.Request.{Request}
use Rattle.fs_request.specs.declared.request.Request.TheVariants as request
use Rattle.fs_request.specs.declared.stream_request.StreamRequest.{StreamRequest}
use Rattle.fs_request.specs.declared.stream_request.StreamRequest.TheVariants as given
use Rattle.fs_status.specs.declared.refusal.Refusal.{Refusal}
use Rattle.fs_write.specs.Batch.{Docs, batch}
use Rattle.fs_write.specs.declared.write.Write.{Write}
use Rattle.fs_write.specs.declared.write_result.WriteResult.{WriteResult}
use Rattle.fs_machine.specs.Event.{Event, after}
use Rattle.fs_machine.specs.Facts.{Facts}
use Rattle.fs_machine.specs.Laws.{let_out_in}
use Rattle.fs_machine.specs.Past.{Past}
use Rattle.fs_machine.specs.Request.{answered, asked}
use Rattle.fs_machine.specs.Retry.{retried, tried_answer}
use Rattle.fs_machine.specs.Settle.{decided, outcome_of, pending_of}
use Rattle.fs_machine.specs.State.{Machine}
use Rattle.fs_machine.specs.declared.answer.Answer.TheVariants.{Prepared}
use Rattle.fs_machine.specs.declared.parked_request.ParkedRequest.{ParkedRequest}
use Rattle.fs_machine.specs.declared.unreleased.Unreleased.{Unreleased}

-- the commit is in the history, and the results with which it is answered are those of its writes on the documents just before its time
pub record IsRightIn (h : List Batch) (u : Unreleased) : Type 0 where
  pub there : Contains h u.batch
  pub results : List WriteResult
  pub given : u.results ≡ Some results
  pub after : Docs
  pub come : batch (before h u.batch.time) u.batch.writes u.batch.time ≡ Ok (after, results)

-- one that is let out by some events, after more of them
abbrev pub ResultsStand : Type 0
ResultsStand = (m : Machine) (events more : List Event) (u : Unreleased) → Facts m → Contains (let_out_in m events) u → IsRightIn (after (after m events) more).past.history u

-- one that is refused as it is settled
abbrev pub RefusalsStand : Type 0
RefusalsStand = (m : Machine) (id : ℕ) (u : Unreleased) (refusal : Refusal) (events : List Event) → Facts m → pending_of m.past id ≡ Some u → outcome_of m.past u ≡ Err refusal
    → batch (before (after (decided m id) events).past.history u.batch.time) u.batch.writes u.batch.time ≡ Err refusal

-- ---- a commit is pending

-- the writes of a commit, or of a batch that a stream is given
abbrev pub batch_in : StreamRequest → List Write
batch_in (given.Batch token writes) = writes
batch_in _ = []

abbrev pub writes_in : Request → List Write
writes_in (request.Commit database writes transaction) = writes
writes_in (request.Write database asked) = batch_in asked
writes_in _ = []

-- the pending commit of a number has this time and these writes
pub record IsPendingIn (p : Past) (number : ℕ) (at : ℤ) (ws : List Write) : Type 0 where
  pub commit : Unreleased
  pub found : pending_of p number ≡ Some commit
  pub time : commit.batch.time ≡ at
  pub writes : commit.batch.writes ≡ ws

-- a request that is answered by a number and a time has left the pending commit of that number and time, with its writes
abbrev pub AskedIsPending : Machine → Type 0
AskedIsPending m = (session : ℕ) (e : Envelope) (id : ℕ) (time : ℤ) → answered m session e ≡ Prepared id time
    → IsPendingIn (asked m session e).past id time (writes_in e.request)

-- so has one that waited
abbrev pub RetriedIsPending : Machine → Type 0
RetriedIsPending m = (place : ℕ) (r : ParkedRequest) (id : ℕ) (time : ℤ) → slice_get m.parked place ≡ Some r → tried_answer m r ≡ Prepared id time
    → IsPendingIn (retried m place).past id time (writes_in r.envelope.request)

-- and it stays that, whatever else comes, until it is settled
abbrev pub StaysPending : Machine → Type 0
StaysPending m = (id : ℕ) (u : Unreleased) (events : List Event) → pending_of m.past id ≡ Some u → AllByRecursion (λ e. e ≡ Event.deciding id → ⊥) events
    → pending_of (after m events).past id ≡ Some u

abbrev pub PreparedStands : Type 0
PreparedStands = (m : Machine) → Facts m → AskedIsPending m × RetriedIsPending m × StaysPending m
