-- A pending commit is settled: its writes are carried out on what the commits before it leave. If one of them is refused, the
-- commit is dropped, its time is used up, and the refusal is its reply; a stream's batch is finished so. Else it is accepted. Then what can be
-- is released.
use Rattle.std.specs.Prelude.{◌≡◌, ℕ, ℤ, Bool, not, ◌&&◌, ◌==◌, int_lt, List, [], ◌∷◌, Option, Some, None, Result, Ok, Err, if◌then◌else◌}
use Rattle.std.specs.List.{filter, AllByRecursion}
use Rattle.fs_request.specs.Refused.{refused}
use Rattle.fs_status.specs.declared.refusal.Refusal.{Refusal}
use Rattle.fs_write.specs.Batch.{Docs, batch, IsNamed, IsOutcome}
use Rattle.fs_write.specs.declared.write_result.WriteResult.{WriteResult}
use Rattle.fs_write.specs.declared.write.Write.{Write}
use Rattle.fs_history.specs.History.{whole}
use Rattle.fs_machine.specs.declared.answer.Outcome.{Outcome}
use Rattle.fs_machine.specs.declared.answer.Outcome.TheVariants as outcome
use Rattle.fs_machine.specs.declared.answer.Settled.{Settled}
use Rattle.fs_machine.specs.declared.asker.Asker.{Asker}
use Rattle.fs_machine.specs.declared.asker.Asker.TheVariants.{Session, Stream}
use Rattle.fs_machine.specs.declared.answer.Settled.TheVariants.{Released, Waiting, Dropped, Memory}
use Rattle.fs_machine.specs.Past.{Past, is_pending}
use Rattle.fs_machine.specs.declared.unreleased.Unreleased.{Unreleased}
use Rattle.fs_machine.specs.Release.{joined, released}
use Rattle.fs_machine.specs.Sessions.{delivered}
use Rattle.fs_machine.specs.State.{Machine}
use Rattle.fs_machine.specs.Stream.{Desk, batch_refused, desk_of, with_desk}

-- it is the pending commit of a number
abbrev pub is_it : ℕ → Unreleased → Bool
is_it id u = u.batch.id == id && is_pending u

abbrev pub pending_in : ℕ → List Unreleased → Option Unreleased
pending_in id [] = None
pending_in id (u ∷ us) = if is_it id u then Some u else pending_in id us

abbrev pub pending_of : Past → ℕ → Option Unreleased
pending_of p id = pending_in id p.unreleased

-- ---- what its writes come to

-- accepted before a time
abbrev pub is_before : ℤ → Unreleased → Bool
is_before time u = not (is_pending u) && int_lt u.batch.time time

-- the documents that its writes are carried out on
abbrev pub docs_for : Past → Unreleased → Docs
docs_for p u = whole (joined p.history (filter (is_before u.batch.time) p.unreleased))

abbrev pub outcome_of : Past → Unreleased → Result (Docs × List WriteResult) Refusal
outcome_of p u = batch (docs_for p u) u.batch.writes u.batch.time

-- that writes come to this on these documents
abbrev pub IsOutcomeOn : Docs → List Write → ℤ → Outcome → Type 0
IsOutcomeOn docs writes time (outcome.Effects changes results) = IsOutcome docs writes time changes results × AllByRecursion IsNamed changes
IsOutcomeOn docs writes time (outcome.Refused refusal) = batch docs writes time ≡ Err refusal

-- that those of a commit do
abbrev pub IsOutcomeOf : Past → Unreleased → Outcome → Type 0
IsOutcomeOf p u o = IsOutcomeOn (docs_for p u) u.batch.writes u.batch.time o

-- of the pending commit of a number
abbrev pub IsOutcomeOfPending : Past → Option Unreleased → Outcome → Type 0
IsOutcomeOfPending p (Some u) o = IsOutcomeOf p u o
IsOutcomeOfPending p None o = ⊥

abbrev pub ComesTo : Past → ℕ → Outcome → Type 0
ComesTo p id o = IsOutcomeOfPending p (pending_of p id) o

-- ---- accepting and dropping

-- with these results at the pending commit of a number
abbrev pub accepted_in : ℕ → List WriteResult → List Unreleased → List Unreleased
accepted_in id results [] = []
accepted_in id results (u ∷ us) = if is_it id u then record u { results = Some results } ∷ us else u ∷ accepted_in id results us

-- without it
abbrev pub dropped_from : ℕ → List Unreleased → List Unreleased
dropped_from id [] = []
dropped_from id (u ∷ us) = if is_it id u then us else u ∷ dropped_from id us

abbrev pub past_decided : Past → Unreleased → Result (Docs × List WriteResult) Refusal → Past
past_decided p u (Ok done) = record p { unreleased = accepted_in u.batch.id done.1 p.unreleased }
past_decided p u (Err refusal) = record p { unreleased = dropped_from u.batch.id p.unreleased }

-- the session that asked is told a refusal, or its stream has finished the batch
abbrev pub refused_to : Asker → Refusal → Desk → Desk
refused_to (Session session request) refusal d = (d.0, delivered session (refused request refusal) d.1)
refused_to (Stream n) refusal d = batch_refused n refusal d

abbrev pub decided_with : Machine → Unreleased → Result (Docs × List WriteResult) Refusal → Machine
decided_with m u (Ok done) = record m { past = past_decided m.past u (Ok done) }
decided_with m u (Err refusal) = with_desk (record m { past = past_decided m.past u (Err refusal) }) (refused_to u.asker refusal (desk_of m))

abbrev pub decided_if : Machine → Option Unreleased → Machine
decided_if m None = m
decided_if m (Some u) = decided_with m u (outcome_of m.past u)

-- ---- the event

-- the commit of a number is accepted or dropped; a number that isn't pending changes nothing
abbrev pub decided : Machine → ℕ → Machine
decided m id = decided_if m (pending_of m.past id)

abbrev pub settled : Machine → ℕ → Machine
settled m id = released (decided m id)

-- what has become of the commit
abbrev pub settled_as : Past → Unreleased → Result (Docs × List WriteResult) Refusal → Settled
settled_as after u (Ok done) = if int_lt after.released u.batch.time then Waiting u.batch.time else Released u.batch.time
settled_as after u (Err refusal) = Dropped

abbrev pub settled_answer_if : Machine → ℕ → Option Unreleased → Settled
settled_answer_if m id None = Dropped
settled_answer_if m id (Some u) = settled_as (settled m id).past u (outcome_of m.past u)

abbrev pub settled_answer : Machine → ℕ → Settled
settled_answer m id = settled_answer_if m id (pending_of m.past id)

-- the time of a pending commit
abbrev pub HasTime : Option Unreleased → ℤ → Type 0
HasTime (Some u) time = u.batch.time ≡ time
HasTime None time = ⊥

-- what a settling answers, and the state afterwards
abbrev pub Settles : Machine → Machine → ℕ → Settled → Type 0
Settles old new id (Released time) = (new ≡ settled old id) × (Released time ≡ settled_answer old id)
Settles old new id (Waiting time) = (new ≡ settled old id) × (Waiting time ≡ settled_answer old id)
Settles old new id Dropped = (new ≡ settled old id) × (Dropped ≡ settled_answer old id)
Settles old new id (Memory (Some time)) = (new ≡ decided old id) × HasTime (pending_of old.past id) time
Settles old new id (Memory None) = new ≡ old
