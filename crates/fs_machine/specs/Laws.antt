-- What holds of every run of a server.
use Rattle.std.specs.Prelude.{◌≡◌, ℕ, ◌≤◌, ◌==◌, ◌&&◌, ℤ, ◌≤ℤ◌, int_lt, true, false, ⊤, ◌⊎◌, IsTrue, IsOk, IsSome, IsPermutation, List, [], ◌∷◌, ◌++◌, Option, Some, None, Err, slice_get}
use Rattle.std.specs.List.{AllByRecursion, list_any}
use Rattle.fs_history.specs.History.{at}
use Rattle.fs_history.specs.Serial.{IsSerial}
use Rattle.fs_history.specs.Touches.{some_touched}
use Rattle.fs_history.specs.declared.read.Read.{Read}
use Rattle.fs_request.specs.declared.message.Message.TheVariants as message
use Rattle.fs_request.specs.declared.request.Request.{Request}
use Rattle.fs_request.specs.declared.request.Request.TheVariants.{Commit, GetDocument, BatchGetDocuments, RunQuery, BeginTransaction, Rollback, AddTarget, RemoveTarget}
use Rattle.fs_request.specs.declared.request.Request.TheVariants as request
use Rattle.fs_request.specs.declared.when.When.{When}
use Rattle.fs_txn.specs.Transactions.{is_read_write, txn_of}
use Rattle.fs_txn.specs.declared.txn.Txn.{Txn}
use Rattle.fs_status.specs.declared.refusal.Refusal.{Refusal}
use Rattle.fs_write.specs.declared.write.Write.{Write}
use Rattle.fs_machine.specs.declared.answer.Answer.TheVariants.{Reply}
use Rattle.fs_machine.specs.declared.config.Config.{Config}
use Rattle.fs_machine.specs.declared.config.Mode.{Mode}
use Rattle.fs_machine.specs.declared.config.Mode.TheVariants.{Pessimistic, Optimistic}
use Rattle.fs_machine.specs.declared.limits.Limits.{Limits}
use Rattle.fs_machine.specs.declared.parked_request.ParkedRequest.{ParkedRequest}
use Rattle.fs_machine.specs.declared.unreleased.Unreleased.{Unreleased}
use Rattle.fs_machine.specs.declared.answer.Outcome.{Outcome}
use Rattle.fs_machine.specs.Behind.{write_same}
use Rattle.fs_machine.specs.Commit.{committed_answer, only_reads}
use Rattle.fs_machine.specs.Conflict.{conflict, is_reader, others}
use Rattle.fs_machine.specs.Event.{Event, after, step}
use Rattle.fs_machine.specs.Facts.{Facts}
use Rattle.fs_machine.specs.Grows.{Grows}
use Rattle.fs_machine.specs.IdsAreDrawn.{times_in}
use Rattle.fs_machine.specs.Numbered.{transaction_in}
use Rattle.fs_machine.specs.Past.{Past, batches}
use Rattle.fs_machine.specs.Read.{is_noted, shown_at}
use Rattle.fs_machine.specs.Release.{joined, let_out}
use Rattle.fs_machine.specs.Request.{Decision, arrives, check_refusal, decision, held_by, unless_full}
use Rattle.fs_machine.specs.Retry.{retried, retry_decision, unparked}
use Rattle.fs_machine.specs.Settle.{ComesTo, decided, outcome_of, pending_of, settled}
use Rattle.fs_machine.specs.State.{Machine, started}

-- whatever events come, from the start on, what stands at every moment stands
abbrev pub AlwaysKept : Type 0
AlwaysKept = (config : Config) (limits : Limits) (start : ℤ) (events : List Event) → Facts (after (started config limits start) events)

-- and the history goes on from what was there
abbrev pub AlwaysGrows : Type 0
AlwaysGrows = (m : Machine) (events : List Event) → Facts m → Grows m.past (after m events).past

-- so the documents of a time that was released are the same ever after
abbrev pub DocumentsStay : Type 0
DocumentsStay = (old new : Past) (t : ℤ) → Grows old new → t ≤ℤ old.released → at new.history t ≡ at old.history t

-- ---- settling, in any order

-- what was computed for a pending commit stays right while others come, are settled and are released, as long as it is pending: so
-- it may be settled with that in any order
abbrev pub OutcomesStay : Type 0
OutcomesStay = (m : Machine) (e : Event) (id : ℕ) (o : Outcome) → Facts m → ComesTo m.past id o → IsSome (pending_of (step m e).past id) → ComesTo (step m e).past id o

-- some commits are settled, the first of them first; at a number that isn't pending, or no more, none is accepted or dropped
abbrev pub all_settled : Machine → List ℕ → Machine
all_settled m [] = m
all_settled m (id ∷ ids) = all_settled (settled m id) ids

-- in whatever order they are settled, the same is left of what was committed
abbrev pub SettledInAnyOrder : Type 0
SettledInAnyOrder = (m : Machine) (ids other : List ℕ) → Facts m → IsPermutation ids other → (all_settled m ids).past ≡ (all_settled m other).past

-- the writes of the pending commit of a number aren't refused, if there is one
abbrev pub IsntRefused : Past → Option Unreleased → Type 0
IsntRefused p None = ⊤
IsntRefused p (Some u) = IsOk (outcome_of p u)

-- nor are those of any of these numbers
abbrev pub NoneRefused : Past → List ℕ → Type 0
NoneRefused p ids = AllByRecursion (λ id. IsntRefused p (pending_of p id)) ids

-- and the same replies are given in the same order, if none is refused
abbrev pub SameRepliesInAnyOrder : Type 0
SameRepliesInAnyOrder = (m : Machine) (ids other : List ℕ) → Facts m → IsPermutation ids other → NoneRefused m.past ids → all_settled m ids ≡ all_settled m other

-- ---- what waits

-- the least number of those that hold, or none where there is none
abbrev pub IsLeastOf : (ℕ → Type 0) → Option ℕ → Type 0
IsLeastOf P None = (id : ℕ) → ¬ P id
IsLeastOf P (Some id) = P id × ((other : ℕ) → P other → id ≤ other)

-- a commit that isn't released has this number, and writes a name that these writes write
abbrev pub IsWriter : Past → List Write → ℕ → Type 0
IsWriter p ws id = IsTrue (list_any (λ u. u.batch.id == id && write_same ws u.batch.writes) p.unreleased)

-- one has it, and touches one of these reads
abbrev pub IsToucher : Past → List Read → ℕ → Type 0
IsToucher p rs id = IsTrue (list_any (λ u. u.batch.id == id && some_touched u.batch.writes rs) p.unreleased)

-- an open read-write transaction has it, and a read that one of these writes touches
abbrev pub IsReader : List Txn → List Write → ℕ → Type 0
IsReader ts ws id = IsTrue (list_any (λ t. t.id == id && is_reader ws t) ts)

-- whom a plain commit waits for
abbrev pub IsPlainHolder : Mode → Past → List Txn → List Write → ℕ → Type 0
IsPlainHolder Pessimistic p ts ws id = IsWriter p ws id ⊎ IsReader ts ws id
IsPlainHolder Optimistic p ts ws id = IsWriter p ws id

-- and reads in a read-write transaction
abbrev pub IsReadHolder : Mode → Past → List Read → ℕ → Type 0
IsReadHolder Pessimistic p rs id = IsToucher p rs id
IsReadHolder Optimistic p rs id = ⊥

abbrev pub IsCommitHolder : Machine → List Write → Option ℕ → ℕ → Type 0
IsCommitHolder m ws None id = IsPlainHolder m.config.mode m.past m.txns.open ws id
IsCommitHolder m ws (Some transaction) id = IsWriter m.past ws id

abbrev pub IsHolderOfRead : Machine → When → Request → ℕ → Type 0
IsHolderOfRead m when r id = IsTrue (is_noted m when) × IsReadHolder m.config.mode m.past (shown_at m when r) id

-- whom a request waits for
abbrev pub IsHolder : Machine → Request → ℕ → Type 0
IsHolder m (Commit database writes transaction) id = IsCommitHolder m writes transaction id
IsHolder m (GetDocument name mask when) id = IsHolderOfRead m when (GetDocument name mask when) id
IsHolder m (BatchGetDocuments database names mask when) id = IsHolderOfRead m when (BatchGetDocuments database names mask when) id
IsHolder m (RunQuery database query when) id = IsHolderOfRead m when (RunQuery database query when) id
IsHolder m (BeginTransaction database options) id = ⊥
IsHolder m (Rollback database transaction) id = ⊥
IsHolder m (AddTarget database target t token) id = ⊥
IsHolder m (RemoveTarget database target) id = ⊥
IsHolder m (request.Write database asked) id = ⊥

-- what waits, waits for the one of the least number of those that hold it; and what goes on has none
abbrev pub HeldByTheLeast : Type 0
HeldByTheLeast = (m : Machine) (r : Request) → IsLeastOf (IsHolder m r) (held_by m r)

-- a request that waited and goes on is carried out as it would be had it come then
abbrev pub RetriedAsIfItCame : Type 0
RetriedAsIfItCame = (m : Machine) (place : ℕ) (r : ParkedRequest) → slice_get m.parked place ≡ Some r → retry_decision m r.session r.envelope.request ≡ Decision.goes_on
    → retried m place ≡ arrives (unparked m place) r (unless_full (unparked m place) (decision (unparked m place) r.session r.envelope.request))

-- ---- transactions

-- what one is in conflict with: an open one that has read what it writes, or a commit since its begin of what it has read
abbrev pub IsConflict : Mode → Past → List Txn → Txn → List Write → ℕ → Type 0
IsConflict Pessimistic p ts t ws id = IsReader (others t.id ts) ws id
IsConflict Optimistic p ts t ws id =
    IsTrue (list_any (λ b. b.id == id && (int_lt t.read_time b.time && some_touched b.writes t.reads)) (batches p.unreleased ++ p.history))

-- one that is aborted is told the least of those that it is in conflict with; and what is committed has none
abbrev pub AbortedByTheLeast : Type 0
AbortedByTheLeast = (mode : Mode) (p : Past) (ts : List Txn) (t : Txn) (ws : List Write) → IsLeastOf (IsConflict mode p ts t ws) (conflict mode p ts t ws)

-- one that only reads never waits
abbrev pub ReadOnlyGoesOn : Type 0
ReadOnlyGoesOn = (m : Machine) (session : ℕ) (r : Request) → only_reads m (transaction_in r) ≡ true → check_refusal m session r ≡ None → decision m session r ≡ Decision.goes_on

-- and isn't aborted: it is told the time at which it read
abbrev pub ReadOnlyCommits : Type 0
ReadOnlyCommits = (m : Machine) (r : ParkedRequest) (ws : List Write) (id : ℕ) (t : Txn) → txn_of id m.txns.open ≡ Some t → is_read_write t.kind ≡ false
    → committed_answer m r ws (Some id) ≡ Reply (message.Commit r.envelope.id t.read_time [])

-- what was committed explains every read in it, whatever events come
abbrev pub AlwaysSerial : Type 0
AlwaysSerial = (config : Config) (limits : Limits) (start : ℤ) (events : List Event) → IsSerial (after (started config limits start) events).past.history

-- ---- replies

-- the commits that an event lets out and answers, the first of them first: only a release lets out any
abbrev pub let_out_by : Machine → Event → List Unreleased
let_out_by m Event.releasing = let_out m.past
let_out_by m _ = []

-- and those of several events
abbrev pub let_out_in : Machine → List Event → List Unreleased
let_out_in m [] = []
let_out_in m (e ∷ es) = let_out_by m e ++ let_out_in (step m e) es

-- the commits that were let out, and answered so, are the batches that the history has more, in its order: so each reply comes once, as
-- its commit comes to be seen, and replies come in the order of commit times
abbrev pub RepliesComeOnce : Type 0
RepliesComeOnce = (m : Machine) (events : List Event) → (after m events).past.history ≡ joined m.past.history (let_out_in m events)

-- a commit whose writes are refused as it is settled is never seen
abbrev pub RefusedIsNeverSeen : Type 0
RefusedIsNeverSeen = (m : Machine) (id : ℕ) (u : Unreleased) (refusal : Refusal) (events : List Event) → Facts m
    → pending_of m.past id ≡ Some u → outcome_of m.past u ≡ Err refusal → times_in id (after (decided m id) events).past.history ≡ 0
