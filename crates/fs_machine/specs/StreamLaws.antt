-- What holds of the streams of every run of a server: a stream finishes its batches in the order in which it took them, each once, whatever was
-- sent again, lost or resumed meanwhile. So a batch is committed once at most, and its response is the same each time that it is asked for.
--
--     the event                                        stream 1 takes       and finishes
--     session 4 sends the batch A with token 0         0: A
--     4 sends A with token 0 once more
--     A is settled, and released                                            A, with token 1
--     9 resumes stream 1 with token 0
--     9 sends A with token 0, and B with token 1       1: B
--     B is settled, and refused                                             B, with token 2
-- (v1 reference, "Write": `streamToken`.)
use Rattle.std.specs.Prelude.{◌≡◌, ℕ, suc, ◌+◌, ◌≤◌, ◌==◌, ℤ, IfSome, Bool, true, false, ◌&&◌, ⊤, List, [], ◌∷◌, ◌++◌, Option, Some, None, Result, Ok, Err, length, map, slice_get, unwrap_or, if◌then◌else◌}
use Rattle.std.specs.FinMap.{get}
use Rattle.std.specs.List.{Contains, filter, filter_map}
use Rattle.std.specs.Option.{option_map}
use Rattle.std.specs.Ordering.{int_eq}
use Rattle.fs_history.specs.History.{before}
use Rattle.fs_history.specs.declared.batch.Batch.{Batch}
use Rattle.fs_path.specs.declared.name.Root.{Root}
use Rattle.fs_request.specs.declared.message.Message.{Message}
use Rattle.fs_request.specs.declared.message.Message.TheVariants as message
use Rattle.fs_request.specs.declared.request.Envelope.{Envelope}
use Rattle.fs_request.specs.declared.request.Request.{Request}
use Rattle.fs_request.specs.declared.request.Request.TheVariants.{Commit}
use Rattle.fs_request.specs.declared.request.Request.TheVariants as request
use Rattle.fs_request.specs.declared.stream_request.StreamRequest.{StreamRequest}
use Rattle.fs_request.specs.declared.stream_request.StreamRequest.TheVariants as asks
use Rattle.fs_status.specs.declared.refusal.Refusal.{Refusal}
use Rattle.fs_stream.specs.Streams.{Streams, stream_of}
use Rattle.fs_stream.specs.declared.kept.Kept.{Kept}
use Rattle.fs_write.specs.Batch.{Docs, batch}
use Rattle.fs_write.specs.declared.write.Write.{Write}
use Rattle.fs_write.specs.declared.write_result.WriteResult.{WriteResult}
use Rattle.fs_machine.specs.Event.{Event, after, asking, deciding, releasing, retrying, step}
use Rattle.fs_machine.specs.Facts.{Facts}
use Rattle.fs_machine.specs.Given.{given_by}
use Rattle.fs_machine.specs.Laws.{let_out_in}
use Rattle.fs_machine.specs.Release.{as_committed, let_out}
use Rattle.fs_machine.specs.Request.{Decision, answered, arrival_refusal, arrived, decision, unless_full}
use Rattle.fs_machine.specs.Retry.{retry_decision}
use Rattle.fs_machine.specs.Settle.{outcome_of, pending_of}
use Rattle.fs_machine.specs.State.{Machine, started}
use Rattle.fs_machine.specs.Stream.{kept_of, kept_refused, response_of}
use Rattle.fs_machine.specs.StreamsHold.{answers, is_for, of_stream, waiting_for}
use Rattle.fs_machine.specs.Told.{is_open}
use Rattle.fs_machine.specs.declared.answer.Answer.TheVariants.{Reply}
use Rattle.fs_machine.specs.declared.config.Config.{Config}
use Rattle.fs_machine.specs.declared.limits.Limits.{Limits}
use Rattle.fs_machine.specs.declared.parked_request.ParkedRequest.{ParkedRequest}
use Rattle.fs_machine.specs.declared.unreleased.Unreleased.{Unreleased}

-- ---- what a stream takes

-- the writes that a request asks for
abbrev pub writes_of : Request → List Write
writes_of (Commit database writes transaction) = writes
writes_of _ = []

abbrev pub isnt_refused : Decision → Bool
isnt_refused (Decision.refused refusal) = false
isnt_refused (Decision.held id) = true
isnt_refused Decision.goes_on = true

-- the batch that a request sends, by its stream token
abbrev pub sent_in : StreamRequest → List (ℕ × List Write)
sent_in (asks.Batch token writes) = (token, writes) ∷ []
sent_in _ = []

abbrev pub sent : Request → List (ℕ × List Write)
sent (request.Write database asked) = sent_in asked
sent _ = []

-- a batch is taken as it was sent, where its request is that stream's from then on
abbrev pub taken_of : Machine → ℕ → Request → ParkedRequest → Option Refusal → List (ℕ × List Write)
taken_of m n asked r (Some refusal) = []
taken_of m n asked r None = if is_for n r.stream && isnt_refused (unless_full m (decision m r.session r.envelope.request)) then sent asked else []

abbrev pub takes : Machine → Event → ℕ → List (ℕ × List Write)
takes m (asking session e) n = taken_of m n e.request (arrived m session e) (arrival_refusal m session e.request)
takes m _ n = []

-- over a run, the first of the events first
abbrev pub takes_in : Machine → List Event → ℕ → List (ℕ × List Write)
takes_in m [] n = []
takes_in m (e ∷ es) n = takes m e n ++ takes_in (step m e) es n

-- ---- what it has in progress

abbrev pub in_progress : Machine → ℕ → List (List Write)
in_progress m n = map (λ u. u.batch.writes) (of_stream n m.past.unreleased) ++ map (λ r. writes_of r.envelope.request) (waiting_for n m.parked)

-- ---- and what it finishes: the writes of a batch, and the response

abbrev pub settled_of : Machine → ℕ → Unreleased → Result (Docs × List WriteResult) Refusal → List (List Write × Kept)
settled_of m n u (Ok done) = []
settled_of m n u (Err refusal) = (u.batch.writes, kept_refused m.streams n refusal) ∷ []

abbrev pub decided_of : Machine → ℕ → Option Unreleased → List (List Write × Kept)
decided_of m n None = []
decided_of m n (Some u) = if answers n u.asker then settled_of m n u (outcome_of m.past u) else []

abbrev pub given_up_of : Machine → ℕ → ParkedRequest → Decision → List (List Write × Kept)
given_up_of m n r (Decision.refused refusal) = (writes_of r.envelope.request, kept_refused m.streams n refusal) ∷ []
given_up_of m n r (Decision.held id) = []
given_up_of m n r Decision.goes_on = []

abbrev pub retried_of : Machine → ℕ → Option ParkedRequest → List (List Write × Kept)
retried_of m n None = []
retried_of m n (Some r) = if is_for n r.stream then given_up_of m n r (retry_decision m r.session r.envelope.request) else []

abbrev pub finishes : Machine → Event → ℕ → List (List Write × Kept)
finishes m releasing n = map (λ u. (u.batch.writes, kept_of m.streams n (as_committed u))) (of_stream n (let_out m.past))
finishes m (deciding id) n = decided_of m n (pending_of m.past id)
finishes m (retrying place) n = retried_of m n (slice_get m.parked place)
finishes m _ n = []

abbrev pub finishes_in : Machine → List Event → ℕ → List (List Write × Kept)
finishes_in m [] n = []
finishes_in m (e ∷ es) n = finishes m e n ++ finishes_in (step m e) es n

-- ---- the laws

-- they count on from a number
abbrev pub CountOn : ℕ → List ℕ → Type 0
CountOn from [] = ⊤
CountOn from (n ∷ ns) = (n ≡ from) × CountOn (from + 1) ns

-- the last, if there is one
abbrev pub last_of : Option Kept → List Kept → Option Kept
last_of kept [] = kept
last_of kept (k ∷ ks) = last_of (Some k) ks

-- a stream takes one batch behind another, by the tokens that they are sent with, and finishes them in that order, each once: those that are
-- finished, and then the one in progress, are those that it took; and the response to each has the next token
pub record AreOnceInOrder (taken : List (ℕ × List Write)) (done : List (List Write × Kept)) (going : List (List Write)) : Type 0 where
  pub tokens : CountOn 0 (map (λ t. t.0) taken)
  pub order : map (λ d. d.0) done ++ going ≡ map (λ t. t.1) taken
  pub answers : CountOn 1 (map (λ d. d.1.token) done)

abbrev pub BatchesOnceInOrder : Type 0
BatchesOnceInOrder = (config : Config) (limits : Limits) (start : ℤ) (events : List Event) (n : ℕ)
    → AreOnceInOrder (takes_in (started config limits start) events n) (finishes_in (started config limits start) events n) (in_progress (after (started config limits start) events) n)

-- of all requests that send a stream one token, whoever sends them and however often, one at most is taken
abbrev pub AtMostOncePerToken : Type 0
AtMostOncePerToken = (config : Config) (limits : Limits) (start : ℤ) (events : List Event) (n token : ℕ)
    → length (filter (λ t. t.0 == token) (takes_in (started config limits start) events n)) ≤ 1

-- what was committed of a batch: its writes, when, and with which results
abbrev pub committed_at : List Write × Kept → Option (List Write × ℤ × List WriteResult)
committed_at d = option_map (λ time. (d.0, time, d.1.results)) d.1.commit

-- those that were committed, with the times and results that they were answered, are the ones of the stream that were let out, with theirs
abbrev pub CommittedOnceInOrder : Type 0
CommittedOnceInOrder = (m : Machine) (events : List Event) (n : ℕ)
    → filter_map committed_at (finishes_in m events n) ≡ map (λ u. (u.batch.writes, u.batch.time, unwrap_or u.results [])) (of_stream n (let_out_in m events))

-- a history has these writes as a batch of this time, with these results on the documents just before it; and no other batch of it has that time,
-- or the number of this one
pub record HasOnce (h : List Batch) (writes : List Write) (time : ℤ) (results : List WriteResult) : Type 0 where
  pub one : Batch
  pub same : one.writes ≡ writes
  pub alone : filter (λ b. int_eq b.time time) h ≡ one ∷ []
  pub number : filter (λ b. b.id == one.id) h ≡ one ∷ []
  pub docs : Docs
  pub come : batch (before h time) writes time ≡ Ok (docs, results)

-- a batch that was answered a commit time is in the history of every later state at that time, once, and its results are right
abbrev pub AcknowledgedIsCommitted : Type 0
AcknowledgedIsCommitted = (m : Machine) (events more : List Event) (n : ℕ) (d : List Write × Kept) (time : ℤ) → Facts m
    → Contains (finishes_in m events n) d → d.1.commit ≡ Some time → HasOnce (after (after m events) more).past.history d.0 time d.1.results

-- what is kept, and so answered to who sends the last batch again, is the response with which it was finished
abbrev pub RepeatsAreAnsweredAlike : Type 0
RepeatsAreAnsweredAlike = (config : Config) (limits : Limits) (start : ℤ) (events : List Event) (n : ℕ)
    → (stream_of n (after (started config limits start) events).streams).kept ≡ last_of None (map (λ d. d.1) (finishes_in (started config limits start) events n))

-- and that response has the number of finished batches as its token
abbrev pub KeptHasTheLastToken : Type 0
KeptHasTheLastToken = (config : Config) (limits : Limits) (start : ℤ) (events : List Event) (n : ℕ)
    → (let s = stream_of n (after (started config limits start) events).streams in IfSome s.kept (λ kept. kept.token ≡ s.finished))

-- which is what a session is answered that owns the stream and sends the last batch again, where no limit refuses the request
abbrev pub RepeatsAreTold : Type 0
RepeatsAreTold = (m : Machine) (session n : ℕ) (kept : Kept) (e : Envelope) (database : Root) (token : ℕ) (writes : List Write)
    → get m.streams.owners session ≡ Some n → (stream_of n m.streams).kept ≡ Some kept → suc token ≡ (stream_of n m.streams).finished
    → e.request ≡ request.Write database (asks.Batch token writes) → arrival_refusal m session e.request ≡ None
    → answered m session e ≡ Reply (response_of n kept)

-- ---- who is told

-- the responses to batches of a stream
abbrev pub is_response : ℕ → Message → Bool
is_response n (message.Write k token told) = k == n
is_response n _ = false

abbrev pub owns : ℕ → ℕ → Streams → Bool
owns session n s = is_for n (get s.owners session)

-- of what comes into the outbox of a session by an event, the responses of a stream are those to what it finishes by that event, in that order,
-- where the session owns the stream; and there are none where it doesn't
abbrev pub OwnersAreTold : Type 0
OwnersAreTold = (m : Machine) (e : Event) (n session : ℕ) → Facts m → is_open session m.sessions ≡ true
    → filter (is_response n) (given_by m e session) ≡ (if owns session n m.streams then map (λ d. response_of n d.1) (finishes m e n) else [])
