-- What holds wherever the events of a run are cut: of the answers that are given there, of streams, and of what sessions are sent.
--
--     the events of a run     opening, asking 0, deciding 1, releasing, taking 0, ..
--     one of its cuts         opening, asking 0 | deciding 1, releasing, taking 0, ..
--     the server there        1 is pending: whatever is asked there of what it writes has to wait for 1
use Rattle.std.specs.Prelude.{◌≡◌, ◌↔◌, ℕ, suc, ◌+◌, ◌≤◌, ◌==◌, ℤ, ◌≤ℤ◌, IfSome, IsTrue, true, false, List, [], ◌∷◌, ◌++◌, None, Some, Err, length, map, unwrap_or, if◌then◌else◌}
use Rattle.std.specs.FinMap.{get}
use Rattle.std.specs.List.{Contains, filter, list_any}
use Rattle.fs_history.specs.History.{before}
use Rattle.fs_history.specs.Touches.{some_touched}
use Rattle.fs_history.specs.declared.batch.Batch.{Batch}
use Rattle.fs_listen.specs.Gathered.{NeverFalls}
use Rattle.fs_listen.specs.Laws.{IsCurrentOnce, IsFromLoad}
use Rattle.fs_listen.specs.Listening.{Listened}
use Rattle.fs_listen.specs.ReadyLaws.{AreTogether, IsDue}
use Rattle.fs_listen.specs.Versions.{versions_told}
use Rattle.fs_machine.specs.AnswersStand.{AskedIsPending, IsRightIn, RetriedIsPending, StaysPending}
use Rattle.fs_machine.specs.Causes.{AskedIsAborted, AskedIsHeld, OnlyConflictsAbort, RetriedIsAborted, RetriedIsHeld}
use Rattle.fs_machine.specs.CommitsOnce.{asked_in, commits_in}
use Rattle.fs_machine.specs.Event.{Event, asking, deciding, raising}
use Rattle.fs_machine.specs.FrontLaws.{IsRaisedIn}
use Rattle.fs_machine.specs.Given.{AreTaken, given_by}
use Rattle.fs_machine.specs.Laws.{let_out_in}
use Rattle.fs_machine.specs.Listen.{listening_of}
use Rattle.fs_machine.specs.NotBothCommit.{IsCommitOf, IsOpenReadWrite}
use Rattle.fs_machine.specs.RaiseLaws.{IsRaised, may_be_raised}
use Rattle.fs_machine.specs.ReadLaws.{AskedReads, OnlyCarriedOutReply, RetriedReads}
use Rattle.fs_machine.specs.Refusing.{outbox_is_full}
use Rattle.fs_machine.specs.Request.{answered, arrival_refusal}
use Rattle.fs_machine.specs.ResetLaws.{LoadsLost, gives_up, has_reset}
use Rattle.fs_machine.specs.Settle.{outcome_of, pending_of}
use Rattle.fs_machine.specs.State.{Machine}
use Rattle.fs_machine.specs.Stream.{response_of}
use Rattle.fs_machine.specs.StreamLaws.{AreOnceInOrder, HasOnce, finishes, finishes_in, in_progress, is_response, last_of, owns, takes_in}
use Rattle.fs_machine.specs.Told.{is_open, told_by, world_of}
use Rattle.fs_machine.specs.Transact.{kind_of, time_asked}
use Rattle.fs_machine.specs.declared.answer.Answer.TheVariants.{Reply}
use Rattle.fs_machine.specs.declared.config.Config.{Config}
use Rattle.fs_machine.specs.declared.limits.Limits.{Limits}
use Rattle.fs_machine.specs.declared.unreleased.Unreleased.{Unreleased}
use Rattle.fs_path.specs.declared.name.DocName.{DocName}
use Rattle.fs_path.specs.declared.name.Root.{Root}
use Rattle.fs_query.specs.declared.listen.ListenMessage.{ListenMessage}
use Rattle.fs_query.specs.declared.listen.ListenMessage.TheVariants as listen
use Rattle.fs_request.specs.declared.message.Message.TheVariants as message
use Rattle.fs_request.specs.declared.options.TransactionOptions.{TransactionOptions}
use Rattle.fs_request.specs.declared.request.Envelope.{Envelope}
use Rattle.fs_request.specs.declared.request.Request.TheVariants.{BeginTransaction}
use Rattle.fs_request.specs.declared.request.Request.TheVariants as request
use Rattle.fs_request.specs.declared.stream_request.StreamRequest.TheVariants as asks
use Rattle.fs_status.specs.declared.refusal.Refusal.{Refusal}
use Rattle.fs_token.specs.Token.{token_of}
use Rattle.fs_stream.specs.Streams.{stream_of}
use Rattle.fs_stream.specs.declared.kept.Kept.{Kept}
use Rattle.fs_txn.specs.Transactions.{txn_of}
use Rattle.fs_txn.specs.declared.txn.Txn.{Txn}
use Rattle.fs_write.specs.Batch.{batch}
use Rattle.fs_write.specs.declared.write.Write.{Write}
use Rattle.fs_replay.specs.Run.{server_after, told_by_then}
use Rattle.fs_replay.specs.Step.{start}
use Rattle.fs_replay.specs.Transcript.{events_of}

-- the events of a run are these, and then those
abbrev pub IsCut : Config → Limits → List (List ℕ) → List Event → List Event → Type 0
IsCut config limits lines front back = events_of (start config limits) 1 lines ≡ front ++ back

-- the server that a run begins with
abbrev pub first_server : Config → Limits → Machine
first_server config limits = (start config limits).server

-- ---- answers

pub record AnswersThroughout (config : Config) (limits : Limits) (lines : List (List ℕ)) : Type 0 where
  -- whatever is asked there, or tried again, is aborted or has to wait just where the cause is there that it is told
  pub asked_aborted : (front back : List Event) → IsCut config limits lines front back → AskedIsAborted (server_after config limits front)
  pub retried_aborted : (front back : List Event) → IsCut config limits lines front back → RetriedIsAborted (server_after config limits front)
  -- and no other answer is ABORTED
  pub only_aborted : (front back : List Event) → IsCut config limits lines front back → OnlyConflictsAbort (server_after config limits front)
  pub asked_held : (front back : List Event) → IsCut config limits lines front back → AskedIsHeld (server_after config limits front)
  pub retried_held : (front back : List Event) → IsCut config limits lines front back → RetriedIsHeld (server_after config limits front)
  -- of two transactions that are open there, each of which writes what the other has read by then, not both are committed in the end
  pub not_both : (front back : List Event) (a b : ℕ) (t u : Txn) (x y : Batch) → IsCut config limits lines front back → (a ≡ b → ⊥)
      → IsOpenReadWrite (server_after config limits front) a t → IsOpenReadWrite (server_after config limits front) b u
      → IsCommitOf (server_after config limits (front ++ back)).past a x → IsCommitOf (server_after config limits (front ++ back)).past b y
      → some_touched x.writes u.reads ≡ true → some_touched y.writes t.reads ≡ true → ⊥
  -- a read is of the documents of its time, and what a transaction is told is what it has read
  pub asked_reads : (front back : List Event) → IsCut config limits lines front back → AskedReads (server_after config limits front)
  pub retried_reads : (front back : List Event) → IsCut config limits lines front back → RetriedReads (server_after config limits front)
  -- and it is replied to only where it is carried out
  pub only_reads : (front back : List Event) → IsCut config limits lines front back → OnlyCarriedOutReply (server_after config limits front)
  -- a transaction's own time is what was released at its begin, or the time that was asked for then
  pub read_times : (front mid back : List Event) (session : ℕ) (e : Envelope) (database : Root) (options : TransactionOptions) (id : ℕ) (t : Txn)
      → IsCut config limits lines front (asking session e ∷ (mid ++ back)) → e.request ≡ BeginTransaction database options
      → answered (server_after config limits front) session e ≡ Reply (message.BeginTransaction e.id id) → txn_of id (server_after config limits (front ++ asking session e ∷ mid)).txns.open ≡ Some t
      → (t.read_time ≡ unwrap_or (time_asked options) (server_after config limits front).past.released) × (t.kind ≡ kind_of options)
  -- a commit that is answered by its number and time is pending from then on
  pub asked_pending : (front back : List Event) → IsCut config limits lines front back → AskedIsPending (server_after config limits front)
  pub retried_pending : (front back : List Event) → IsCut config limits lines front back → RetriedIsPending (server_after config limits front)
  -- until it is settled
  pub stays_pending : (front back : List Event) → IsCut config limits lines front back → StaysPending (server_after config limits front)
  -- one that was answered by then is in the history there, with the results that its writes have on what stands just before it
  pub results : (front back : List Event) (u : Unreleased) → IsCut config limits lines front back → Contains (let_out_in (first_server config limits) front) u
      → IsRightIn (server_after config limits front).past.history u
  -- and one that was refused as it was settled is still refused on what stands just before its time
  pub refusals : (front mid back : List Event) (id : ℕ) (u : Unreleased) (refusal : Refusal) → IsCut config limits lines front (deciding id ∷ (mid ++ back))
      → pending_of (server_after config limits front).past id ≡ Some u → outcome_of (server_after config limits front).past u ≡ Err refusal
      → batch (before (server_after config limits (front ++ deciding id ∷ mid)).past.history u.batch.time) u.batch.writes u.batch.time ≡ Err refusal

-- ---- write streams, and all messages

pub record StreamsThroughout (config : Config) (limits : Limits) (lines : List (List ℕ)) : Type 0 where
  -- by then a stream has taken its batches by rising tokens, and finished them in that order, each once
  pub once : (front back : List Event) (n : ℕ) → IsCut config limits lines front back
      → AreOnceInOrder (takes_in (first_server config limits) front n) (finishes_in (first_server config limits) front n) (in_progress (server_after config limits front) n)
  -- of all requests that sent it one token one at most was taken
  pub per_token : (front back : List Event) (n token : ℕ) → IsCut config limits lines front back → length (filter (λ t. t.0 == token) (takes_in (first_server config limits) front n)) ≤ 1
  -- what was acknowledged at a time is in the history there, once, at that time and with those results
  pub acknowledged : (front back : List Event) (n : ℕ) (d : List Write × Kept) (time : ℤ) → IsCut config limits lines front back
      → Contains (finishes_in (first_server config limits) front n) d → d.1.commit ≡ Some time → HasOnce (server_after config limits front).past.history d.0 time d.1.results
  -- what who sends the last batch again is answered is the response with which it was finished, and its token counts those that are
  pub repeats : (front back : List Event) (n : ℕ) → IsCut config limits lines front back
      → (stream_of n (server_after config limits front).streams).kept ≡ last_of None (map (λ d. d.1) (finishes_in (first_server config limits) front n))
  pub tokens : (front back : List Event) (n : ℕ) → IsCut config limits lines front back
      → IfSome (stream_of n (server_after config limits front).streams).kept (λ kept. kept.token ≡ (stream_of n (server_after config limits front).streams).finished)
  -- and so the owner is answered that sends it again, where no limit refuses the request
  pub repeat_told : (front back : List Event) (session n : ℕ) (kept : Kept) (e : Envelope) (database : Root) (token : ℕ) (writes : List Write) → IsCut config limits lines front back
      → get (server_after config limits front).streams.owners session ≡ Some n → (stream_of n (server_after config limits front).streams).kept ≡ Some kept
      → suc token ≡ (stream_of n (server_after config limits front).streams).finished → e.request ≡ request.Write database (asks.Batch token writes)
      → arrival_refusal (server_after config limits front) session e.request ≡ None → answered (server_after config limits front) session e ≡ Reply (response_of n kept)
  -- no more is committed, or may be, than was asked for by then: a batch that is sent again adds nothing
  pub requests_once : (front back : List Event) → IsCut config limits lines front back
      → commits_in (server_after config limits front) ≤ commits_in (first_server config limits) + asked_in (first_server config limits) front
  -- whoever owns a stream as a batch is finished is sent the response, and nobody else
  pub owners : (front back : List Event) (e : Event) (n session : ℕ) → IsCut config limits lines front (e ∷ back) → is_open session (server_after config limits front).sessions ≡ true
      → filter (is_response n) (given_by (server_after config limits front) e session)
      ≡ (if owns session n (server_after config limits front).streams then map (λ d. response_of n d.1) (finishes (server_after config limits front) e n) else [])
  -- the messages that a session was given are those that were taken from it, in order, and then those that wait there
  pub messages : (front back : List Event) (session : ℕ) → IsCut config limits lines front back → AreTaken (first_server config limits) front session

-- ---- what sessions are sent of their targets

pub record ListenersThroughout (config : Config) (limits : Limits) (lines : List (List ℕ)) : Type 0 where
  -- at each NO_CHANGE among what a session was sent it had the views of all its targets at that time
  pub each_cut : (front back : List Event) (session : ℕ) (said rest : List ListenMessage) (time : ℤ) (token : List ℕ) → IsCut config limits lines front back
      → told_by_then config limits front session ≡ said ++ listen.NoChange time token ∷ rest → IsRaisedIn (first_server config limits) front session said time token
  -- a session that is raised while it is ready and has room is sent a NO_CHANGE of its time, and else nothing
  pub raised : (front back : List Event) (session : ℕ) → IsCut config limits lines front (raising session ∷ back) → is_open session (server_after config limits front).sessions ≡ true
      → may_be_raised (server_after config limits front) session ≡ true → IsRaised (server_after config limits front) session
  -- it is ready once its targets are together at a time that is due
  pub due : (front back : List Event) (session : ℕ) (time : ℤ) → IsCut config limits lines front (raising session ∷ back) → is_open session (server_after config limits front).sessions ≡ true
      → outbox_is_full (server_after config limits front) session ≡ false → AreTogether (listening_of (server_after config limits front) session) time
      → IsDue (listening_of (server_after config limits front) session) time
      → (said : List ListenMessage) × (told_by (server_after config limits front) (raising session) session ≡ said ++ listen.NoChange time (token_of time) ∷ [])
  pub quiet : (front back : List Event) (session other : ℕ) → IsCut config limits lines front (raising session ∷ back)
      → may_be_raised (server_after config limits front) session ≡ false → told_by (server_after config limits front) (raising session) other ≡ []
  -- a target is RESET exactly as it is loaded with a token from before what can be read; and with a token of this run, only after a compaction
  pub resets : (front back : List Event) (e : Event) (session id : ℕ) → IsCut config limits lines front (e ∷ back)
      → IsTrue (has_reset id (told_by (server_after config limits front) e session)) ↔ LoadsLost (server_after config limits front) e session id
  pub compacted : (front back : List Event) (e : Event) (session id : ℕ) (target : Listened) → IsCut config limits lines front (e ∷ back)
      → get (listening_of (server_after config limits front) session).targets id ≡ Some target → IfSome target.token (λ time. (start config limits).moment ≤ℤ time)
      → IsTrue (has_reset id (told_by (server_after config limits front) e session)) → IsTrue (list_any gives_up front)
  -- each target was sent CURRENT once since it was added, if it is current, and with a NO_CHANGE each was
  pub currents : (front back : List Event) (session : ℕ) → IsCut config limits lines front back → is_open session (server_after config limits front).sessions ≡ true
      → IsCurrentOnce (world_of (server_after config limits front) session (told_by_then config limits front session))
  -- no position of a target is before its load, and no version of a name that was sent before one that was sent earlier
  pub positions : (front back : List Event) (session id : ℕ) (l : Listened) → IsCut config limits lines front back → is_open session (server_after config limits front).sessions ≡ true
      → get (listening_of (server_after config limits front) session).targets id ≡ Some l → IfSome l.loaded IsFromLoad
  pub versions : (front back : List Event) (session : ℕ) (name : DocName) → IsCut config limits lines front back → is_open session (server_after config limits front).sessions ≡ true
      → NeverFalls (versions_told name (told_by_then config limits front session))
