-- What a session is told by the answers to its requests, and what its targets are then.
use Rattle.std.proofs.Common.{◌≡◌, ℕ, ◌+◌, ℤ, ◌≤ℤ◌, Bool, true, false, cond, List, [], ◌∷◌, ◌++◌, Option, Some, None, Result, Ok, Err, refl, sym, ap, ◌∙◌, subst}
use Rattle.std.specs.Prelude.{IfSome, pos, negsuc, is_some, ◌==◌}
use Rattle.std.specs.FinMap.{get, insert, remove}
use Rattle.std.specs.List.{AllByRecursion}
use Rattle.std.proofs.lemmas.List.{append-nil}
use Rattle.fs_history.specs.declared.batch.Batch.{Batch}
use Rattle.fs_path.specs.declared.name.Root.{Root}
use Rattle.fs_path.specs.declared.field.FieldPath.{FieldPath}
use Rattle.fs_query.specs.declared.listen.ListenMessage.{ListenMessage}
use Rattle.fs_query.specs.declared.listen.ListenMessage.TheVariants as listen
use Rattle.fs_query.specs.declared.target.Target.{Target}
use Rattle.fs_request.specs.declared.message.Message.TheVariants as message
use Rattle.fs_request.specs.declared.request.Envelope.{Envelope}
use Rattle.fs_request.specs.declared.request.Request.{Request}
use Rattle.fs_request.specs.declared.request.Request.TheVariants.{Commit, GetDocument, BatchGetDocuments, RunQuery, BeginTransaction, Rollback, AddTarget, RemoveTarget}
use Rattle.fs_request.specs.declared.request.Request.TheVariants as request
use Rattle.fs_request.specs.declared.stream_request.StreamRequest.{StreamRequest}
use Rattle.fs_request.specs.declared.stream_request.StreamRequest.TheVariants as write
use Rattle.fs_status.specs.Refusal.{refusal_of}
use Rattle.fs_status.specs.declared.reason.Reason.TheVariants.{TargetUnknown}
use Rattle.fs_status.specs.declared.refusal.Refusal.{Refusal}
use Rattle.fs_stream.specs.Answers.{resume_answer}
use Rattle.fs_stream.specs.Streams.{owned_by}
use Rattle.fs_stream.specs.declared.error.StreamError.{StreamError}
use Rattle.fs_stream.specs.declared.take.Resumed.{Resumed}
use Rattle.fs_stream.specs.declared.take.Resumed.TheVariants as resumed
use Rattle.fs_stream.specs.declared.take.Take.{Take}
use Rattle.fs_stream.specs.declared.take.Take.TheVariants as take
use Rattle.fs_txn.specs.Transactions.{is_read_write, txn_of}
use Rattle.fs_txn.specs.declared.txn.Txn.{Txn}
use Rattle.fs_value.specs.declared.document.Document.{Document}
use Rattle.fs_write.specs.declared.write.Write.{Write}
use Rattle.fs_listen.specs.Listening.{Listened, Listening, added, removed}
use Rattle.fs_listen.specs.Runs.{World}
use Rattle.fs_listen.specs.Runs as run
use Rattle.fs_history.specs.History.{at}
use Rattle.fs_machine.specs.Commit.{committed_answer_in, committed_answer_unless}
use Rattle.fs_machine.specs.Conflict.{conflict}
use Rattle.fs_machine.specs.Listen.{cause_of, has_target, is_plain, listening_of, removing_refusal, token_time, unadded_answer}
use Rattle.fs_machine.specs.Listeners.{Listener, listening_in, with_listener}
use Rattle.fs_machine.specs.Numbered.{draws, number_of}
use Rattle.fs_machine.specs.Read.{document_answer, read_time}
use Rattle.fs_machine.specs.Request.{Decision, answer_by, answered_unless, arrival_refusal, arrived, arrives, asked_unless, comes, numbered, taken_unless, carried_by, decided_answer, decision, drawn, refused_by, unless_full}
use Rattle.fs_machine.specs.Retry.{retried_if, retry_decision, tried, tried_answer, unparked}
use Rattle.fs_machine.specs.State.{Machine}
use Rattle.fs_machine.specs.Stream.{as_commit, asked_answer, known_answer, own_stream, resumed_answer, streamed_answer, take_of, taken_as, taker_of}
use Rattle.fs_machine.specs.Told.{said_by, world_of}
use Rattle.fs_machine.specs.WaitersAsk.{may_wait}
use Rattle.fs_machine.specs.declared.answer.Answer.TheVariants.{Reply, Refused}
use Rattle.fs_machine.specs.declared.parked_request.ParkedRequest.{ParkedRequest}
use Rattle.fs_machine.proofs.Asking.{adding_passes, outbox_none, token_shown}
use Rattle.fs_machine.proofs.Carried.{in_rest, read_rest}
use Rattle.fs_machine.proofs.Heard.{heard_others, heard_own, is_among}
use Rattle.fs_machine.proofs.ListenersHold.{listed_in}
use Rattle.fs_machine.proofs.Streaming.{streamed_rest, taken_rest}

-- ---- the run of a session's own

-- one leads to this from where nothing was told
pub record IsLed (shards : ℕ) (w : World) : Type 0 where
  pub history : List Batch
  pub released : ℤ
  pub floor : ℤ
  pub events : List run.Event
  pub may : run.MayAll shards events (run.begun history released floor)
  pub leads : run.after_all shards events (run.begun history released floor) ≡ w

after_more : (shards : ℕ) (es : List run.Event) (e : run.Event) (w : World) → run.after_all shards (es ++ e ∷ []) w ≡ run.after shards e (run.after_all shards es w)
after_more shards [] e w = refl
after_more shards (d ∷ es) e w = after_more shards es e (run.after shards d w)

may_more : (shards : ℕ) (es : List run.Event) (e : run.Event) (w : World) → run.MayAll shards es w → run.May e (run.after_all shards es w) → run.MayAll shards (es ++ e ∷ []) w
may_more shards [] e w may one = (one, tt)
may_more shards (d ∷ es) e w may one = (may.0, may_more shards es e (run.after shards d w) may.1 one)

-- and one event goes on from there
pub led_on : (shards : ℕ) (w : World) (e : run.Event) → run.May e w → IsLed shards w → IsLed shards (run.after shards e w)
led_on shards w e may led = record {
  history = led.history;
  released = led.released;
  floor = led.floor;
  events = led.events ++ e ∷ [];
  may = may_more shards led.events e (run.begun led.history led.released led.floor) led.may (subst (run.May e) (sym led.leads) may);
  leads = after_more shards led.events e (run.begun led.history led.released led.floor) ∙ ap (run.after shards e) led.leads;
}

-- ---- what one event of the server does to sessions

-- the targets of a session change, and it is told so; those of others stay
pub record Tells (shards : ℕ) (m n : Machine) (session : ℕ) (said : List ListenMessage) : Type 0 where
  pub own : is_among session (listed_in m.listeners) ≡ true → (before : List ListenMessage) → IsLed shards (world_of m session before)
      → IsLed shards (record (world_of m session before) { listening = listening_of n session; said = before ++ said })
  pub others : (other : ℕ) → (session == other) ≡ false → listening_of n other ≡ listening_of m other

pub tells_nothing : (shards : ℕ) (m n : Machine) (session : ℕ) → n.listeners ≡ m.listeners → Tells shards m n session []
tells_nothing shards m n session same = record {
  own = λ listed before led.
      subst (IsLed shards) (λ i. record (world_of m session before) { listening = listening_in session (sym same i); said = sym (append-nil before) i }) led;
  others = λ other apart. ap (listening_in other) same;
}

pub tells_none : (shards : ℕ) (m n : Machine) (session : ℕ) (said : List ListenMessage) → n.listeners ≡ m.listeners → said ≡ [] → Tells shards m n session said
tells_none shards m n session said same none = subst (Tells shards m n session) (sym none) (tells_nothing shards m n session same)

-- ---- requests that don't listen

abbrev pub is_listen : Request → Bool
is_listen (Commit database writes transaction) = false
is_listen (GetDocument name mask when) = false
is_listen (BatchGetDocuments database names mask when) = false
is_listen (RunQuery database query when) = false
is_listen (BeginTransaction database options) = false
is_listen (Rollback database transaction) = false
is_listen (AddTarget database id t token) = true
is_listen (RemoveTarget database id) = true
is_listen (request.Write database asked) = false

waits_quiet : (q : Request) → may_wait q ≡ true → is_listen q ≡ false
waits_quiet (Commit database writes transaction) waits = refl
waits_quiet (GetDocument name mask when) waits = refl
waits_quiet (BatchGetDocuments database names mask when) waits = refl
waits_quiet (RunQuery database query when) waits = refl
waits_quiet (BeginTransaction database options) waits = refl
waits_quiet (Rollback database transaction) waits = refl
waits_quiet (AddTarget database id t token) waits = absurd (cc)
waits_quiet (RemoveTarget database id) waits = absurd (cc)
waits_quiet (request.Write database asked) waits = refl

batch_quiet : (database : Root) (asked : StreamRequest) → is_listen (as_commit (request.Write database asked)) ≡ false
batch_quiet database write.Open = refl
batch_quiet database (write.Resume n token) = refl
batch_quiet database (write.Batch token writes) = refl
batch_quiet database (write.Ask token) = refl
batch_quiet database (write.Mixed n token writes) = refl

-- nor do batches
taken_quiet : (stream : Option ℕ) (database : Root) (asked : StreamRequest) (session number : ℕ) (of : Option (List ℕ))
    → is_listen (taken_as stream (record { session = session; id = number; stream = None; envelope = record { id = of; request = request.Write database asked } })).envelope.request ≡ false
taken_quiet None database asked session number of = refl
taken_quiet (Some n) database asked session number of = batch_quiet database asked

carried_quiet : (m : Machine) (r : ParkedRequest) (q : Request) → is_listen q ≡ false → (carried_by m r q).listeners ≡ m.listeners
carried_quiet m r (Commit database writes None) is = refl
carried_quiet m r (Commit database writes (Some of)) is = ap (λ (n : Machine). n.listeners) (in_rest m r writes (txn_of of m.txns.open))
carried_quiet m r (GetDocument name mask when) is = ap (λ (n : Machine). n.listeners) (read_rest m when (GetDocument name mask when))
carried_quiet m r (BatchGetDocuments database names mask when) is = ap (λ (n : Machine). n.listeners) (read_rest m when (BatchGetDocuments database names mask when))
carried_quiet m r (RunQuery database query when) is = ap (λ (n : Machine). n.listeners) (read_rest m when (RunQuery database query when))
carried_quiet m r (BeginTransaction database options) is = refl
carried_quiet m r (Rollback database transaction) is = refl
carried_quiet m r (AddTarget database id t token) is = absurd (cc)
carried_quiet m r (RemoveTarget database id) is = absurd (cc)
carried_quiet m r (request.Write database asked) is = ap (λ (n : Machine). n.listeners) (streamed_rest m r.session asked)

commit_quiet_unless : (m : Machine) (t : Txn) (found : Option ℕ) → said_by (committed_answer_unless m t found) ≡ []
commit_quiet_unless m t (Some other) = refl
commit_quiet_unless m t None = refl

commit_quiet_in : (m : Machine) (r : ParkedRequest) (writes : List Write) (found : Option Txn) → said_by (committed_answer_in m r writes found) ≡ []
commit_quiet_in m r writes None = refl
commit_quiet_in m r writes (Some t) = by_kind (is_read_write t.kind) where
  by_kind : (b : Bool) → said_by (cond b (committed_answer_unless m t (conflict m.config.mode m.past m.txns.open t writes)) (Reply (message.Commit r.envelope.id t.read_time []))) ≡ []
  by_kind true = commit_quiet_unless m t (conflict m.config.mode m.past m.txns.open t writes)
  by_kind false = refl

document_quiet : (id : Option (List ℕ)) (t : ℤ) (mask : Option (List FieldPath)) (found : Option Document) → said_by (document_answer id t mask found) ≡ []
document_quiet id t mask None = refl
document_quiet id t mask (Some d) = refl

resumed_quiet : (n : ℕ) (told : Result Resumed StreamError) → said_by (resumed_answer n told) ≡ []
resumed_quiet n (Ok (resumed.At finished)) = refl
resumed_quiet n (Ok (resumed.Repeat kept)) = refl
resumed_quiet n (Err e) = refl

known_quiet : (n : ℕ) (told : Result Take StreamError) → said_by (known_answer n told) ≡ []
known_quiet n (Ok (take.New stream)) = refl
known_quiet n (Ok (take.Repeat kept)) = refl
known_quiet n (Ok (take.InProgress finished)) = refl
known_quiet n (Err e) = refl

own_quiet : (own : Option (ℕ × ℕ)) → said_by (asked_answer own) ≡ []
own_quiet None = refl
own_quiet (Some own) = refl

streamed_quiet : (m : Machine) (session : ℕ) (asked : StreamRequest) → said_by (streamed_answer m session asked) ≡ []
streamed_quiet m session write.Open = refl
streamed_quiet m session (write.Resume n token) = resumed_quiet n (resume_answer session n token m.streams)
streamed_quiet m session (write.Batch token writes) = known_quiet (own_stream m session) (take_of m session token)
streamed_quiet m session (write.Ask token) = own_quiet (owned_by session m.streams)
streamed_quiet m session (write.Mixed n token writes) = refl

answer_quiet : (m : Machine) (r : ParkedRequest) (q : Request) → is_listen q ≡ false → said_by (answer_by m r q) ≡ []
answer_quiet m r (Commit database writes None) is = refl
answer_quiet m r (Commit database writes (Some of)) is = commit_quiet_in m r writes (txn_of of m.txns.open)
answer_quiet m r (GetDocument name mask when) is = document_quiet r.envelope.id (read_time m when) mask (get (at m.past.history (read_time m when)) name)
answer_quiet m r (BatchGetDocuments database names mask when) is = refl
answer_quiet m r (RunQuery database query when) is = refl
answer_quiet m r (BeginTransaction database options) is = refl
answer_quiet m r (Rollback database transaction) is = refl
answer_quiet m r (AddTarget database id t token) is = absurd (cc)
answer_quiet m r (RemoveTarget database id) is = absurd (cc)
answer_quiet m r (request.Write database asked) is = streamed_quiet m r.session asked

decided_quiet : (m : Machine) (r : ParkedRequest) (d : Decision) → is_listen r.envelope.request ≡ false → said_by (decided_answer m r d) ≡ []
decided_quiet m r (Decision.refused refusal) is = refl
decided_quiet m r (Decision.held id) is = refl
decided_quiet m r Decision.goes_on is = answer_quiet m r r.envelope.request is

arrives_quiet : (m : Machine) (r : ParkedRequest) (d : Decision) → is_listen r.envelope.request ≡ false → (arrives m r d).listeners ≡ m.listeners
arrives_quiet m r (Decision.refused refusal) is = refl
arrives_quiet m r (Decision.held id) is = refl
arrives_quiet m r Decision.goes_on is = carried_quiet m r r.envelope.request is

refused_quiet : (m : Machine) (session : ℕ) (q : Request) (refusal : Refusal) → is_listen q ≡ false → said_by (refused_by m session q refusal) ≡ []
refused_quiet m session (Commit database writes transaction) refusal is = refl
refused_quiet m session (GetDocument name mask when) refusal is = refl
refused_quiet m session (BatchGetDocuments database names mask when) refusal is = refl
refused_quiet m session (RunQuery database query when) refusal is = refl
refused_quiet m session (BeginTransaction database options) refusal is = refl
refused_quiet m session (Rollback database transaction) refusal is = refl
refused_quiet m session (AddTarget database id t token) refusal is = absurd (cc)
refused_quiet m session (RemoveTarget database id) refusal is = refl
refused_quiet m session (request.Write database asked) refusal is = refl

comes_quiet : (m : Machine) (r : ParkedRequest) (d : Decision) → is_listen r.envelope.request ≡ false → (comes m r d).listeners ≡ m.listeners
comes_quiet m r d is = arrives_quiet (taken_unless d r.stream m) r d is ∙ ap (λ (n : Machine). n.listeners) (taken_rest d r.stream m)

asked_quiet : (m : Machine) (r : ParkedRequest) (refusal : Option Refusal) → is_listen r.envelope.request ≡ false → (asked_unless refusal m r).listeners ≡ m.listeners
asked_quiet m r (Some refusal) is = refl
asked_quiet m r None is = by_draw (draws r.envelope.request) where
  by_draw : (b : Bool) → (comes (cond b (record m { numbers = record m.numbers { ids = m.numbers.ids + 1 } }) m) r (unless_full m (decision m r.session r.envelope.request))).listeners ≡ m.listeners
  by_draw true = comes_quiet (record m { numbers = record m.numbers { ids = m.numbers.ids + 1 } }) r (unless_full m (decision m r.session r.envelope.request)) is
  by_draw false = comes_quiet m r (unless_full m (decision m r.session r.envelope.request)) is

answered_quiet : (m : Machine) (r : ParkedRequest) (refusal : Option Refusal) → is_listen r.envelope.request ≡ false → said_by (answered_unless refusal m r) ≡ []
answered_quiet m r (Some refusal) is = refused_quiet m r.session r.envelope.request refusal is
answered_quiet m r None is = decided_quiet (drawn m r.envelope.request) r (unless_full m (decision m r.session r.envelope.request)) is

tried_quiet : (m : Machine) (place : ℕ) (r : ParkedRequest) (d : Decision) → is_listen r.envelope.request ≡ false → (tried m place r d).listeners ≡ m.listeners
tried_quiet m place r (Decision.refused refusal) is = refl
tried_quiet m place r (Decision.held id) is = refl
tried_quiet m place r Decision.goes_on is = carried_quiet (unparked m place) r r.envelope.request is

-- one that is tried again is no such request
pub retried_quiet : (m : Machine) (place : ℕ) (r : ParkedRequest) → may_wait r.envelope.request ≡ true → ((retried_if m place (Some r)).listeners ≡ m.listeners) × (said_by (tried_answer m r) ≡ [])
retried_quiet m place r waits =
    let is = waits_quiet r.envelope.request waits in
    (tried_quiet m place r (retry_decision m r.session r.envelope.request) is, decided_quiet m r (retry_decision m r.session r.envelope.request) is)

-- ---- a target is added

none_there : (o : Option Listened) → is_some o ≡ false → o ≡ None
none_there None is = refl
none_there (Some l) is = absurd (cc)

module _ (shards : ℕ) (m : Machine) (session : ℕ) where
  adding_tells : (id : ℕ) (t : Target) (token : Option (List ℕ)) → (has_target m session id ≡ false) → IfSome (token_time token) (λ k. k ≤ℤ m.past.released)
      → Tells shards m (record m { listeners = with_listener session (λ l. record l { listening = added id t (token_time token) l.listening; numbers = insert l.numbers id (m.numbers.targets + 1) }) m.listeners; numbers = record m.numbers { targets = m.numbers.targets + 1 } })
      session (listen.Add (id ∷ []) ∷ [])
  adding_tells id t token free by = record {
    own = λ listed before led.
        let w = world_of m session before in
        let heard = heard_own change (added id t (token_time token)) (λ l. refl) (λ l. refl) m.listeners session listed in
        subst (λ (s : Listening). IsLed shards (record w { listening = s; said = before ++ listen.Add (id ∷ []) ∷ [] })) (sym heard)
        (led_on shards w (run.adds id t (token_time token)) (none_there (get (listening_of m session).targets id) free, by) led);
    others = λ other apart. heard_others change (added id t (token_time token)) (λ l. refl) (λ l. refl) m.listeners session other apart;
  } where
    change : Listener → Listener
    change l = record l { listening = added id t (token_time token) l.listening; numbers = insert l.numbers id (m.numbers.targets + 1) }

  removing_tells : (id : ℕ) → Tells shards m (record m { listeners = with_listener session (λ l. record l { listening = removed id l.listening; numbers = remove l.numbers id }) m.listeners }) session (listen.Remove (id ∷ []) None ∷ [])
  removing_tells id = record {
    own = λ listed before led.
        let w = world_of m session before in
        let heard = heard_own change (removed id) (λ l. refl) (λ l. refl) m.listeners session listed in
        subst (λ (s : Listening). IsLed shards (record w { listening = s; said = before ++ listen.Remove (id ∷ []) None ∷ [] })) (sym heard)
        (led_on shards w (run.removes id) tt led);
    others = λ other apart. heard_others change (removed id) (λ l. refl) (λ l. refl) m.listeners session other apart;
  } where
    change : Listener → Listener
    change l = record l { listening = removed id l.listening; numbers = remove l.numbers id }

  -- it isn't, and is told to be removed, or only the request is refused
  unadded_tells : (id : ℕ) (refusal : Refusal) → Tells shards m m session (said_by (unadded_answer m session id refusal))
  unadded_tells id refusal = by_rule (is_plain refusal.reason) where
    by_rule : (rule : Bool) → Tells shards m m session (said_by (cond rule (Refused refusal) (cond (has_target m session id) (Refused refusal) (Reply (message.Listen (listen.Remove (id ∷ []) (Some (cause_of refusal))))))))
    by_rule true = tells_nothing shards m m session refl
    by_rule false = by_use (has_target m session id) refl where
      by_use : (used : Bool) → has_target m session id ≡ used → Tells shards m m session (said_by (cond used (Refused refusal) (Reply (message.Listen (listen.Remove (id ∷ []) (Some (cause_of refusal)))))))
      by_use true is = tells_nothing shards m m session refl
      by_use false is = record {
        own = λ listed before led. led_on shards (world_of m session before) (run.refuses id (cause_of refusal)) (none_there (get (listening_of m session).targets id) is) led;
        others = λ other apart. refl;
      }

  -- ---- any request of a session that is open

  none_negative : (k : ℕ) → removing_refusal m session (negsuc k) ≡ None → ⊥
  none_negative k none = let some = outbox_none m session (Some (refusal_of (TargetUnknown (negsuc k)))) none in cc

  abbrev asks : ℕ → Option (List ℕ) → Request → ParkedRequest
  asks number of q = record { session = session; id = number; stream = None; envelope = record { id = of; request = q } }

  added_or_not : (number : ℕ) (of : Option (List ℕ)) (root : Root) (id : ℕ) (t : Target) (token : Option (List ℕ)) (refusal : Option Refusal) → arrival_refusal m session (AddTarget root id t token) ≡ refusal
      → Tells shards m (asked_unless refusal m (asks number of (AddTarget root id t token))) session (said_by (answered_unless refusal m (asks number of (AddTarget root id t token))))
  added_or_not number of root id t token (Some refusal) is = unadded_tells id refusal
  added_or_not number of root id t token None is =
      let passes = adding_passes m session id t token is in
      adding_tells id t token passes.0 (token_shown m token passes.1)

  removed_or_not : (number : ℕ) (of : Option (List ℕ)) (root : Root) (id : ℤ) (refusal : Option Refusal) → arrival_refusal m session (RemoveTarget root id) ≡ refusal
      → Tells shards m (asked_unless refusal m (asks number of (RemoveTarget root id))) session (said_by (answered_unless refusal m (asks number of (RemoveTarget root id))))
  removed_or_not number of root id (Some refusal) is = tells_nothing shards m m session refl
  removed_or_not number of root (pos id) None is = removing_tells id
  removed_or_not number of root (negsuc k) None is = absurd (none_negative k is)

  other_tells : (r : ParkedRequest) (refusal : Option Refusal) → is_listen r.envelope.request ≡ false → Tells shards m (asked_unless refusal m r) session (said_by (answered_unless refusal m r))
  other_tells r refusal is = tells_none shards m (asked_unless refusal m r) session (said_by (answered_unless refusal m r)) (asked_quiet m r refusal is) (answered_quiet m r refusal is)

  pub asked_tells : (e : Envelope) (refusal : Option Refusal) → arrival_refusal m session e.request ≡ refusal
      → Tells shards m (asked_unless refusal m (arrived m session e)) session (said_by (answered_unless refusal m (arrived m session e)))
  asked_tells e refusal is = by_request e.request is where
    of : Request → Envelope
    of q = record { id = e.id; request = q }

    by_request : (q : Request) → arrival_refusal m session q ≡ refusal → Tells shards m (asked_unless refusal m (arrived m session (of q))) session (said_by (answered_unless refusal m (arrived m session (of q))))
    by_request (Commit database writes transaction) is = other_tells (arrived m session (of (Commit database writes transaction))) refusal refl
    by_request (GetDocument name mask when) is = other_tells (arrived m session (of (GetDocument name mask when))) refusal refl
    by_request (BatchGetDocuments database names mask when) is = other_tells (arrived m session (of (BatchGetDocuments database names mask when))) refusal refl
    by_request (RunQuery database query when) is = other_tells (arrived m session (of (RunQuery database query when))) refusal refl
    by_request (BeginTransaction database options) is = other_tells (arrived m session (of (BeginTransaction database options))) refusal refl
    by_request (Rollback database transaction) is = other_tells (arrived m session (of (Rollback database transaction))) refusal refl
    by_request (AddTarget database id t token) is = added_or_not (number_of m.numbers.ids (AddTarget database id t token)) e.id database id t token refusal is
    by_request (RemoveTarget database id) is = removed_or_not (number_of m.numbers.ids (RemoveTarget database id)) e.id database id refusal is
    by_request (request.Write database asked) is =
        let r = numbered m session (of (request.Write database asked)) in
        other_tells (taken_as (taker_of m session asked) r) refusal (taken_quiet (taker_of m session asked) database asked r.session r.id e.id)

-- ---- requests tell only that targets are added or removed

abbrev pub adds_or_removes : ListenMessage → Bool
adds_or_removes (listen.Add ids) = true
adds_or_removes (listen.Remove ids cause) = true
adds_or_removes (listen.Reset ids) = false
adds_or_removes (listen.Current ids time token) = false
adds_or_removes (listen.NoChange time token) = false
adds_or_removes (listen.Changed d ids left) = false
adds_or_removes (listen.Deleted name time left) = false
adds_or_removes (listen.Removed name time left) = false

abbrev pub AddOrRemove : List ListenMessage → Type 0
AddOrRemove said = AllByRecursion (λ x. adds_or_removes x ≡ true) said

nothing_added : (said : List ListenMessage) → said ≡ [] → AddOrRemove said
nothing_added said none = subst AddOrRemove (sym none) tt

module _ (m : Machine) (session : ℕ) where
  unadded_answers : (id : ℕ) (refusal : Refusal) → AddOrRemove (said_by (unadded_answer m session id refusal))
  unadded_answers id refusal = by_rule (is_plain refusal.reason) where
    by_rule : (rule : Bool) → AddOrRemove (said_by (cond rule (Refused refusal) (cond (has_target m session id) (Refused refusal) (Reply (message.Listen (listen.Remove (id ∷ []) (Some (cause_of refusal))))))))
    by_rule true = tt
    by_rule false = by_use (has_target m session id) where
      by_use : (used : Bool) → AddOrRemove (said_by (cond used (Refused refusal) (Reply (message.Listen (listen.Remove (id ∷ []) (Some (cause_of refusal)))))))
      by_use true = tt
      by_use false = (refl, tt)

  added_answers : (number : ℕ) (of : Option (List ℕ)) (root : Root) (id : ℕ) (t : Target) (token : Option (List ℕ)) (refusal : Option Refusal)
      → AddOrRemove (said_by (answered_unless refusal m (record { session = session; id = number; stream = None; envelope = record { id = of; request = AddTarget root id t token } })))
  added_answers number of root id t token (Some refusal) = unadded_answers id refusal
  added_answers number of root id t token None = (refl, tt)

  removed_answers : (number : ℕ) (of : Option (List ℕ)) (root : Root) (id : ℤ) (refusal : Option Refusal)
      → AddOrRemove (said_by (answered_unless refusal m (record { session = session; id = number; stream = None; envelope = record { id = of; request = RemoveTarget root id } })))
  removed_answers number of root id (Some refusal) = tt
  removed_answers number of root (pos id) None = (refl, tt)
  removed_answers number of root (negsuc k) None = tt

  other_answers : (r : ParkedRequest) (refusal : Option Refusal) → is_listen r.envelope.request ≡ false → AddOrRemove (said_by (answered_unless refusal m r))
  other_answers r refusal is = nothing_added (said_by (answered_unless refusal m r)) (answered_quiet m r refusal is)

  pub asked_answers : (e : Envelope) (refusal : Option Refusal) → AddOrRemove (said_by (answered_unless refusal m (arrived m session e)))
  asked_answers e refusal = by_request e.request where
    of : Request → Envelope
    of q = record { id = e.id; request = q }

    by_request : (q : Request) → AddOrRemove (said_by (answered_unless refusal m (arrived m session (of q))))
    by_request (Commit database writes transaction) = other_answers (arrived m session (of (Commit database writes transaction))) refusal refl
    by_request (GetDocument name mask when) = other_answers (arrived m session (of (GetDocument name mask when))) refusal refl
    by_request (BatchGetDocuments database names mask when) = other_answers (arrived m session (of (BatchGetDocuments database names mask when))) refusal refl
    by_request (RunQuery database query when) = other_answers (arrived m session (of (RunQuery database query when))) refusal refl
    by_request (BeginTransaction database options) = other_answers (arrived m session (of (BeginTransaction database options))) refusal refl
    by_request (Rollback database transaction) = other_answers (arrived m session (of (Rollback database transaction))) refusal refl
    by_request (AddTarget database id t token) = added_answers (number_of m.numbers.ids (AddTarget database id t token)) e.id database id t token refusal
    by_request (RemoveTarget database id) = removed_answers (number_of m.numbers.ids (RemoveTarget database id)) e.id database id refusal
    by_request (request.Write database asked) =
        let r = numbered m session (of (request.Write database asked)) in
        other_answers (taken_as (taker_of m session asked) r) refusal (taken_quiet (taker_of m session asked) database asked r.session r.id e.id)
