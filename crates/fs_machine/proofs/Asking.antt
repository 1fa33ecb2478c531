-- What a request that comes, or is tried again, keeps of what sessions listen to, and of what waits.
use Rattle.std.proofs.Common.{◌≡◌, inl, inr, ℕ, ℤ, ◌≤ℤ◌, ◌+◌, Bool, true, false, cond, zero, suc, List, [], ◌∷◌, ◌++◌, Option, Some, None, Result, Ok, Err, refl, sym, ap, subst, arith}
use Rattle.std.specs.Prelude.{⊤, IfSome, is_some, pos, negsuc, codes, int_lt, length, nat_le, not, remove, slice_get}
use Rattle.std.specs.FinMap.{len}
use Rattle.std.specs.Int.Signed.{≤ℤ_refl}
use Rattle.std.proofs.lemmas.Int.{ints}
use Rattle.std.proofs.lemmas.Option.{same_Some}
use Rattle.fs_query.specs.declared.target.Target.{Target}
use Rattle.fs_path.specs.declared.name.Root.{Root}
use Rattle.fs_request.specs.declared.request.Envelope.{Envelope}
use Rattle.fs_request.specs.declared.request.Request.{Request}
use Rattle.fs_request.specs.declared.request.Request.TheVariants.{Commit, GetDocument, BatchGetDocuments, RunQuery, BeginTransaction, Rollback, AddTarget, RemoveTarget}
use Rattle.fs_request.specs.declared.request.Request.TheVariants as request
use Rattle.fs_request.specs.declared.stream_request.StreamRequest.{StreamRequest}
use Rattle.fs_request.specs.declared.stream_request.StreamRequest.TheVariants as write
use Rattle.fs_status.specs.Refusal.{at_limit}
use Rattle.fs_status.specs.declared.refusal.Refusal.{Refusal}
use Rattle.fs_token.specs.Token.{time_in}
use Rattle.fs_token.specs.declared.error.TokenError.{TokenError}
use Rattle.fs_txn.specs.Transactions.{txn_of}
use Rattle.fs_machine.specs.Commit.{past_prepared, unless_closed}
use Rattle.fs_machine.specs.Leave.{is_own, of_others}
use Rattle.fs_machine.specs.Listen.{adding_refusal, has_target, listening_of, shown_refusal, target_refusal, targets_refusal, time_shown, token_refusal, token_time, unless_used}
use Rattle.fs_machine.specs.Listeners.{Listener}
use Rattle.fs_machine.specs.ListenersHold.{ListenersHold}
use Rattle.fs_machine.specs.Numbered.{draws}
use Rattle.fs_machine.specs.Past.{Past}
use Rattle.fs_machine.specs.Refusing.{outbox_is_full, outbox_refusal, passed}
use Rattle.fs_machine.specs.Request.{Decision, arrival_refusal, arrived, arrives, asked_unless, carried_by, comes, taken_unless, check_refusal, decision, held_by, unless_full, unless_held, unless_refused}
use Rattle.fs_machine.specs.Retry.{retried_if, retry_decision, tried, unparked}
use Rattle.fs_machine.specs.State.{Machine}
use Rattle.fs_machine.specs.Stream.{batch_commit, desk_of, streamed, taken_as, taker_of}
use Rattle.fs_machine.specs.WaitersAsk.{Asks, WaitersAsk, is_plain, may_wait}
use Rattle.fs_machine.specs.declared.parked_request.ParkedRequest.{ParkedRequest}
use Rattle.fs_machine.specs.declared.session.Session.{Session}
use Rattle.fs_machine.proofs.Carried.{AtMostPrepares, carried_follows, carried_rest, in_rest, read_rest}
use Rattle.fs_machine.proofs.Desks.{numbers_given_up}
use Rattle.fs_machine.proofs.ListenersHold.{listeners_added, listeners_later, listeners_removed, listeners_told}
use Rattle.fs_machine.proofs.Streaming.{streamed_numbers, streamed_rest, taken_rest}

-- ---- what waits

pub held_waits : (m : Machine) (q : Request) (by : ℕ) → held_by m q ≡ Some by → may_wait q ≡ true
held_waits m (Commit database writes transaction) by is = refl
held_waits m (GetDocument name mask when) by is = refl
held_waits m (BatchGetDocuments database names mask when) by is = refl
held_waits m (RunQuery database query when) by is = refl
held_waits m (BeginTransaction database options) by is = absurd (cc)
held_waits m (Rollback database transaction) by is = absurd (cc)
held_waits m (AddTarget database id t token) by is = absurd (cc)
held_waits m (RemoveTarget database id) by is = absurd (cc)
held_waits m (request.Write database asked) by is = absurd (cc)

pub waiters_more : (rs : List ParkedRequest) (r : ParkedRequest) → WaitersAsk rs → Asks r → WaitersAsk (rs ++ r ∷ [])
waiters_more [] r waits one = (one, tt)
waiters_more (s ∷ rs) r waits one = (waits.0, waiters_more rs r waits.1 one)

pub waiters_fewer : (rs : List ParkedRequest) (place : ℕ) (r : ParkedRequest) → slice_get rs place ≡ Some r → WaitersAsk rs → WaitersAsk (remove rs place)
waiters_fewer [] place r is waits = absurd (cc)
waiters_fewer (s ∷ rs) zero r is waits = waits.1
waiters_fewer (s ∷ rs) (suc place) r is waits = (waits.0, waiters_fewer rs place r is waits.1)

pub waiters_departed : (rs : List ParkedRequest) (session : ℕ) → WaitersAsk rs → WaitersAsk (of_others session rs)
waiters_departed [] session waits = tt
waiters_departed (r ∷ rs) session waits = by_test (waiters_departed rs session waits.1) (not (is_own session r)) where
  by_test : WaitersAsk (of_others session rs) → (other : Bool) → WaitersAsk (cond other (r ∷ of_others session rs) (of_others session rs))
  by_test rest true = (waits.0, rest)
  by_test rest false = rest

-- one of them
pub waiter_asks : (rs : List ParkedRequest) (place : ℕ) (r : ParkedRequest) → slice_get rs place ≡ Some r → WaitersAsk rs → Asks r
waiter_asks [] place r is waits = absurd (cc)
waiter_asks (s ∷ rs) zero r is waits = subst Asks (same_Some s r is) waits.0
waiter_asks (s ∷ rs) (suc place) r is waits = waiter_asks rs place r is waits.1

-- one of a stream is a commit of no transaction
abbrev pub IsBatch : ParkedRequest → Type 0
IsBatch r = is_some r.stream ≡ true → is_plain r.envelope.request ≡ true

module _ (m n : Machine) (r : ParkedRequest) (batch : IsBatch r) (waits : WaitersAsk n.parked) where
  full_waits : (by : ℕ) (full : Bool) → Asks r
      → WaitersAsk (arrives n r (cond full (Decision.refused (at_limit (codes "parked") m.limits.parked)) (Decision.held by))).parked
  full_waits by true asks = waits
  full_waits by false asks = waiters_more n.parked r waits asks

  behind_waits : (found : Option ℕ) → held_by m r.envelope.request ≡ found → WaitersAsk (arrives n r (unless_full m (unless_held found))).parked
  behind_waits None is = subst WaitersAsk (sym (ap (λ (k : Machine). k.parked) (carried_rest n r r.envelope.request))) waits
  behind_waits (Some by) is = full_waits by (nat_le m.limits.parked (length m.parked)) (record { waits = held_waits m r.envelope.request by is; plain = batch })

  check_waits : (refusal : Option Refusal) → WaitersAsk (arrives n r (unless_full m (unless_refused refusal (unless_held (held_by m r.envelope.request))))).parked
  check_waits (Some refusal) = waits
  check_waits None = behind_waits (held_by m r.envelope.request) refl

comes_waits : (m n : Machine) (r : ParkedRequest) → IsBatch r → WaitersAsk n.parked → WaitersAsk (comes n r (unless_full m (decision m r.session r.envelope.request))).parked
comes_waits m n r batch waits =
    let d = unless_full m (decision m r.session r.envelope.request) in
    check_waits m (taken_unless d r.stream n) r batch (subst (λ (k : Machine). WaitersAsk k.parked) (sym (taken_rest d r.stream n)) waits) (check_refusal m r.session r.envelope.request)

drawn_waits : (m : Machine) (r : ParkedRequest) (b : Bool) → IsBatch r → WaitersAsk m.parked
    → WaitersAsk (comes (cond b (record m { numbers = record m.numbers { ids = m.numbers.ids + 1 } }) m) r (unless_full m (decision m r.session r.envelope.request))).parked
drawn_waits m r true batch waits = comes_waits m (record m { numbers = record m.numbers { ids = m.numbers.ids + 1 } }) r batch waits
drawn_waits m r false batch waits = comes_waits m m r batch waits

pub asked_waits : (m : Machine) (r : ParkedRequest) (refusal : Option Refusal) → IsBatch r → WaitersAsk m.parked → WaitersAsk (asked_unless refusal m r).parked
asked_waits m r (Some refusal) batch waits = waits
asked_waits m r None batch waits = drawn_waits m r (draws r.envelope.request) batch waits

tried_waits : (m : Machine) (place : ℕ) (r : ParkedRequest) (d : Decision) → slice_get m.parked place ≡ Some r → WaitersAsk m.parked → WaitersAsk (tried m place r d).parked
tried_waits m place r (Decision.refused refusal) is waits = waiters_fewer m.parked place r is waits
tried_waits m place r (Decision.held by) is waits = waits
tried_waits m place r Decision.goes_on is waits =
    subst WaitersAsk (sym (ap (λ (k : Machine). k.parked) (carried_rest (unparked m place) r r.envelope.request))) (waiters_fewer m.parked place r is waits)

pub retried_waits : (m : Machine) (place : ℕ) (found : Option ParkedRequest) → slice_get m.parked place ≡ found → WaitersAsk m.parked → WaitersAsk (retried_if m place found).parked
retried_waits m place None is waits = waits
retried_waits m place (Some r) is waits = tried_waits m place r (retry_decision m r.session r.envelope.request) is waits

-- ---- why a target is added

closed_none : (a b : Option Refusal) → unless_closed a b ≡ None → b ≡ None
closed_none (Some refusal) b none = absurd (cc)
closed_none None b none = none

passed_none : (over : Bool) (name : List ℕ) (number : ℕ) (others : Option Refusal) → passed over name number others ≡ None → others ≡ None
passed_none true name number others none = absurd (cc)
passed_none false name number others none = none

pub outbox_none : (m : Machine) (session : ℕ) (others : Option Refusal) → outbox_refusal m session others ≡ None → others ≡ None
outbox_none m session others none = passed_none (outbox_is_full m session) (codes "outbox") m.limits.outbox others none

targets_none : (m : Machine) (session : ℕ) (others : Option Refusal) → targets_refusal m session others ≡ None → others ≡ None
targets_none m session others none =
    let number = passed_none (nat_le m.limits.targets (len (listening_of m session).targets)) (codes "targets") m.limits.targets
    (passed (nat_le m.limits.ids m.numbers.targets) (codes "ids") m.limits.ids others) none in
    passed_none (nat_le m.limits.ids m.numbers.targets) (codes "ids") m.limits.ids others number

used_none : (used : Bool) (id : ℕ) (others : Option Refusal) → unless_used used id others ≡ None → (used ≡ false) × (others ≡ None)
used_none true id others none = absurd (cc)
used_none false id others none = (refl, none)

-- the session listens to none of its id, and the token shows a time that is released
pub adding_passes : (m : Machine) (session id : ℕ) (t : Target) (token : Option (List ℕ)) → adding_refusal m session id t token ≡ None
    → (has_target m session id ≡ false) × (token_refusal m token ≡ None)
adding_passes m session id t token none =
    let used = unless_used (has_target m session id) id (token_refusal m token) in
    let free = closed_none (target_refusal t) (outbox_refusal m session (targets_refusal m session used)) none in
    used_none (has_target m session id) id (token_refusal m token) (targets_none m session used (outbox_none m session (targets_refusal m session used) free))

pub token_shown : (m : Machine) (token : Option (List ℕ)) → token_refusal m token ≡ None → IfSome (token_time token) (λ k. k ≤ℤ m.past.released)
token_shown m None none = tt
token_shown m (Some bytes) none = by_read (time_in bytes) none where
  by_read : (read : Result ℤ TokenError) → shown_refusal m.past.released read ≡ None → IfSome (time_shown read) (λ k. k ≤ℤ m.past.released)
  by_read (Ok time) passes = by_test (int_lt m.past.released time) refl passes where
    by_test : (later : Bool) → int_lt m.past.released time ≡ later → shown_refusal m.past.released (Ok time) ≡ None → time ≤ℤ m.past.released
    by_test true is passes = absurd (let both = rw is at passes in cc)
    by_test false is passes = grind (arith, ints)
  by_read (Err e) passes = tt

-- ---- what sessions listen to

abbrev pub AreListening : Machine → Type 0
AreListening m = ListenersHold m.past m.sessions m.listeners m.numbers.targets

-- one that adds a target with a token, shows a time that is released
abbrev pub TokenHolds : ℤ → Request → Type 0
TokenHolds released (AddTarget database id t token) = IfSome (token_time token) (λ k. k ≤ℤ released)
TokenHolds released (Commit database writes transaction) = ⊤
TokenHolds released (GetDocument name mask when) = ⊤
TokenHolds released (BatchGetDocuments database names mask when) = ⊤
TokenHolds released (RunQuery database query when) = ⊤
TokenHolds released (BeginTransaction database options) = ⊤
TokenHolds released (Rollback database transaction) = ⊤
TokenHolds released (RemoveTarget database id) = ⊤
TokenHolds released (request.Write database asked) = ⊤

pub asked_token : (m : Machine) (session : ℕ) (q : Request) → arrival_refusal m session q ≡ None → TokenHolds m.past.released q
asked_token m session (Commit database writes transaction) none = tt
asked_token m session (GetDocument name mask when) none = tt
asked_token m session (BatchGetDocuments database names mask when) none = tt
asked_token m session (RunQuery database query when) none = tt
asked_token m session (BeginTransaction database options) none = tt
asked_token m session (Rollback database transaction) none = tt
asked_token m session (AddTarget database id t token) none = token_shown m token (adding_passes m session id t token none).1
asked_token m session (RemoveTarget database id) none = tt
asked_token m session (request.Write database asked) none = tt

batch_token : (released : ℤ) (database : Root) (asked : StreamRequest) → TokenHolds released (batch_commit (request.Write database asked) asked)
batch_token released database write.Open = tt
batch_token released database (write.Resume n token) = tt
batch_token released database (write.Batch token writes) = tt
batch_token released database (write.Ask token) = tt
batch_token released database (write.Mixed n token writes) = tt

taken_token : (released : ℤ) (session number : ℕ) (of : Option (List ℕ)) (database : Root) (asked : StreamRequest) (stream : Option ℕ)
    → TokenHolds released (taken_as stream (record { session = session; id = number; stream = None; envelope = record { id = of; request = request.Write database asked } })).envelope.request
taken_token released session number of database asked None = tt
taken_token released session number of database asked (Some n) = batch_token released database asked

-- nor does a batch, which is a commit as it comes
pub arrived_token : (m : Machine) (session : ℕ) (e : Envelope) → arrival_refusal m session e.request ≡ None → TokenHolds m.past.released (arrived m session e).envelope.request
arrived_token m session e none = by_request e.request (asked_token m session e.request none) where
  by_request : (q : Request) → TokenHolds m.past.released q → TokenHolds m.past.released (arrived m session (record { id = e.id; request = q })).envelope.request
  by_request (Commit database writes transaction) by = by
  by_request (GetDocument name mask when) by = by
  by_request (BatchGetDocuments database names mask when) by = by
  by_request (RunQuery database query when) by = by
  by_request (BeginTransaction database options) by = by
  by_request (Rollback database transaction) by = by
  by_request (AddTarget database id t token) by = by
  by_request (RemoveTarget database id) by = by
  by_request (request.Write database asked) by = taken_token m.past.released session (m.numbers.ids + 1) e.id database asked (taker_of m session asked)

-- one that waits adds none
pub waits_token : (released : ℤ) (q : Request) → may_wait q ≡ true → TokenHolds released q
waits_token released (Commit database writes transaction) waits = tt
waits_token released (GetDocument name mask when) waits = tt
waits_token released (BatchGetDocuments database names mask when) waits = tt
waits_token released (RunQuery database query when) waits = tt
waits_token released (BeginTransaction database options) waits = tt
waits_token released (Rollback database transaction) waits = tt
waits_token released (AddTarget database id t token) waits = absurd (cc)
waits_token released (RemoveTarget database id) waits = tt
waits_token released (request.Write database asked) waits = tt

pub past_listens : (p q : Past) (ss : List Session) (ls : List Listener) (given : ℕ) → AtMostPrepares p q → ListenersHold p ss ls given → ListenersHold q ss ls given
past_listens p q ss ls given (inl same) holds = subst (λ (x : Past). ListenersHold x ss ls given) (sym same) holds
past_listens p q ss ls given (inr one) holds =
    subst (λ (x : Past). ListenersHold x ss ls given) (sym one.1) (listeners_later p (past_prepared p one.0) ss ls given (≤ℤ_refl p.floor) (≤ℤ_refl p.released) holds)

same_listens : (m n : Machine) → n ≡ record m { past = n.past; txns = n.txns } → AtMostPrepares m.past n.past → AreListening m → AreListening n
same_listens m n is follows holds = subst AreListening (sym is) (past_listens m.past n.past m.sessions m.listeners m.numbers.targets follows holds)

pub carried_listens : (m : Machine) (r : ParkedRequest) (q : Request) → TokenHolds m.past.released q → AreListening m → AreListening (carried_by m r q)
carried_listens m r (Commit database writes None) by holds = past_listens _ _ m.sessions m.listeners m.numbers.targets (carried_follows m r (Commit database writes None)) holds
carried_listens m r (Commit database writes (Some of)) by holds = same_listens m _ (in_rest m r writes (txn_of of m.txns.open)) (carried_follows m r (Commit database writes (Some of))) holds
carried_listens m r (GetDocument name mask when) by holds = same_listens m _ (read_rest m when (GetDocument name mask when)) (carried_follows m r (GetDocument name mask when)) holds
carried_listens m r (BatchGetDocuments database names mask when) by holds = same_listens m _ (read_rest m when (BatchGetDocuments database names mask when)) (carried_follows m r (BatchGetDocuments database names mask when)) holds
carried_listens m r (RunQuery database query when) by holds = same_listens m _ (read_rest m when (RunQuery database query when)) (carried_follows m r (RunQuery database query when)) holds
carried_listens m r (BeginTransaction database options) by holds = holds
carried_listens m r (Rollback database transaction) by holds = holds
carried_listens m r (AddTarget database id t token) by holds = listeners_added m.past m.sessions m.listeners m.numbers.targets r.session id t (token_time token) by holds
carried_listens m r (RemoveTarget database (pos id)) by holds = listeners_removed m.past m.sessions m.listeners m.numbers.targets r.session id holds
carried_listens m r (RemoveTarget database (negsuc id)) by holds = holds
carried_listens m r (request.Write database asked) by holds =
    subst AreListening (sym (streamed_rest m r.session asked)) (listeners_told m.past m.sessions (streamed m r.session asked).sessions m.listeners m.numbers.targets (streamed_numbers m r.session asked) holds)

arrives_listens : (m : Machine) (r : ParkedRequest) (d : Decision) → TokenHolds m.past.released r.envelope.request → AreListening m → AreListening (arrives m r d)
arrives_listens m r (Decision.refused refusal) by holds = holds
arrives_listens m r (Decision.held id) by holds = holds
arrives_listens m r Decision.goes_on by holds = carried_listens m r r.envelope.request by holds

comes_listens : (m : Machine) (r : ParkedRequest) (d : Decision) → TokenHolds m.past.released r.envelope.request → AreListening m → AreListening (comes m r d)
comes_listens m r d by holds =
    let same = sym (taken_rest d r.stream m) in
    arrives_listens (taken_unless d r.stream m) r d (subst (λ (k : Machine). TokenHolds k.past.released r.envelope.request) same by) (subst AreListening same holds)

drawn_listens : (m : Machine) (r : ParkedRequest) (d : Decision) (b : Bool) → TokenHolds m.past.released r.envelope.request → AreListening m
    → AreListening (comes (cond b (record m { numbers = record m.numbers { ids = m.numbers.ids + 1 } }) m) r d)
drawn_listens m r d true by holds = comes_listens (record m { numbers = record m.numbers { ids = m.numbers.ids + 1 } }) r d by holds
drawn_listens m r d false by holds = comes_listens m r d by holds

pub asked_listens : (m : Machine) (r : ParkedRequest) (refusal : Option Refusal) → (refusal ≡ None → TokenHolds m.past.released r.envelope.request) → AreListening m → AreListening (asked_unless refusal m r)
asked_listens m r (Some refusal) by holds = holds
asked_listens m r None by holds = drawn_listens m r (unless_full m (decision m r.session r.envelope.request)) (draws r.envelope.request) (by refl) holds

tried_listens : (m : Machine) (place : ℕ) (r : ParkedRequest) (d : Decision) → TokenHolds m.past.released r.envelope.request → AreListening m → AreListening (tried m place r d)
tried_listens m place r (Decision.refused refusal) by holds =
    listeners_told m.past m.sessions _ m.listeners m.numbers.targets (numbers_given_up r.stream refusal (desk_of m)) holds
tried_listens m place r (Decision.held id) by holds = holds
tried_listens m place r Decision.goes_on by holds = carried_listens (unparked m place) r r.envelope.request by holds

pub retried_listens : (m : Machine) (place : ℕ) (found : Option ParkedRequest) → slice_get m.parked place ≡ found → WaitersAsk m.parked → AreListening m → AreListening (retried_if m place found)
retried_listens m place None is waits holds = holds
retried_listens m place (Some r) is waits holds =
    tried_listens m place r (retry_decision m r.session r.envelope.request) (waits_token m.past.released r.envelope.request (waiter_asks m.parked place r is waits).waits) holds
