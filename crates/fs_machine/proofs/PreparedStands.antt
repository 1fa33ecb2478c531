-- A request that is answered by a number and a time has left the pending commit of that number, behind all others.
use Rattle.std.proofs.Common.{◌≡◌, ℕ, ℤ, ◌≤◌, Bool, true, false, cond, List, [], ◌∷◌, ◌++◌, Option, Some, None, refl, sym, ap, ◌∙◌, subst, arith, inl, inr, Result, Ok, Err}
use Rattle.std.specs.Prelude.{◌+◌, ◌==◌, codes, is_none, pos, length, nat_le, remove, slice_get}
use Rattle.std.proofs.lemmas.Bool.{and_from, eq-eqb, eqb-true}
use Rattle.fs_path.specs.declared.name.Root.{Root}
use Rattle.fs_request.specs.declared.message.Message.TheVariants as message
use Rattle.fs_request.specs.declared.request.Request.TheVariants as request
use Rattle.fs_request.specs.declared.request.Request.TheVariants.{Commit, GetDocument, BatchGetDocuments, RunQuery, BeginTransaction, Rollback, AddTarget, RemoveTarget}
use Rattle.fs_request.specs.declared.request.Request.{Request}
use Rattle.fs_request.specs.declared.stream_request.StreamRequest.TheVariants.{Open, Resume, Batch, Ask, Mixed}
use Rattle.fs_request.specs.declared.stream_request.StreamRequest.{StreamRequest}
use Rattle.fs_status.specs.Refusal.{at_limit}
use Rattle.fs_status.specs.declared.refusal.Refusal.{Refusal}
use Rattle.fs_stream.specs.Streams.{Streams}
use Rattle.fs_txn.specs.Transactions.{expired_of, is_read_write, txn_of}
use Rattle.fs_txn.specs.declared.txn.Txn.{Txn}
use Rattle.fs_write.specs.Batch.{Docs}
use Rattle.fs_write.specs.declared.write.Write.{Write}
use Rattle.fs_write.specs.declared.write_result.WriteResult.{WriteResult}
use Rattle.fs_machine.specs.AnswersStand.{AskedIsPending, IsPendingIn, PreparedStands, RetriedIsPending, StaysPending, batch_in, writes_in}
use Rattle.fs_machine.specs.Commit.{committed_answer_in, committed_answer_unless, committed_in, committed_unless, next_commit, only_reads, unless_closed, writing_refusal}
use Rattle.fs_machine.specs.Conflict.{conflict}
use Rattle.fs_machine.specs.Event.{Event, step}
use Rattle.fs_machine.specs.Facts.{Facts}
use Rattle.fs_machine.specs.IdsAreDrawn.{counted, times_in}
use Rattle.fs_machine.specs.Numbered.{draws}
use Rattle.fs_machine.specs.Open.{is_full, with_session}
use Rattle.fs_machine.specs.Past.{Past, batches}
use Rattle.fs_machine.specs.Refusing.{next_time}
use Rattle.fs_machine.specs.Request.{Decision, answer_by, answered_unless, arrival_refusal, arrived, arrives, asked, asked_unless, carried_by, check_refusal, comes, decided_answer, decision, held_by, numbered, refused_by, retry_refusal, taken_unless, unless_full, unless_held, unless_refused}
use Rattle.fs_machine.specs.Retry.{retried, retried_if, retry_decision, tried}
use Rattle.fs_machine.specs.Settle.{decided_if, decided_with, is_it, outcome_of, pending_in, pending_of}
use Rattle.fs_machine.specs.State.{Machine}
use Rattle.fs_machine.specs.Stream.{as_commit, batch_commit, taken_as, taker}
use Rattle.fs_machine.specs.Transact.{refusal_unless, with_ended}
use Rattle.fs_machine.specs.declared.answer.Answer.TheVariants.{Reply, Prepared, Held, InProgress, Refused}
use Rattle.fs_machine.specs.declared.answer.Answer.{Answer}
use Rattle.fs_machine.specs.declared.numbers.Numbers.{Numbers}
use Rattle.fs_machine.specs.declared.parked_request.ParkedRequest.{ParkedRequest}
use Rattle.fs_machine.specs.declared.unreleased.Unreleased.{Unreleased}
use Rattle.fs_machine.proofs.Carried.{AtMostPrepares, asked_follows, retried_follows}
use Rattle.fs_machine.proofs.IdsAreDrawn.{in_more}
use Rattle.fs_machine.proofs.Listening.{loaded_rest, raised_rest}
use Rattle.fs_machine.proofs.Ordinary.{IsNoAbort, carried_told, is_commit, isnt_pending, none_arrival, refused_told}
use Rattle.fs_machine.proofs.OutcomesStay.{found_accepted, found_dropped, found_more, it_is_one, pending_released}
use Rattle.fs_machine.proofs.Pending.{number_found}
use Rattle.fs_machine.proofs.Runs.{keeps}
use Rattle.fs_machine.proofs.Streaming.{taken_rest}

-- ---- the last is the pending one of its number, where no other has the number

last_next : (v : Unreleased) (us : List Unreleased) (u : Unreleased) (b : Bool) → is_it u.batch.id v ≡ b → counted u.batch.id v.batch.id ≡ 0 → pending_in u.batch.id (us ++ u ∷ []) ≡ Some u
    → cond b (Some v) (pending_in u.batch.id (us ++ u ∷ [])) ≡ Some u
last_next v us u true is none more = let one = it_is_one u.batch.id v is in absurd (omega (arith, one, none))
last_next v us u false is none more = more

last_pending : (us : List Unreleased) (u : Unreleased) → is_it u.batch.id u ≡ true → times_in u.batch.id (batches us) ≡ 0 → pending_in u.batch.id (us ++ u ∷ []) ≡ Some u
last_pending [] u it none = ap (λ b. cond b (Some u) None) it
last_pending (v ∷ us) u it none = last_next v us u (is_it u.batch.id v) refl (omega (arith, none)) (last_pending us u it (omega (arith, none)))

-- one is pending behind the others
record Adds (p q : Past) (id : ℕ) (at : ℤ) (ws : List Write) : Type 0 where
  commit : Unreleased
  behind : q.unreleased ≡ p.unreleased ++ commit ∷ []
  number : commit.batch.id ≡ id
  time : commit.batch.time ≡ at
  writes : commit.batch.writes ≡ ws
  itself : is_it commit.batch.id commit ≡ true

found_last : (p q : Past) (id : ℕ) (time : ℤ) (ws : List Write) → Adds p q id time ws → ((n : ℕ) → times_in n (batches q.unreleased) ≤ 1) → IsPendingIn q id time ws
found_last p q id time ws adds few =
    let u = adds.commit in
    let here : times_in u.batch.id (batches (p.unreleased ++ u ∷ [])) ≤ 1 = subst (λ (us : List Unreleased). times_in u.batch.id (batches us) ≤ 1) adds.behind (few u.batch.id) in
    let more = in_more u.batch.id p.unreleased u in
    let one = it_is_one u.batch.id u adds.itself in
    let none : times_in u.batch.id (batches p.unreleased) ≡ 0 = omega (arith, here, more, one) in
    let found = last_pending p.unreleased u adds.itself none in
    record {
      commit = u;
      found = ap (λ (us : List Unreleased). pending_in id us) adds.behind ∙ subst (λ (n : ℕ). pending_in n (p.unreleased ++ u ∷ []) ≡ Some u) adds.number found;
      time = adds.time;
      writes = adds.writes;
    }

-- ---- one that is carried out

abbrev number_told : Answer → ℕ
number_told (Prepared id time) = id
number_told (Reply message) = 0
number_told (Held id) = 0
number_told (InProgress n) = 0
number_told (Refused refusal) = 0

abbrev time_told : Answer → ℤ
time_told (Prepared id time) = time
time_told (Reply message) = pos 0
time_told (Held id) = pos 0
time_told (InProgress n) = pos 0
time_told (Refused refusal) = pos 0

adds_next : (p q : Past) (number id : ℕ) (time : ℤ) (ws : List Write) (u : Unreleased) → q.unreleased ≡ p.unreleased ++ u ∷ [] → u.batch.id ≡ number → u.batch.time ≡ next_time p → u.batch.writes ≡ ws → u.results ≡ None
    → Prepared number (next_time p) ≡ Prepared id time → Adds p q id time ws
adds_next p q number id time ws u behind own at writes pending is =
    record {
      commit = u;
      behind = behind;
      number = own ∙ ap number_told is;
      time = at ∙ ap time_told is;
      writes = writes;
      itself = and_from (u.batch.id == u.batch.id) _ (eq-eqb u.batch.id u.batch.id refl) (ap is_none pending);
    }

-- the machine that answers, and the one that goes on from there, differ from one by numbers, by what waits, and by streams
module _ (m : Machine) (k j : Numbers) (ps : List ParkedRequest) (s : Streams) (r : ParkedRequest) (id : ℕ) (time : ℤ) where
  abbrev asks : Machine
  asks = record m { numbers = k }

  abbrev goes : Machine
  goes = record m { numbers = j; parked = ps; streams = s }

  unless_adds : (ws : List Write) (t : Txn) (found : Option ℕ) → committed_answer_unless asks t found ≡ Prepared id time → Adds m.past (committed_unless goes r ws t found).past id time ws
  unless_adds ws t (Some other) is = absurd (cc)
  unless_adds ws t None is = adds_next m.past _ t.id id time ws (next_commit m.past t.id r ws t.reads) refl refl refl refl refl is

  if_adds : (ws : List Write) (t : Txn) (b : Bool)
      → cond b (committed_answer_unless asks t (conflict m.config.mode m.past m.txns.open t ws)) (Reply (message.Commit r.envelope.id t.read_time [])) ≡ Prepared id time
      → Adds m.past (cond b (committed_unless goes r ws t (conflict m.config.mode m.past m.txns.open t ws)) (with_ended goes t.id)).past id time ws
  if_adds ws t true is = unless_adds ws t (conflict m.config.mode m.past m.txns.open t ws) is
  if_adds ws t false is = absurd (cc)

  in_adds : (ws : List Write) (of : ℕ) (found : Option Txn) → unless_closed (refusal_unless of (expired_of of m.txns.expired) found) (writing_refusal ws of (only_reads m (Some of))) ≡ None
      → committed_answer_in asks r ws found ≡ Prepared id time → Adds m.past (committed_in goes r ws found).past id time ws
  in_adds ws of None free is = absurd (cc)
  in_adds ws of (Some t) free is = if_adds ws t (is_read_write t.kind) is

  other_adds : (q : Request) → is_commit q ≡ false → answer_by asks r q ≡ Prepared id time → Adds m.past (carried_by goes r q).past id time (writes_in q)
  other_adds q isnt is = absurd (isnt_pending (answer_by asks r q) id time (carried_told asks r q isnt) is)

  carried_adds : (q : Request) → check_refusal m r.session q ≡ None → answer_by asks r q ≡ Prepared id time → Adds m.past (carried_by goes r q).past id time (writes_in q)
  carried_adds (Commit database ws None) free is = adds_next m.past _ r.id id time ws (next_commit m.past r.id r ws []) refl refl refl refl refl is
  carried_adds (Commit database ws (Some of)) free is = in_adds ws of (txn_of of m.txns.open) free is
  carried_adds (GetDocument name mask when) free is = other_adds (GetDocument name mask when) refl is
  carried_adds (BatchGetDocuments database names mask when) free is = other_adds (BatchGetDocuments database names mask when) refl is
  carried_adds (RunQuery database query when) free is = other_adds (RunQuery database query when) refl is
  carried_adds (BeginTransaction database o) free is = other_adds (BeginTransaction database o) refl is
  carried_adds (Rollback database transaction) free is = other_adds (Rollback database transaction) refl is
  carried_adds (AddTarget database target t token) free is = other_adds (AddTarget database target t token) refl is
  carried_adds (RemoveTarget database target) free is = other_adds (RemoveTarget database target) refl is
  carried_adds (request.Write database asked) free is = other_adds (request.Write database asked) refl is

-- ---- one that comes

module _ (m : Machine) (k : Numbers) (r : ParkedRequest) (id : ℕ) (time : ℤ) where
  abbrev drew : Machine
  drew = record m { numbers = k }

  full_adds : (by : ℕ) (full : Bool) → decided_answer drew r (cond full (Decision.refused (at_limit (codes "parked") m.limits.parked)) (Decision.held by)) ≡ Prepared id time
      → Adds m.past (comes drew r (cond full (Decision.refused (at_limit (codes "parked") m.limits.parked)) (Decision.held by))).past id time (writes_in r.envelope.request)
  full_adds by true is = absurd (cc)
  full_adds by false is = absurd (cc)

  goes_adds : check_refusal m r.session r.envelope.request ≡ None → decided_answer drew r Decision.goes_on ≡ Prepared id time → Adds m.past (comes drew r Decision.goes_on).past id time (writes_in r.envelope.request)
  goes_adds free is =
      let taken = taken_unless Decision.goes_on r.stream drew in
      subst (λ (x : Machine). Adds m.past (arrives x r Decision.goes_on).past id time (writes_in r.envelope.request)) (sym (taken_rest Decision.goes_on r.stream drew))
      (carried_adds m k k m.parked taken.streams r id time r.envelope.request free is)

  decided_adds : (refusal : Option Refusal) (found : Option ℕ) → check_refusal m r.session r.envelope.request ≡ refusal → decided_answer drew r (unless_full m (unless_refused refusal (unless_held found))) ≡ Prepared id time
      → Adds m.past (comes drew r (unless_full m (unless_refused refusal (unless_held found)))).past id time (writes_in r.envelope.request)
  decided_adds (Some refusal) found free is = absurd (cc)
  decided_adds None (Some by) free is = full_adds by (nat_le m.limits.parked (length m.parked)) is
  decided_adds None None free is = goes_adds free is

drawn_adds : (m : Machine) (r : ParkedRequest) (id : ℕ) (time : ℤ) (b : Bool)
    → (let n = cond b (record m { numbers = record m.numbers { ids = m.numbers.ids + 1 } }) m in
    let d = unless_full m (decision m r.session r.envelope.request) in
    decided_answer n r d ≡ Prepared id time → Adds m.past (comes n r d).past id time (writes_in r.envelope.request))
drawn_adds m r id time true is =
    decided_adds m (record m.numbers { ids = m.numbers.ids + 1 }) r id time (check_refusal m r.session r.envelope.request) (held_by m r.envelope.request) refl is
drawn_adds m r id time false is = decided_adds m m.numbers r id time (check_refusal m r.session r.envelope.request) (held_by m r.envelope.request) refl is

asked_adds : (m : Machine) (r : ParkedRequest) (id : ℕ) (time : ℤ) (refusal : Option Refusal) → IsNoAbort refusal → answered_unless refusal m r ≡ Prepared id time
    → Adds m.past (asked_unless refusal m r).past id time (writes_in r.envelope.request)
asked_adds m r id time (Some refusal) none is = absurd (isnt_pending (refused_by m r.session r.envelope.request refusal) id time (refused_told m r.session r.envelope.request refusal none) is)
asked_adds m r id time None none is = drawn_adds m r id time (draws r.envelope.request) is

-- a batch is a commit of its writes
batch_writes : (database : Root) (asked : StreamRequest) → writes_in (batch_commit (request.Write database asked) asked) ≡ batch_in asked
batch_writes database Open = refl
batch_writes database (Resume n token) = refl
batch_writes database (Batch token ws) = refl
batch_writes database (Ask token) = refl
batch_writes database (Mixed n token ws) = refl

commit_writes : (q : Request) → writes_in (as_commit q) ≡ writes_in q
commit_writes (Commit database ws transaction) = refl
commit_writes (GetDocument name mask when) = refl
commit_writes (BatchGetDocuments database names mask when) = refl
commit_writes (RunQuery database query when) = refl
commit_writes (BeginTransaction database o) = refl
commit_writes (Rollback database transaction) = refl
commit_writes (AddTarget database target t token) = refl
commit_writes (RemoveTarget database target) = refl
commit_writes (request.Write database asked) = batch_writes database asked

taken_writes : (stream : Option ℕ) (r : ParkedRequest) → writes_in (taken_as stream r).envelope.request ≡ writes_in r.envelope.request
taken_writes None r = refl
taken_writes (Some n) r = commit_writes r.envelope.request

few_unreleased : (m : Machine) → Facts m → (n : ℕ) → times_in n (batches m.past.unreleased) ≤ 1
few_unreleased m facts n = let few = (facts.ids n).0 in omega (arith, few)

asked_is_pending : (m : Machine) → Facts m → AskedIsPending m
asked_is_pending m facts session e id time is =
    let r = arrived m session e in
    let n = asked m session e in
    let adds = asked_adds m r id time (arrival_refusal m session e.request) (none_arrival m session e.request) is in
    let found = found_last m.past n.past id time (writes_in r.envelope.request) adds (few_unreleased n (keeps m (Event.asking session e) facts)) in
    subst (IsPendingIn n.past id time) (taken_writes (taker m session e.request) (numbered m session e)) found

-- ---- one that waited

tried_adds : (m : Machine) (place : ℕ) (r : ParkedRequest) (id : ℕ) (time : ℤ) (first refusal : Option Refusal) (found : Option ℕ) → check_refusal m r.session r.envelope.request ≡ refusal
    → decided_answer m r (unless_refused first (unless_refused refusal (unless_held found))) ≡ Prepared id time
    → Adds m.past (tried m place r (unless_refused first (unless_refused refusal (unless_held found)))).past id time (writes_in r.envelope.request)
tried_adds m place r id time (Some first) refusal found free is = absurd (cc)
tried_adds m place r id time None (Some refusal) found free is = absurd (cc)
tried_adds m place r id time None None (Some by) free is = absurd (cc)
tried_adds m place r id time None None None free is = carried_adds m m.numbers m.numbers (remove m.parked place) m.streams r id time r.envelope.request free is

retried_is_pending : (m : Machine) → Facts m → RetriedIsPending m
retried_is_pending m facts place r id time here is =
    let n = retried m place in
    let d = retry_decision m r.session r.envelope.request in
    let adds = tried_adds m place r id time (retry_refusal m r.envelope.request) (check_refusal m r.session r.envelope.request) (held_by m r.envelope.request) refl is in
    let same : n ≡ tried m place r d = ap (retried_if m place) here in
    let there = subst (λ (x : Machine). Adds m.past x.past id time (writes_in r.envelope.request)) (sym same) adds in
    found_last m.past n.past id time (writes_in r.envelope.request) there (few_unreleased n (keeps m (Event.retrying place) facts))

-- ---- until it is settled

module _ (m : Machine) (id : ℕ) (u : Unreleased) (is : pending_of m.past id ≡ Some u) where
  -- as it is then
  abbrev IsStill : Machine → Type 0
  IsStill n = pending_of n.past id ≡ Some u

  follows_still : (q : Past) → AtMostPrepares m.past q → pending_of q id ≡ Some u
  follows_still q (inl same) = ap (λ (p : Past). pending_of p id) same ∙ is
  follows_still q (inr one) = ap (λ (p : Past). pending_of p id) one.1 ∙ found_more m.past.unreleased one.0 id u is

  opened_still : (full : Bool) → IsStill (cond full m (with_session m))
  opened_still true = is
  opened_still false = is

  decided_still : (c : Unreleased) (r : Result (Docs × List WriteResult) Refusal) (b : Bool) → (c.batch.id == id) ≡ b → (c.batch.id ≡ id → ⊥) → IsStill (decided_with m c r)
  decided_still c r true same other = absurd (other (eqb-true c.batch.id id same))
  decided_still c (Ok done) false apart other = found_accepted m.past.unreleased c.batch.id id done.1 apart ∙ is
  decided_still c (Err refusal) false apart other = found_dropped m.past.unreleased c.batch.id id apart ∙ is

  if_still : (of : ℕ) (found : Option Unreleased) → pending_of m.past of ≡ found → (of ≡ id → ⊥) → IsStill (decided_if m found)
  if_still of None here other = is
  if_still of (Some c) here other =
      decided_still c (outcome_of m.past c) (c.batch.id == id) refl (λ same. other (sym (number_found m.past.unreleased of c here) ∙ same))

  still : (e : Event) → Facts m → (e ≡ Event.deciding id → ⊥) → IsStill (step m e)
  still Event.opening facts other = opened_still (is_full m)
  still (Event.leaving session) facts other = is
  still (Event.asking session e) facts other = follows_still (asked m session e).past (asked_follows m (arrived m session e) (arrival_refusal m session e.request))
  still (Event.retrying place) facts other = follows_still (retried m place).past (retried_follows m place (slice_get m.parked place))
  still (Event.deciding of) facts other = if_still of (pending_of m.past of) refl (λ same. other (ap Event.deciding same))
  still (Event.advancing now) facts other = is
  still Event.releasing facts other = pending_released m.past id facts.past.unreleased ∙ is
  still (Event.compacting to) facts other = is
  still (Event.loading session target at) facts other = ap (λ (n : Machine). pending_of n.past id) (loaded_rest m session target at) ∙ is
  still (Event.matching shard to) facts other = is
  still (Event.raising session) facts other = ap (λ (n : Machine). pending_of n.past id) (raised_rest m session) ∙ is
  still (Event.taking session) facts other = is

stays_pending : (m : Machine) → Facts m → StaysPending m
stays_pending m facts id u [] is others = is
stays_pending m facts id u (e ∷ es) is others = stays_pending (step m e) (keeps m e facts) id u es (still m id u is e facts others.0) others.1

pub prepared_stands : PreparedStands
prepared_stands m facts = (asked_is_pending m facts, retried_is_pending m facts, stays_pending m facts)
