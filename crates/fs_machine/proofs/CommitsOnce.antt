-- An event adds no more to what was committed, or may be, than it asks for.
use Rattle.std.proofs.Common.{◌≡◌, inl, inr, ℕ, ℤ, ◌+◌, ◌≤◌, Bool, true, false, cond, List, [], ◌∷◌, Option, Some, None, Result, Ok, Err, length, refl, sym, ap, ◌∙◌, arith, eq-eqb}
use Rattle.std.specs.Prelude.{pos, negsuc, ◌&&◌, ◌==◌, not, remove, slice_get, unwrap_or}
use Rattle.std.proofs.lemmas.List.{length-append}
use Rattle.fs_history.specs.declared.batch.Batch.{Batch}
use Rattle.fs_path.specs.declared.name.Root.{Root}
use Rattle.fs_request.specs.declared.request.Envelope.{Envelope}
use Rattle.fs_request.specs.declared.request.Request.{Request}
use Rattle.fs_request.specs.declared.request.Request.TheVariants.{Commit, GetDocument, BatchGetDocuments, RunQuery, BeginTransaction, Rollback, AddTarget, RemoveTarget}
use Rattle.fs_request.specs.declared.request.Request.TheVariants as request
use Rattle.fs_request.specs.declared.stream_request.StreamRequest.{StreamRequest}
use Rattle.fs_request.specs.declared.stream_request.StreamRequest.TheVariants as asks
use Rattle.fs_request.specs.declared.when.When.{When}
use Rattle.fs_request.specs.declared.when.When.TheVariants.{Released, At, In}
use Rattle.fs_status.specs.declared.refusal.Refusal.{Refusal}
use Rattle.fs_stream.proofs.Standing.{new_owned}
use Rattle.fs_stream.specs.declared.error.StreamError.{StreamError}
use Rattle.fs_stream.specs.declared.take.Take.{Take}
use Rattle.fs_stream.specs.declared.take.Take.TheVariants.{New, Repeat, InProgress}
use Rattle.fs_write.specs.Batch.{Docs}
use Rattle.fs_write.specs.declared.write_result.WriteResult.{WriteResult}
use Rattle.fs_machine.specs.CommitsOnce.{asked_in, asks_for, commits_in, is_commit}
use Rattle.fs_machine.specs.Event.{Event, after, step}
use Rattle.fs_machine.specs.Leave.{is_own}
use Rattle.fs_machine.specs.Numbered.{draws}
use Rattle.fs_machine.specs.Open.{is_full, with_session}
use Rattle.fs_machine.specs.Past.{Past}
use Rattle.fs_machine.specs.Read.{read_in}
use Rattle.fs_machine.specs.Release.{free_to, freed, is_freed, joined, kept_back}
use Rattle.fs_machine.specs.Request.{Decision, arrival_refusal, arrived, arrives, asked_unless, carried, carried_by, comes, decision, taken_unless, unless_full}
use Rattle.fs_machine.specs.Retry.{retried_if, retry_decision, tried, unparked}
use Rattle.fs_machine.specs.Settle.{accepted_in, decided_if, decided_with, dropped_from, is_it, outcome_of, pending_of}
use Rattle.fs_machine.specs.State.{Machine}
use Rattle.fs_machine.specs.Stream.{new_of, own_stream, take_of, taken_as, taker_of}
use Rattle.fs_machine.specs.StreamLaws.{isnt_refused, sent_in, taken_of}
use Rattle.fs_machine.specs.StreamsHold.{one_if, tally}
use Rattle.fs_machine.specs.declared.parked_request.ParkedRequest.{ParkedRequest}
use Rattle.fs_machine.specs.declared.unreleased.Unreleased.{Unreleased}
use Rattle.fs_machine.proofs.Carried.{AtMostPrepares, carried_follows, carried_rest}
use Rattle.fs_machine.proofs.Listening.{loaded_rest, raised_rest}
use Rattle.fs_machine.proofs.Streaming.{streamed_rest, taken_rest}
use Rattle.fs_machine.proofs.Tallies.{count_more, count_parts, count_without, without_place}

-- ---- what is carried out

-- the history, and the commits that aren't released
abbrev both_of : Past → ℕ
both_of p = length p.history + length p.unreleased

-- the commits that wait
abbrev waiting : List ParkedRequest → ℕ
waiting rs = tally (λ (r : ParkedRequest). is_commit r.envelope.request) rs

prepares_one : (p q : Past) → AtMostPrepares p q → both_of q ≤ both_of p + 1
prepares_one p q (inl same) = let is = ap both_of same in omega (arith, is)
prepares_one p q (inr (u, is, later)) = let here = ap both_of is in let more = length-append p.unreleased (u ∷ []) in omega (arith, here, more)

read_past : (m : Machine) (when : When) (q : Request) → (read_in m when q).past ≡ m.past
read_past m Released q = refl
read_past m (At time) q = refl
read_past m (In id) q = refl

same_both : (p q : Past) → q ≡ p → both_of q ≤ both_of p + 0
same_both p q same = let is = ap both_of same in omega (arith, is)

carried_one : (m : Machine) (r : ParkedRequest) (q : Request) → both_of (carried_by m r q).past ≤ both_of m.past + one_if (is_commit q)
carried_one m r (Commit database writes transaction) = prepares_one m.past (carried_by m r (Commit database writes transaction)).past (carried_follows m r (Commit database writes transaction))
carried_one m r (GetDocument name mask when) = same_both m.past _ (read_past m when (GetDocument name mask when))
carried_one m r (BatchGetDocuments database names mask when) = same_both m.past _ (read_past m when (BatchGetDocuments database names mask when))
carried_one m r (RunQuery database query when) = same_both m.past _ (read_past m when (RunQuery database query when))
carried_one m r (BeginTransaction database options) = same_both m.past m.past refl
carried_one m r (Rollback database transaction) = same_both m.past m.past refl
carried_one m r (AddTarget database target t token) = same_both m.past m.past refl
carried_one m r (RemoveTarget database (pos target)) = same_both m.past m.past refl
carried_one m r (RemoveTarget database (negsuc target)) = same_both m.past m.past refl
carried_one m r (request.Write database asked) = same_both m.past _ (ap (λ (n : Machine). n.past) (streamed_rest m r.session asked))

carried_all : (m : Machine) (r : ParkedRequest) → commits_in (carried m r) ≤ commits_in m + one_if (is_commit r.envelope.request)
carried_all m r =
    let one = carried_one m r r.envelope.request in
    let same = ap (λ (n : Machine). waiting n.parked) (carried_rest m r r.envelope.request) in
    omega (arith, one, same)

-- ---- a request that comes

-- it isn't refused, and is a commit
abbrev adds : ParkedRequest → Decision → ℕ
adds r d = cond (isnt_refused d) (one_if (is_commit r.envelope.request)) 0

arrives_one : (m : Machine) (r : ParkedRequest) (d : Decision) → commits_in (arrives m r d) ≤ commits_in m + adds r d
arrives_one m r (Decision.refused refusal) = omega arith
arrives_one m r (Decision.held id) = let more = count_more (λ (x : ParkedRequest). is_commit x.envelope.request) m.parked r in omega (arith, more)
arrives_one m r Decision.goes_on = carried_all m r

comes_one : (m : Machine) (r : ParkedRequest) (d : Decision) → commits_in (comes m r d) ≤ commits_in m + adds r d
comes_one m r d =
    let n = taken_unless d r.stream m in
    let same = ap commits_in (taken_rest d r.stream m) in
    let one = arrives_one n r d in
    omega (arith, same, one)

-- what becomes of it adds so many
abbrev adds_if : Machine → ParkedRequest → Option Refusal → ℕ
adds_if m r (Some refusal) = 0
adds_if m r None = adds r (unless_full m (decision m r.session r.envelope.request))

asked_one : (m : Machine) (r : ParkedRequest) (refusal : Option Refusal) → commits_in (asked_unless refusal m r) ≤ commits_in m + adds_if m r refusal
asked_one m r (Some refusal) = omega arith
asked_one m r None = by_test (draws r.envelope.request) where
  d : Decision
  d = unless_full m (decision m r.session r.envelope.request)

  by_test : (b : Bool) → commits_in (comes (cond b (record m { numbers = record m.numbers { ids = m.numbers.ids + 1 } }) m) r d) ≤ commits_in m + adds r d
  by_test true = comes_one (record m { numbers = record m.numbers { ids = m.numbers.ids + 1 } }) r d
  by_test false = comes_one m r d

-- ---- which it asked for

module _ (m : Machine) (session : ℕ) where
  own_told : (token k : ℕ) (told : Result Take StreamError) → take_of m session token ≡ told → new_of told ≡ Some k → own_stream m session ≡ k
  own_told token k (Ok (New to)) is new = let same : to ≡ k = cc in ap (λ o. unwrap_or o 0) (new_owned session token to m.streams is) ∙ same
  own_told token k (Ok (Repeat kept)) is new = absurd (cc)
  own_told token k (Ok (InProgress finished)) is new = absurd (cc)
  own_told token k (Err e) is new = absurd (cc)

  -- it is no commit
  none_added : (r : ParkedRequest) (refusal : Option Refusal) (more : ℕ) → is_commit r.envelope.request ≡ false → adds_if m r refusal ≤ more
  none_added r (Some refusal) more is = omega arith
  none_added r None more is = by_test (isnt_refused (unless_full m (decision m r.session r.envelope.request))) where
    none : one_if (is_commit r.envelope.request) ≡ 0
    none = ap one_if is

    by_test : (b : Bool) → cond b (one_if (is_commit r.envelope.request)) 0 ≤ more
    by_test true = omega (arith, none)
    by_test false = omega arith

  one_added : (r : ParkedRequest) (refusal : Option Refusal) (more : ℕ) → is_commit r.envelope.request ≡ true → adds_if m r refusal ≤ 1 + more
  one_added r (Some refusal) more is = omega arith
  one_added r None more is = by_test (isnt_refused (unless_full m (decision m r.session r.envelope.request))) where
    one : one_if (is_commit r.envelope.request) ≡ 1
    one = ap one_if is

    by_test : (b : Bool) → cond b (one_if (is_commit r.envelope.request)) 0 ≤ 1 + more
    by_test true = omega (arith, one)
    by_test false = omega arith

  module _ (number : ℕ) (of : Option (List ℕ)) (database : Root) where
    abbrev takes_as : Option ℕ → StreamRequest → ParkedRequest
    takes_as stream asked = taken_as stream (record { session = session; id = number; stream = None; envelope = record { id = of; request = request.Write database asked } })

    batch_added : (asked : StreamRequest) (stream : Option ℕ) → taker_of m session asked ≡ stream → (refusal : Option Refusal)
        → adds_if m (takes_as stream asked) refusal ≤ 0 + length (taken_of m (own_stream m session) (request.Write database asked) (takes_as stream asked) refusal)
    batch_added asked None takes refusal = none_added (takes_as None asked) refusal _ refl
    batch_added asks.Open (Some k) takes refusal = absurd (cc)
    batch_added (asks.Resume to token) (Some k) takes refusal = absurd (cc)
    batch_added (asks.Batch token writes) (Some k) takes (Some refusal) = omega arith
    batch_added (asks.Batch token writes) (Some k) takes None =
        by_tests (k == own_stream m session) (eq-eqb k (own_stream m session) (sym (own_told token k (take_of m session token) refl takes)))
        (isnt_refused (unless_full m (decision m session (takes_as (Some k) (asks.Batch token writes)).envelope.request)))
      where
        by_tests : (same : Bool) → same ≡ true → (b : Bool) → cond b 1 0 ≤ 0 + length (cond (same && b) (sent_in (asks.Batch token writes)) [])
        by_tests true is true = omega arith
        by_tests true is false = omega arith
        by_tests false is b = absurd (cc)
    batch_added (asks.Ask token) (Some k) takes refusal = absurd (cc)
    batch_added (asks.Mixed to token writes) (Some k) takes refusal = absurd (cc)

  asked_added : (e : Envelope) (refusal : Option Refusal)
      → adds_if m (arrived m session e) refusal ≤ one_if (is_commit e.request) + length (taken_of m (own_stream m session) e.request (arrived m session e) refusal)
  asked_added e refusal = by_request e.request where
    of : Request → Envelope
    of q = record { id = e.id; request = q }

    by_request : (q : Request) → adds_if m (arrived m session (of q)) refusal ≤ one_if (is_commit q) + length (taken_of m (own_stream m session) q (arrived m session (of q)) refusal)
    by_request (Commit database writes transaction) = one_added (arrived m session (of (Commit database writes transaction))) refusal _ refl
    by_request (GetDocument name mask when) = none_added (arrived m session (of (GetDocument name mask when))) refusal _ refl
    by_request (BatchGetDocuments database names mask when) = none_added (arrived m session (of (BatchGetDocuments database names mask when))) refusal _ refl
    by_request (RunQuery database query when) = none_added (arrived m session (of (RunQuery database query when))) refusal _ refl
    by_request (BeginTransaction database options) = none_added (arrived m session (of (BeginTransaction database options))) refusal _ refl
    by_request (Rollback database transaction) = none_added (arrived m session (of (Rollback database transaction))) refusal _ refl
    by_request (AddTarget database id t token) = none_added (arrived m session (of (AddTarget database id t token))) refusal _ refl
    by_request (RemoveTarget database id) = none_added (arrived m session (of (RemoveTarget database id))) refusal _ refl
    by_request (request.Write database asked) = batch_added (m.numbers.ids + 1) e.id database asked (taker_of m session asked) refl refusal

-- ---- one that is tried again

tried_one : (m : Machine) (place : ℕ) (r : ParkedRequest) (d : Decision) → slice_get m.parked place ≡ Some r → commits_in (tried m place r d) ≤ commits_in m
tried_one m place r (Decision.refused refusal) here =
    let less = count_without (λ (x : ParkedRequest). is_commit x.envelope.request) r m.parked (remove m.parked place) (without_place m.parked place r here) in omega (arith, less)
tried_one m place r (Decision.held id) here = omega arith
tried_one m place r Decision.goes_on here =
    let less = count_without (λ (x : ParkedRequest). is_commit x.envelope.request) r m.parked (remove m.parked place) (without_place m.parked place r here) in
    let one = carried_all (unparked m place) r in
    omega (arith, less, one)

retried_one : (m : Machine) (place : ℕ) (found : Option ParkedRequest) → slice_get m.parked place ≡ found → commits_in (retried_if m place found) ≤ commits_in m
retried_one m place None is = omega arith
retried_one m place (Some r) is = tried_one m place r (retry_decision m r.session r.envelope.request) is

-- ---- settled, and released

accepted_length : (id : ℕ) (results : List WriteResult) (us : List Unreleased) → length (accepted_in id results us) ≡ length us
accepted_length id results [] = refl
accepted_length id results (u ∷ us) = by_test (is_it id u) (accepted_length id results us) where
  by_test : (b : Bool) → length (accepted_in id results us) ≡ length us → length (cond b (record u { results = Some results } ∷ us) (u ∷ accepted_in id results us)) ≡ length (u ∷ us)
  by_test true rest = refl
  by_test false rest = omega (arith, rest)

dropped_length : (id : ℕ) (us : List Unreleased) → length (dropped_from id us) ≤ length us
dropped_length id [] = omega arith
dropped_length id (u ∷ us) = by_test (is_it id u) (dropped_length id us) where
  by_test : (b : Bool) → length (dropped_from id us) ≤ length us → length (cond b us (u ∷ dropped_from id us)) ≤ length (u ∷ us)
  by_test true rest = omega arith
  by_test false rest = omega (arith, rest)

with_one : (m : Machine) (u : Unreleased) (r : Result (Docs × List WriteResult) Refusal) → commits_in (decided_with m u r) ≤ commits_in m
with_one m u (Ok done) = let same = accepted_length u.batch.id done.1 m.past.unreleased in omega (arith, same)
with_one m u (Err refusal) = let less = dropped_length u.batch.id m.past.unreleased in omega (arith, less)

decided_one : (m : Machine) (found : Option Unreleased) → commits_in (decided_if m found) ≤ commits_in m
decided_one m None = omega arith
decided_one m (Some u) = with_one m u (outcome_of m.past u)

joined_length : (us : List Unreleased) (h : List Batch) → length (joined h us) ≡ length h + length us
joined_length [] h = omega arith
joined_length (u ∷ us) h = let rest = joined_length us (u.batch ∷ h) in omega (arith, rest)

parts_length : (to : ℤ) (us : List Unreleased) → length (freed to us) + length (kept_back to us) ≡ length us
parts_length to [] = refl
parts_length to (u ∷ us) = by_test (is_freed to u) (parts_length to us) where
  by_test : (b : Bool) → length (freed to us) + length (kept_back to us) ≡ length us → length (cond b (u ∷ freed to us) (freed to us)) + length (cond (not b) (u ∷ kept_back to us) (kept_back to us)) ≡ length (u ∷ us)
  by_test true rest = omega (arith, rest)
  by_test false rest = omega (arith, rest)

-- ---- each event

opened_same : (m : Machine) (full : Bool) → commits_in (cond full m (with_session m)) ≡ commits_in m
opened_same m true = refl
opened_same m false = refl

adds_asked : (m : Machine) (e : Event) → commits_in (step m e) ≤ commits_in m + asks_for m e
adds_asked m Event.opening = let same = opened_same m (is_full m) in omega (arith, same)
adds_asked m (Event.leaving session) =
    let parts = count_parts (λ (r : ParkedRequest). is_commit r.envelope.request) (λ (r : ParkedRequest). not (is_own session r)) m.parked in omega (arith, parts)
adds_asked m (Event.asking session e) =
    let refusal = arrival_refusal m session e.request in
    let one = asked_one m (arrived m session e) refusal in
    let asked = asked_added m session e refusal in
    omega (arith, one, asked)
adds_asked m (Event.retrying place) = let one = retried_one m place (slice_get m.parked place) refl in omega (arith, one)
adds_asked m (Event.deciding id) = let one = decided_one m (pending_of m.past id) in omega (arith, one)
adds_asked m (Event.advancing now) = omega arith
adds_asked m Event.releasing =
    let to = free_to m.past.last m.past.unreleased in
    let joins = joined_length (freed to m.past.unreleased) m.past.history in
    let parts = parts_length to m.past.unreleased in
    omega (arith, joins, parts)
adds_asked m (Event.compacting to) = omega arith
adds_asked m (Event.loading session target at) = let same = ap commits_in (loaded_rest m session target at) in omega (arith, same)
adds_asked m (Event.matching shard to) = omega arith
adds_asked m (Event.raising session) = let same = ap commits_in (raised_rest m session) in omega (arith, same)
adds_asked m (Event.taking session) = omega arith

pub requests_commit_once : (m : Machine) (es : List Event) → commits_in (after m es) ≤ commits_in m + asked_in m es
requests_commit_once m [] = omega arith
requests_commit_once m (e ∷ es) = let one = adds_asked m e in let rest = requests_commit_once (step m e) es in omega (arith, one, rest)
