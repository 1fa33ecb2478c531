-- What a request that comes, or is tried again, keeps of streams.
use Rattle.std.proofs.Common.{◌≡◌, ◌⊎◌, inl, inr, ℕ, ◌+◌, ◌<◌, ◌≤◌, Bool, true, false, cond, List, [], ◌∷◌, ◌++◌, Option, Some, None, Result, Ok, Err, length, refl, sym, ap, ◌∙◌, subst, arith}
use Rattle.std.specs.Prelude.{◌==◌, codes, is_some, nat_le, not, pos, negsuc, remove, slice_get}
use Rattle.fs_path.specs.declared.name.Root.{Root}
use Rattle.fs_request.specs.declared.request.Envelope.{Envelope}
use Rattle.fs_request.specs.declared.request.Request.{Request}
use Rattle.fs_request.specs.declared.request.Request.TheVariants.{Commit, GetDocument, BatchGetDocuments, RunQuery, BeginTransaction, Rollback, AddTarget, RemoveTarget}
use Rattle.fs_request.specs.declared.request.Request.TheVariants as request
use Rattle.fs_request.specs.declared.stream_request.StreamRequest.{StreamRequest}
use Rattle.fs_request.specs.declared.stream_request.StreamRequest.TheVariants.{Open, Resume, Batch, Ask, Mixed}
use Rattle.fs_request.specs.declared.when.When.{When}
use Rattle.fs_request.specs.declared.when.When.TheVariants.{Released, At, In}
use Rattle.fs_status.specs.Refusal.{at_limit}
use Rattle.fs_status.specs.declared.refusal.Refusal.{Refusal}
use Rattle.fs_stream.proofs.Standing.{new_free, new_there, opened_between, stands_handed, stands_opened}
use Rattle.fs_stream.specs.Answers.{is_opened, owns_other, resume_answer, resumption_told}
use Rattle.fs_stream.specs.Stands.{Stands}
use Rattle.fs_stream.specs.Streams.{Streams, stream_of}
use Rattle.fs_stream.specs.declared.error.StreamError.{StreamError}
use Rattle.fs_stream.specs.declared.error.StreamError.TheVariants as error
use Rattle.fs_stream.specs.declared.take.Resumed.{Resumed}
use Rattle.fs_stream.specs.declared.take.Take.{Take}
use Rattle.fs_stream.specs.declared.take.Take.TheVariants.{New, Repeat, InProgress}
use Rattle.fs_txn.specs.Transactions.{is_read_write, txn_of}
use Rattle.fs_txn.specs.declared.txn.Txn.{Txn}
use Rattle.fs_write.specs.declared.write.Write.{Write}
use Rattle.fs_machine.specs.Commit.{asker_by, committed_in, committed_unless, committed, next_commit, past_prepared}
use Rattle.fs_machine.specs.Conflict.{conflict}
use Rattle.fs_machine.specs.Numbered.{draws}
use Rattle.fs_machine.specs.Past.{Past}
use Rattle.fs_machine.specs.Read.{read_in}
use Rattle.fs_machine.specs.Request.{Decision, arrived, arrives, asked_unless, carried, carried_by, check_refusal, comes, decision, held_by, retry_refusal, taken_unless, unless_full, unless_held, unless_refused, writer_behind}
use Rattle.fs_machine.specs.Retry.{given_up, retried_if, tried, unparked}
use Rattle.fs_machine.specs.State.{Machine}
use Rattle.fs_machine.specs.Stream.{desk_of, kept_refused, new_of, stream_check, streamed, take_of, taken_as, unless_taken}
use Rattle.fs_machine.specs.StreamsHold.{StreamsHold, answers, is_for, one_if, tally, under_way}
use Rattle.fs_machine.specs.Transact.{with_ended}
use Rattle.fs_machine.specs.WaitersAsk.{Asks, WaitersAsk, is_plain}
use Rattle.fs_machine.specs.declared.numbers.Numbers.{Numbers}
use Rattle.fs_machine.specs.declared.parked_request.ParkedRequest.{ParkedRequest}
use Rattle.fs_machine.specs.declared.unreleased.Unreleased.{Unreleased}
use Rattle.fs_machine.proofs.Asking.{waiter_asks}
use Rattle.fs_machine.proofs.Carried.{carried_rest, comes_rest, in_rest, read_rest}
use Rattle.fs_machine.proofs.Holding.{check_alike}
use Rattle.fs_machine.proofs.StreamsHold.{counted_alike, counted_finished, counted_taken, stream_handed, stream_opened}
use Rattle.fs_machine.proofs.Tallies.{count_more, count_without, without_place}

-- ---- a commit is prepared for who asked

abbrev pub PreparesFor : ParkedRequest → Past → Past → Type 0
PreparesFor r p q = (q ≡ p) ⊎ ((u : Unreleased) × (u.asker ≡ asker_by r r.stream) × (q ≡ past_prepared p u))

unless_for : (m : Machine) (r : ParkedRequest) (writes : List Write) (t : Txn) (found : Option ℕ) → PreparesFor r m.past (committed_unless m r writes t found).past
unless_for m r writes t (Some other) = inl refl
unless_for m r writes t None = inr (next_commit m.past t.id r writes t.reads, refl, refl)

if_for : (m : Machine) (r : ParkedRequest) (writes : List Write) (t : Txn) (b : Bool)
    → PreparesFor r m.past (cond b (committed_unless m r writes t (conflict m.config.mode m.past m.txns.open t writes)) (with_ended m t.id)).past
if_for m r writes t true = unless_for m r writes t (conflict m.config.mode m.past m.txns.open t writes)
if_for m r writes t false = inl refl

in_for : (m : Machine) (r : ParkedRequest) (writes : List Write) (found : Option Txn) → PreparesFor r m.past (committed_in m r writes found).past
in_for m r writes None = inl refl
in_for m r writes (Some t) = if_for m r writes t (is_read_write t.kind)

committed_for : (m : Machine) (r : ParkedRequest) (writes : List Write) (transaction : Option ℕ) → PreparesFor r m.past (committed m r writes transaction).past
committed_for m r writes None = inr (next_commit m.past r.id r writes [], refl, refl)
committed_for m r writes (Some id) = in_for m r writes (txn_of id m.txns.open)

read_for : (m : Machine) (r : ParkedRequest) (when : When) (q : Request) → PreparesFor r m.past (read_in m when q).past
read_for m r Released q = inl refl
read_for m r (At time) q = inl refl
read_for m r (In id) q = inl refl

streamed_past : (m : Machine) (session : ℕ) (asked : StreamRequest) → (streamed m session asked).past ≡ m.past
streamed_past m session Open = refl
streamed_past m session (Resume n token) = refl
streamed_past m session (Batch token writes) = refl
streamed_past m session (Ask token) = refl
streamed_past m session (Mixed n token writes) = refl

pub carried_for : (m : Machine) (r : ParkedRequest) (q : Request) → PreparesFor r m.past (carried_by m r q).past
carried_for m r (Commit database writes transaction) = committed_for m r writes transaction
carried_for m r (GetDocument name mask when) = read_for m r when (GetDocument name mask when)
carried_for m r (BatchGetDocuments database names mask when) = read_for m r when (BatchGetDocuments database names mask when)
carried_for m r (RunQuery database query when) = read_for m r when (RunQuery database query when)
carried_for m r (BeginTransaction database options) = inl refl
carried_for m r (Rollback database transaction) = inl refl
carried_for m r (AddTarget database target t token) = inl refl
carried_for m r (RemoveTarget database (pos target)) = inl refl
carried_for m r (RemoveTarget database (negsuc target)) = inl refl
carried_for m r (request.Write database asked) = inl (streamed_past m r.session asked)

-- as many batches of streams, where a session asked
abbrev commits_in : ℕ → Past → ℕ
commits_in n p = tally (λ u. answers n u.asker) p.unreleased

none_more : (r : ParkedRequest) (p q : Past) (n : ℕ) → r.stream ≡ None → PreparesFor r p q → commits_in n q ≡ commits_in n p
none_more r p q n none (inl same) = ap (commits_in n) same
none_more r p q n none (inr (u, asks, is)) =
    let more = count_more (λ (u : Unreleased). answers n u.asker) p.unreleased u in
    let no : one_if (answers n u.asker) ≡ 0 = ap (λ of. one_if (answers n of)) (asks ∙ ap (asker_by r) none) in
    ap (commits_in n) is ∙ (let same : commits_in n (past_prepared p u) ≡ commits_in n p = omega (arith, more, no) in same)

-- ---- streams that a request opens or resumes

record KeepsStreams (Passes : Type 0) (s t : Streams) : Type 0 where
  stands : Passes → Stands s → Stands t
  alike : (n : ℕ) → stream_of n t ≡ stream_of n s

same_streams : (Passes : Type 0) (s t : Streams) → t ≡ s → KeepsStreams Passes s t
same_streams Passes s t is = record { stands = λ passes stands. subst Stands (sym is) stands; alike = λ n. ap (stream_of n) is }

passes : {X : Type 0} (ever : Bool) (told : Result X StreamError) → unless_taken ever told ≡ None → (x : X) × (told ≡ Ok x)
passes ever (Ok x) none = (x, refl)
passes ever (Err e) none = absurd (cc)

-- one that is resumed was opened
resumed_there : (session n known : ℕ) (s : Streams) (x : Resumed) → resume_answer session n known s ≡ Ok x → (0 < n) × (n ≤ length s.opened)
resumed_there session n known s x is = by_test (is_opened n s) refl is where
  by_test : (b : Bool) → is_opened n s ≡ b → cond (not b) (Err (error.Unknown n)) (cond (owns_other session n s) (Err error.Second) (resumption_told (stream_of n s) known)) ≡ Ok x → (0 < n) × (n ≤ length s.opened)
  by_test true there told = opened_between n s there
  by_test false there told = absurd (cc)

streamed_keeps : (m : Machine) (session : ℕ) (asked : StreamRequest) → KeepsStreams (stream_check m session asked ≡ None) m.streams (streamed m session asked).streams
streamed_keeps m session Open = record { stands = λ none stands. stands_opened session m.streams stands; alike = λ n. stream_opened session n m.streams }
streamed_keeps m session (Resume to token) = record { stands = handed; alike = λ n. stream_handed session to n m.streams } where
  handed : stream_check m session (Resume to token) ≡ None → Stands m.streams → Stands (streamed m session (Resume to token)).streams
  handed none stands =
      let told = passes _ (resume_answer session to token m.streams) none in
      let there = resumed_there session to token m.streams told.0 told.1 in
      stands_handed session to m.streams there.0 there.1 stands
streamed_keeps m session (Batch token writes) = same_streams _ m.streams m.streams refl
streamed_keeps m session (Ask token) = same_streams _ m.streams m.streams refl
streamed_keeps m session (Mixed n token writes) = same_streams _ m.streams m.streams refl

carried_keeps : (m : Machine) (r : ParkedRequest) (q : Request) → KeepsStreams (check_refusal m r.session q ≡ None) m.streams (carried_by m r q).streams
carried_keeps m r (Commit database writes None) = same_streams _ m.streams m.streams refl
carried_keeps m r (Commit database writes (Some of)) = same_streams _ m.streams _ (ap (λ (n : Machine). n.streams) (in_rest m r writes (txn_of of m.txns.open)))
carried_keeps m r (GetDocument name mask when) = same_streams _ m.streams _ (ap (λ (n : Machine). n.streams) (read_rest m when (GetDocument name mask when)))
carried_keeps m r (BatchGetDocuments database names mask when) = same_streams _ m.streams _ (ap (λ (n : Machine). n.streams) (read_rest m when (BatchGetDocuments database names mask when)))
carried_keeps m r (RunQuery database query when) = same_streams _ m.streams _ (ap (λ (n : Machine). n.streams) (read_rest m when (RunQuery database query when)))
carried_keeps m r (BeginTransaction database options) = same_streams _ m.streams m.streams refl
carried_keeps m r (Rollback database transaction) = same_streams _ m.streams m.streams refl
carried_keeps m r (AddTarget database target t token) = same_streams _ m.streams m.streams refl
carried_keeps m r (RemoveTarget database (pos target)) = same_streams _ m.streams m.streams refl
carried_keeps m r (RemoveTarget database (negsuc target)) = same_streams _ m.streams m.streams refl
carried_keeps m r (request.Write database asked) = streamed_keeps m r.session asked

-- no request that is carried out changes what a stream has finished, and whether it is busy
pub carried_streams : (m : Machine) (r : ParkedRequest) (n : ℕ) → stream_of n (carried m r).streams ≡ stream_of n m.streams
carried_streams m r n = (carried_keeps m r r.envelope.request).alike n

-- ---- carried out

abbrev Holds : Machine → ℕ → Type 0
Holds m ids = StreamsHold m.past m.parked m.streams ids

carried_counted : (m : Machine) (r : ParkedRequest) (ids : ℕ) → r.stream ≡ None → check_refusal m r.session r.envelope.request ≡ None → Holds m ids → Holds (carried m r) ids
carried_counted m r ids none passes holds =
    let q = r.envelope.request in
    let n = carried_by m r q in
    let keeps = carried_keeps m r q in
    counted_alike (λ k. under_way k m.past m.parked) (λ k. under_way k n.past n.parked) m.streams n.streams ids ids (omega arith) (keeps.stands passes holds.stands)
    (λ k.
    let same = none_more r m.past n.past k none (carried_for m r q) in
    let wait = ap (λ (x : Machine). tally (λ (r : ParkedRequest). is_for k r.stream) x.parked) (carried_rest m r q) in
    omega (arith, same, wait)) keeps.alike holds

-- a request more that waits
more_waiting : (m : Machine) (r : ParkedRequest) (k : ℕ) → tally (λ (r : ParkedRequest). is_for k r.stream) (m.parked ++ r ∷ []) ≡ tally (λ (r : ParkedRequest). is_for k r.stream) m.parked + one_if (is_for k r.stream)
more_waiting m r k = count_more (λ (r : ParkedRequest). is_for k r.stream) m.parked r

not_for : (r : ParkedRequest) (k : ℕ) → r.stream ≡ None → one_if (is_for k r.stream) ≡ 0
not_for r k none = ap (λ o. one_if (is_for k o)) none

-- ---- one that comes

on : (m : Machine) (k : Numbers) → m.numbers.ids ≤ k.ids → Holds m m.numbers.ids → Holds (record m { numbers = k }) k.ids
on m k later holds = counted_alike (λ n. under_way n m.past m.parked) (λ n. under_way n m.past m.parked) m.streams m.streams m.numbers.ids k.ids later holds.stands (λ n. refl) (λ n. refl) holds

taken_none : (d : Decision) (m : Machine) → taken_unless d None m ≡ m
taken_none (Decision.refused refusal) m = refl
taken_none (Decision.held id) m = refl
taken_none Decision.goes_on m = refl

module _ (m : Machine) (k : Numbers) (r : ParkedRequest) (none : r.stream ≡ None) (holds : Holds (record m { numbers = k }) k.ids) where
  abbrev beside : Machine
  beside = record m { numbers = k }

  waits_plain : Holds (record beside { parked = m.parked ++ r ∷ [] }) k.ids
  waits_plain =
      counted_alike (λ n. under_way n m.past m.parked) (λ n. under_way n m.past (m.parked ++ r ∷ [])) m.streams m.streams k.ids k.ids (omega arith) holds.stands
      (λ n. let more = more_waiting m r n in let no = not_for r n none in omega (arith, more, no)) (λ n. refl) holds

  full_plain : (by : ℕ) (full : Bool) → Holds (arrives beside r (cond full (Decision.refused (at_limit (codes "parked") m.limits.parked)) (Decision.held by))) k.ids
  full_plain by true = holds
  full_plain by false = waits_plain

  behind_plain : (found : Option ℕ) → check_refusal beside r.session r.envelope.request ≡ None → Holds (arrives beside r (unless_full m (unless_held found))) k.ids
  behind_plain None passes = carried_counted beside r k.ids none passes holds
  behind_plain (Some by) passes = full_plain by (nat_le m.limits.parked (length m.parked))

  check_plain : (refusal : Option Refusal) → check_refusal m r.session r.envelope.request ≡ refusal → check_refusal beside r.session r.envelope.request ≡ refusal
      → Holds (arrives beside r (unless_full m (unless_refused refusal (unless_held (held_by m r.envelope.request))))) k.ids
  check_plain (Some refusal) is also = holds
  check_plain None is also = behind_plain (held_by m r.envelope.request) also

  comes_plain : Holds (comes beside r (unless_full m (decision m r.session r.envelope.request))) k.ids
  comes_plain =
      let d = unless_full m (decision m r.session r.envelope.request) in
      subst (λ (n : Machine). Holds (arrives n r d) k.ids) (sym (ap (λ o. taken_unless d o beside) none ∙ taken_none d beside))
      (check_plain (check_refusal m r.session r.envelope.request) refl (check_alike m k m.parked r.session r.envelope.request))

drawn_plain : (m : Machine) (r : ParkedRequest) (b : Bool) → r.stream ≡ None → Holds m m.numbers.ids
    → (ids : ℕ) × Holds (comes (cond b (record m { numbers = record m.numbers { ids = m.numbers.ids + 1 } }) m) r (unless_full m (decision m r.session r.envelope.request))) ids
    × (ids ≡ (comes (cond b (record m { numbers = record m.numbers { ids = m.numbers.ids + 1 } }) m) r (unless_full m (decision m r.session r.envelope.request))).numbers.ids)
drawn_plain m r true none holds =
    let k = record m.numbers { ids = m.numbers.ids + 1 } in
    (m.numbers.ids + 1, comes_plain m k r none (on m k (omega arith) holds), sym (ap (λ (x : Machine). x.numbers.ids) (comes_rest (record m { numbers = k }) r (unless_full m (decision m r.session r.envelope.request)))))
drawn_plain m r false none holds =
    (m.numbers.ids, comes_plain m m.numbers r none holds, sym (ap (λ (x : Machine). x.numbers.ids) (comes_rest m r (unless_full m (decision m r.session r.envelope.request)))))

plain_asked : (m : Machine) (r : ParkedRequest) (refusal : Option Refusal) → r.stream ≡ None → Holds m m.numbers.ids → Holds (asked_unless refusal m r) (asked_unless refusal m r).numbers.ids
plain_asked m r (Some refusal) none holds = holds
plain_asked m r None none holds =
    let so = drawn_plain m r (draws r.envelope.request) none holds in
    subst (Holds (asked_unless None m r)) so.2 so.1

-- ---- a batch that is new

module _ (m : Machine) (session number to : ℕ) (of : Option (List ℕ)) (database : Root) (writes : List Write)
    (above : 0 < to) (below : to ≤ length m.streams.opened) (free : (stream_of to m.streams).busy ≡ false) (holds : Holds m m.numbers.ids) where
  abbrev batch : ParkedRequest
  batch = record { session = session; id = number; stream = Some to; envelope = record { id = of; request = Commit database writes None } }

  refused_batch : Holds (record m { numbers = record m.numbers { ids = m.numbers.ids + 1 } }) (m.numbers.ids + 1)
  refused_batch = on m (record m.numbers { ids = m.numbers.ids + 1 }) (omega arith) holds

  full_batch : (by : ℕ) (full : Bool)
      → (let d = cond full (Decision.refused (at_limit (codes "parked") m.limits.parked)) (Decision.held by) in Holds (comes (record m { numbers = record m.numbers { ids = m.numbers.ids + 1 } }) batch d) (m.numbers.ids + 1))
  full_batch by true = refused_batch
  full_batch by false =
      counted_taken (λ n. under_way n m.past m.parked) (λ n. under_way n m.past (m.parked ++ batch ∷ [])) to m.streams m.numbers.ids above below free
      (λ n. let more = more_waiting m batch n in omega (arith, more)) holds

  behind_batch : (found : Option ℕ) → Holds (comes (record m { numbers = record m.numbers { ids = m.numbers.ids + 1 } }) batch (unless_full m (unless_held found))) (m.numbers.ids + 1)
  behind_batch None =
      let u = next_commit m.past number batch writes [] in
      counted_taken (λ n. under_way n m.past m.parked) (λ n. under_way n (past_prepared m.past u) m.parked) to m.streams m.numbers.ids above below free
      (λ n. let more = count_more (λ (x : Unreleased). answers n x.asker) m.past.unreleased u in omega (arith, more)) holds
  behind_batch (Some by) = full_batch by (nat_le m.limits.parked (length m.parked))

  batch_ids : (d : Decision) → (comes (record m { numbers = record m.numbers { ids = m.numbers.ids + 1 } }) batch d).numbers.ids ≡ m.numbers.ids + 1
  batch_ids d = ap (λ (x : Machine). x.numbers.ids) (comes_rest (record m { numbers = record m.numbers { ids = m.numbers.ids + 1 } }) batch d)

  batch_asked : (refusal : Option Refusal) → Holds (asked_unless refusal m batch) (asked_unless refusal m batch).numbers.ids
  batch_asked (Some refusal) = holds
  batch_asked None =
      let found = writer_behind m writes None in
      subst (Holds (asked_unless None m batch)) (sym (batch_ids (unless_full m (unless_held found)))) (behind_batch found)

by_take : (m : Machine) (session number token : ℕ) (of : Option (List ℕ)) (database : Root) (writes : List Write) (refusal : Option Refusal) (told : Result Take StreamError) → take_of m session token ≡ told → Holds m m.numbers.ids
    → (let r = taken_as (new_of told) (record { session = session; id = number; stream = None; envelope = record { id = of; request = request.Write database (Batch token writes) } }) in
    Holds (asked_unless refusal m r) (asked_unless refusal m r).numbers.ids)
by_take m session number token of database writes refusal (Ok (New to)) is holds =
    let there = new_there session token to m.streams holds.stands is in
    batch_asked m session number to of database writes there.0 there.1 (new_free session token to m.streams is) holds refusal
by_take m session number token of database writes refusal (Ok (Repeat kept)) is holds = plain_asked m _ refusal refl holds
by_take m session number token of database writes refusal (Ok (InProgress n)) is holds = plain_asked m _ refusal refl holds
by_take m session number token of database writes refusal (Err e) is holds = plain_asked m _ refusal refl holds

by_stream : (m : Machine) (session : ℕ) (of : Option (List ℕ)) (database : Root) (refusal : Option Refusal) (asked : StreamRequest) → Holds m m.numbers.ids
    → (let r = arrived m session (record { id = of; request = request.Write database asked }) in Holds (asked_unless refusal m r) (asked_unless refusal m r).numbers.ids)
by_stream m session of database refusal Open holds = plain_asked m _ refusal refl holds
by_stream m session of database refusal (Resume n token) holds = plain_asked m _ refusal refl holds
by_stream m session of database refusal (Batch token writes) holds = by_take m session (m.numbers.ids + 1) token of database writes refusal (take_of m session token) refl holds
by_stream m session of database refusal (Ask token) holds = plain_asked m _ refusal refl holds
by_stream m session of database refusal (Mixed n token writes) holds = plain_asked m _ refusal refl holds

pub asked_streams : (m : Machine) (session : ℕ) (e : Envelope) (refusal : Option Refusal) → Holds m m.numbers.ids
    → Holds (asked_unless refusal m (arrived m session e)) (asked_unless refusal m (arrived m session e)).numbers.ids
asked_streams m session e refusal holds = by_request e.request where
  by_request : (q : Request) → (let r = arrived m session (record { id = e.id; request = q }) in Holds (asked_unless refusal m r) (asked_unless refusal m r).numbers.ids)
  by_request (Commit database writes transaction) = plain_asked m _ refusal refl holds
  by_request (GetDocument name mask when) = plain_asked m _ refusal refl holds
  by_request (BatchGetDocuments database names mask when) = plain_asked m _ refusal refl holds
  by_request (RunQuery database query when) = plain_asked m _ refusal refl holds
  by_request (BeginTransaction database options) = plain_asked m _ refusal refl holds
  by_request (Rollback database transaction) = plain_asked m _ refusal refl holds
  by_request (AddTarget database id t token) = plain_asked m _ refusal refl holds
  by_request (RemoveTarget database id) = plain_asked m _ refusal refl holds
  by_request (request.Write database asked) = by_stream m session e.id database refusal asked holds

-- ---- one that is tried again

module _ (m : Machine) (place : ℕ) (r : ParkedRequest) (here : slice_get m.parked place ≡ Some r) (asks : Asks r) (ids : ℕ) (holds : Holds m ids) where
  fewer : (n : ℕ) → tally (λ (x : ParkedRequest). is_for n x.stream) m.parked ≡ tally (λ (x : ParkedRequest). is_for n x.stream) (remove m.parked place) + one_if (is_for n r.stream)
  fewer n = count_without (λ (x : ParkedRequest). is_for n x.stream) r m.parked (remove m.parked place) (without_place m.parked place r here)

  unparked_holds : r.stream ≡ None → Holds (unparked m place) ids
  unparked_holds none =
      counted_alike (λ n. under_way n m.past m.parked) (λ n. under_way n m.past (remove m.parked place)) m.streams m.streams ids ids (omega arith) holds.stands
      (λ n. let less = fewer n in let no = not_for r n none in omega (arith, less, no)) (λ n. refl) holds

  given_up_holds : (stream : Option ℕ) (refusal : Refusal) → r.stream ≡ stream → StreamsHold m.past (remove m.parked place) (given_up stream refusal (desk_of m)).0 ids
  given_up_holds None refusal is = unparked_holds is
  given_up_holds (Some k) refusal is =
      counted_finished (λ n. under_way n m.past m.parked) (λ n. under_way n m.past (remove m.parked place)) k (kept_refused m.streams k refusal) m.streams ids
      (λ n. let less = fewer n in let one : one_if (is_for n r.stream) ≡ one_if (k == n) = ap (λ o. one_if (is_for n o)) is in omega (arith, less, one)) holds

  -- a batch goes from those that wait to those that are pending
  batch_goes : (k : ℕ) (q : Request) → r.stream ≡ Some k → is_plain q ≡ true → Holds (carried_by (unparked m place) r q) ids
  batch_goes k (Commit database writes None) is plain =
      let u = next_commit m.past r.id r writes [] in
      counted_alike (λ n. under_way n m.past m.parked) (λ n. under_way n (past_prepared m.past u) (remove m.parked place)) m.streams m.streams ids ids (omega arith) holds.stands
      (λ n.
      let less = fewer n in
      let more = count_more (λ (x : Unreleased). answers n x.asker) m.past.unreleased u in
      let one : one_if (answers n u.asker) ≡ one_if (is_for n r.stream) = ap (λ o. one_if (answers n (asker_by r o))) is ∙ sym (ap (λ o. one_if (is_for n o)) is) in
      omega (arith, less, more, one)) (λ n. refl) holds
  batch_goes k (Commit database writes (Some of)) is plain = absurd (cc)
  batch_goes k (GetDocument name mask when) is plain = absurd (cc)
  batch_goes k (BatchGetDocuments database names mask when) is plain = absurd (cc)
  batch_goes k (RunQuery database query when) is plain = absurd (cc)
  batch_goes k (BeginTransaction database options) is plain = absurd (cc)
  batch_goes k (Rollback database transaction) is plain = absurd (cc)
  batch_goes k (AddTarget database id t token) is plain = absurd (cc)
  batch_goes k (RemoveTarget database id) is plain = absurd (cc)
  batch_goes k (request.Write database asked) is plain = absurd (cc)

  goes_holds : (stream : Option ℕ) → r.stream ≡ stream → check_refusal m r.session r.envelope.request ≡ None → Holds (carried (unparked m place) r) ids
  goes_holds None is passes = carried_counted (unparked m place) r ids is (check_alike m m.numbers (remove m.parked place) r.session r.envelope.request ∙ passes) (unparked_holds is)
  goes_holds (Some k) is passes = batch_goes k r.envelope.request is (asks.plain (ap is_some is))

  tried_behind : (found : Option ℕ) → check_refusal m r.session r.envelope.request ≡ None → Holds (tried m place r (unless_held found)) ids
  tried_behind None passes = goes_holds r.stream refl passes
  tried_behind (Some by) passes = holds

  tried_check : (refusal : Option Refusal) → check_refusal m r.session r.envelope.request ≡ refusal → Holds (tried m place r (unless_refused refusal (unless_held (held_by m r.envelope.request)))) ids
  tried_check (Some refusal) is = given_up_holds r.stream refusal refl
  tried_check None is = tried_behind (held_by m r.envelope.request) is

  tried_streams : (refusal : Option Refusal) → Holds (tried m place r (unless_refused refusal (decision m r.session r.envelope.request))) ids
  tried_streams (Some refusal) = given_up_holds r.stream refusal refl
  tried_streams None = tried_check (check_refusal m r.session r.envelope.request) refl

pub retried_streams : (m : Machine) (place : ℕ) (found : Option ParkedRequest) (ids : ℕ) → slice_get m.parked place ≡ found → WaitersAsk m.parked → Holds m ids → Holds (retried_if m place found) ids
retried_streams m place None ids is waits holds = holds
retried_streams m place (Some r) ids is waits holds = tried_streams m place r is (waiter_asks m.parked place r is waits) ids holds (retry_refusal m r.envelope.request)
