-- What a request that comes, or is tried again, does to what was committed, to the numbers that were drawn, and to what transactions have
-- read.
use Rattle.std.proofs.Common.{◌≡◌, ◌⊎◌, inl, inr, ℕ, ℤ, ◌<ℤ◌, ◌+◌, ◌≤◌, Bool, true, false, cond, List, [], ◌∷◌, Option, Some, None, refl, sym, ap, ◌∙◌, subst, arith}
use Rattle.std.proofs.lemmas.Int.{ints}
use Rattle.std.specs.Prelude.{pos, negsuc, ◌==◌, length, nat_le, codes, slice_get, unwrap_or}
use Rattle.std.proofs.lemmas.Bool.{eqb-true}
use Rattle.std.proofs.lemmas.Bool.Decides.{nat_tests}
use Rattle.std.proofs.lemmas.List.{append-nil}
use Rattle.std.proofs.lemmas.Option.{same_Some}
use Rattle.fs_history.specs.declared.read.Read.{Read}
use Rattle.fs_request.specs.When.{transaction_of}
use Rattle.fs_request.specs.declared.options.TransactionOptions.{TransactionOptions}
use Rattle.fs_request.specs.declared.request.Request.{Request}
use Rattle.fs_request.specs.declared.request.Request.TheVariants.{Commit, GetDocument, BatchGetDocuments, RunQuery, BeginTransaction, Rollback, AddTarget, RemoveTarget}
use Rattle.fs_request.specs.declared.request.Request.TheVariants as request
use Rattle.fs_request.specs.declared.stream_request.StreamRequest.{StreamRequest}
use Rattle.fs_request.specs.declared.stream_request.StreamRequest.TheVariants.{Open, Resume, Batch, Ask, Mixed}
use Rattle.fs_request.specs.declared.when.When.{When}
use Rattle.fs_request.specs.declared.when.When.TheVariants.{Released, At, In}
use Rattle.fs_status.specs.Refusal.{at_limit}
use Rattle.fs_status.specs.declared.refusal.Refusal.{Refusal}
use Rattle.fs_txn.specs.Transactions.{Transactions, all_noted, is_read_write, noted, txn_of, with_read}
use Rattle.fs_txn.specs.declared.txn.Txn.{Txn}
use Rattle.fs_write.specs.declared.write.Write.{Write}
use Rattle.fs_machine.specs.Commit.{committed, committed_in, committed_unless, next_commit, past_prepared}
use Rattle.fs_machine.specs.Conflict.{conflict}
use Rattle.fs_machine.specs.IdsAreDrawn.{IdsAreDrawn, counted, own_count, times}
use Rattle.fs_machine.specs.Listeners.{Listener}
use Rattle.fs_machine.specs.Numbered.{draws, number_of, transaction_in}
use Rattle.fs_machine.specs.Past.{Past}
use Rattle.fs_machine.specs.Read.{read_in, reader_behind, shown_at}
use Rattle.fs_machine.specs.Refusing.{next_time}
use Rattle.fs_machine.specs.Request.{Decision, arrives, asked_unless, comes, taken_unless, carried, carried_by, check_refusal, decision, drawn, held_by, unless_full, unless_held, unless_refused}
use Rattle.fs_machine.specs.Retry.{retried_if, retry_decision, tried, unparked}
use Rattle.fs_machine.specs.Sessions.{outbox_in, owning}
use Rattle.fs_machine.specs.State.{Machine}
use Rattle.fs_machine.specs.Stream.{desk_of, streamed, with_desk}
use Rattle.fs_machine.specs.Told.{is_open}
use Rattle.fs_machine.specs.declared.session.Session.{Session}
use Rattle.fs_machine.specs.Transact.{kind_of, time_asked, with_ended}
use Rattle.fs_machine.specs.declared.parked_request.ParkedRequest.{ParkedRequest}
use Rattle.fs_machine.specs.declared.unreleased.Unreleased.{Unreleased}
use Rattle.fs_machine.proofs.IdsAreDrawn.{fewer_ended, ids_drawn, ids_fewer, in_more, more_by, open_changed, open_ended, open_more, parked_less, parked_more}
use Rattle.fs_machine.proofs.Desks.{numbers_given_up}
use Rattle.fs_machine.proofs.DesksSaid.{SaysNothing, given_up_said, outbox_owning}
use Rattle.fs_machine.proofs.SessionsNumbered.{numbers_of, numbers_owning}
use Rattle.fs_machine.proofs.Streaming.{streamed_rest, taken_rest}
use Rattle.fs_machine.proofs.TransactionsHold.{noted_keeps}

-- ---- what was committed stays as it is, or a commit is prepared, at a time above the last

abbrev pub AtMostPrepares : Past → Past → Type 0
AtMostPrepares p q = (q ≡ p) ⊎ ((u : Unreleased) × (q ≡ past_prepared p u) × (p.last <ℤ u.batch.time))

next_above : (p : Past) → p.last <ℤ next_time p
next_above p = omega (arith, ints)

unless_follows : (m : Machine) (r : ParkedRequest) (writes : List Write) (t : Txn) (found : Option ℕ) → AtMostPrepares m.past (committed_unless m r writes t found).past
unless_follows m r writes t (Some other) = inl refl
unless_follows m r writes t None = inr (next_commit m.past t.id r writes t.reads, refl, next_above m.past)

if_follows : (m : Machine) (r : ParkedRequest) (writes : List Write) (t : Txn) (b : Bool)
    → AtMostPrepares m.past (cond b (committed_unless m r writes t (conflict m.config.mode m.past m.txns.open t writes)) (with_ended m t.id)).past
if_follows m r writes t true = unless_follows m r writes t (conflict m.config.mode m.past m.txns.open t writes)
if_follows m r writes t false = inl refl

in_follows : (m : Machine) (r : ParkedRequest) (writes : List Write) (found : Option Txn) → AtMostPrepares m.past (committed_in m r writes found).past
in_follows m r writes None = inl refl
in_follows m r writes (Some t) = if_follows m r writes t (is_read_write t.kind)

committed_follows : (m : Machine) (r : ParkedRequest) (writes : List Write) (transaction : Option ℕ) → AtMostPrepares m.past (committed m r writes transaction).past
committed_follows m r writes None = inr (next_commit m.past r.id r writes [], refl, next_above m.past)
committed_follows m r writes (Some id) = in_follows m r writes (txn_of id m.txns.open)

read_follows : (m : Machine) (when : When) (q : Request) → AtMostPrepares m.past (read_in m when q).past
read_follows m Released q = inl refl
read_follows m (At time) q = inl refl
read_follows m (In id) q = inl refl

pub carried_follows : (m : Machine) (r : ParkedRequest) (q : Request) → AtMostPrepares m.past (carried_by m r q).past
carried_follows m r (Commit database writes transaction) = committed_follows m r writes transaction
carried_follows m r (GetDocument name mask when) = read_follows m when (GetDocument name mask when)
carried_follows m r (BatchGetDocuments database names mask when) = read_follows m when (BatchGetDocuments database names mask when)
carried_follows m r (RunQuery database query when) = read_follows m when (RunQuery database query when)
carried_follows m r (BeginTransaction database options) = inl refl
carried_follows m r (Rollback database transaction) = inl refl
carried_follows m r (AddTarget database target t token) = inl refl
carried_follows m r (RemoveTarget database (pos target)) = inl refl
carried_follows m r (RemoveTarget database (negsuc target)) = inl refl
carried_follows m r (request.Write database asked) = inl (ap (λ (n : Machine). n.past) (streamed_rest m r.session asked))

arrives_follows : (m : Machine) (r : ParkedRequest) (d : Decision) → AtMostPrepares m.past (arrives m r d).past
arrives_follows m r (Decision.refused refusal) = inl refl
arrives_follows m r (Decision.held id) = inl refl
arrives_follows m r Decision.goes_on = carried_follows m r r.envelope.request

comes_follows : (m : Machine) (r : ParkedRequest) (d : Decision) → AtMostPrepares m.past (comes m r d).past
comes_follows m r d =
    let n = taken_unless d r.stream m in
    subst (λ p. AtMostPrepares p (arrives n r d).past) (ap (λ (k : Machine). k.past) (taken_rest d r.stream m)) (arrives_follows n r d)

drawn_follows : (m : Machine) (r : ParkedRequest) (d : Decision) (b : Bool)
    → AtMostPrepares m.past (comes (cond b (record m { numbers = record m.numbers { ids = m.numbers.ids + 1 } }) m) r d).past
drawn_follows m r d true = comes_follows (record m { numbers = record m.numbers { ids = m.numbers.ids + 1 } }) r d
drawn_follows m r d false = comes_follows m r d

pub asked_follows : (m : Machine) (r : ParkedRequest) (refusal : Option Refusal) → AtMostPrepares m.past (asked_unless refusal m r).past
asked_follows m r (Some refusal) = inl refl
asked_follows m r None = drawn_follows m r (unless_full m (decision m r.session r.envelope.request)) (draws r.envelope.request)

tried_follows : (m : Machine) (place : ℕ) (r : ParkedRequest) (d : Decision) → AtMostPrepares m.past (tried m place r d).past
tried_follows m place r (Decision.refused refusal) = inl refl
tried_follows m place r (Decision.held id) = inl refl
tried_follows m place r Decision.goes_on = carried_follows (unparked m place) r r.envelope.request

pub retried_follows : (m : Machine) (place : ℕ) (found : Option ParkedRequest) → AtMostPrepares m.past (retried_if m place found).past
retried_follows m place None = inl refl
retried_follows m place (Some r) = tried_follows m place r (retry_decision m r.session r.envelope.request)

-- ---- numbers

abbrev pub times_of : ℕ → Machine → ℕ
times_of id m = times id m.past m.txns m.parked

itself_next : (t u : Txn) (ts : List Txn) (of : ℕ) (b : Bool) → (t.id == of) ≡ b → cond b (Some t) (txn_of of ts) ≡ Some u → (txn_of of ts ≡ Some u → u.id ≡ of) → u.id ≡ of
itself_next t u ts of true is found more = ap (λ (x : Txn). x.id) (sym (same_Some t u found)) ∙ eqb-true t.id of is
itself_next t u ts of false is found more = more found

pub number_open : (ts : List Txn) (of : ℕ) (u : Txn) → txn_of of ts ≡ Some u → u.id ≡ of
number_open [] of u found = absurd (cc)
number_open (t ∷ ts) of u found = itself_next t u ts of (t.id == of) refl found (number_open ts of u)

itself_open : (ts : List Txn) (of : ℕ) (u : Txn) → txn_of of ts ≡ Some u → txn_of u.id ts ≡ Some u
itself_open ts of u found = ap (λ n. txn_of n ts) (number_open ts of u found) ∙ found

abbrev begun_one : Machine → ℕ → TransactionOptions → Txn
begun_one m id o = record { id = id; kind = kind_of o; read_time = unwrap_or (time_asked o) m.past.released; begun = m.past.moment; used = m.past.moment; reads = [] }

unless_times : (m : Machine) (r : ParkedRequest) (writes : List Write) (t : Txn) (id : ℕ) (found : Option ℕ) → txn_of t.id m.txns.open ≡ Some t → times_of id (committed_unless m r writes t found) ≤ times_of id m
unless_times m r writes t id (Some other) is = let less = fewer_ended m.past m.txns m.parked t.id id in omega (arith, less)
unless_times m r writes t id None is =
    let less = open_ended id m.txns.open t.id t is in
    let more = in_more id m.past.unreleased (next_commit m.past t.id r writes t.reads) in
    omega (arith, less, more)

if_times : (m : Machine) (r : ParkedRequest) (writes : List Write) (t : Txn) (id : ℕ) (b : Bool) → txn_of t.id m.txns.open ≡ Some t
    → times_of id (cond b (committed_unless m r writes t (conflict m.config.mode m.past m.txns.open t writes)) (with_ended m t.id)) ≤ times_of id m
if_times m r writes t id true is = unless_times m r writes t id (conflict m.config.mode m.past m.txns.open t writes) is
if_times m r writes t id false is = fewer_ended m.past m.txns m.parked t.id id

in_times : (m : Machine) (r : ParkedRequest) (writes : List Write) (of id : ℕ) (found : Option Txn) → txn_of of m.txns.open ≡ found → times_of id (committed_in m r writes found) ≤ times_of id m
in_times m r writes of id None is = omega arith
in_times m r writes of id (Some t) is = if_times m r writes t id (is_read_write t.kind) (itself_open m.txns.open of t is)

noted_times : (id : ℕ) (p : Past) (ts : Transactions) (rs : List ParkedRequest) (of : ℕ) (reads : List Read) (now : ℤ) → times id p (all_noted ts of reads now) rs ≡ times id p ts rs
noted_times id p ts rs of [] now = let same = open_changed id (λ t. record t { used = now }) ts.open of (λ t. refl) in omega (arith, same)
noted_times id p ts rs of (r ∷ reads) now =
    let same = open_changed id (λ t. record (with_read r t) { used = now }) ts.open of (λ t. (noted_keeps r now t).2) in
    let rest = noted_times id p (noted ts of r now) rs of reads now in
    omega (arith, same, rest)

read_times : (m : Machine) (when : When) (q : Request) (id : ℕ) → times_of id (read_in m when q) ≡ times_of id m
read_times m Released q id = refl
read_times m (At time) q id = refl
read_times m (In of) q id = noted_times id m.past m.txns m.parked of (shown_at m (In of) q) m.past.moment

-- as many more as the request draws
abbrev pub drawn_count : ℕ → ParkedRequest → Request → ℕ
drawn_count id r q = more_by id r.id (draws q)

pub carried_times : (m : Machine) (r : ParkedRequest) (q : Request) (id : ℕ) → times_of id (carried_by m r q) ≤ times_of id m + drawn_count id r q
carried_times m r (Commit database writes None) id = let more = in_more id m.past.unreleased (next_commit m.past r.id r writes []) in omega (arith, more)
carried_times m r (Commit database writes (Some of)) id = let less = in_times m r writes of id (txn_of of m.txns.open) refl in omega (arith, less)
carried_times m r (GetDocument name mask when) id = let same = read_times m when (GetDocument name mask when) id in omega (arith, same)
carried_times m r (BatchGetDocuments database names mask when) id = let same = read_times m when (BatchGetDocuments database names mask when) id in omega (arith, same)
carried_times m r (RunQuery database query when) id = let same = read_times m when (RunQuery database query when) id in omega (arith, same)
carried_times m r (BeginTransaction database options) id =
    let more = open_more id (begun_one m r.id options) m.txns.open in omega (arith, more)
carried_times m r (Rollback database transaction) id = let less = fewer_ended m.past m.txns m.parked transaction id in omega (arith, less)
carried_times m r (AddTarget database target t token) id = omega arith
carried_times m r (RemoveTarget database (pos target)) id = omega arith
carried_times m r (RemoveTarget database (negsuc target)) id = omega arith
carried_times m r (request.Write database asked) id = let same = ap (times_of id) (streamed_rest m r.session asked) in omega (arith, same)

-- one that has to wait has drawn its number, if it is of no transaction
held_read : (m : Machine) (r : ParkedRequest) (when : When) (q : Request) (id by : ℕ) → reader_behind m when q ≡ Some by → own_count id r (transaction_of when) ≡ 0
held_read m r Released q id by is = absurd (cc)
held_read m r (At time) q id by is = absurd (cc)
held_read m r (In of) q id by is = refl

held_count : (m : Machine) (r : ParkedRequest) (q : Request) (id by : ℕ) → held_by m q ≡ Some by → own_count id r (transaction_in q) ≡ drawn_count id r q
held_count m r (Commit database writes None) id by is = refl
held_count m r (Commit database writes (Some of)) id by is = refl
held_count m r (GetDocument name mask when) id by is = held_read m r when (GetDocument name mask when) id by is
held_count m r (BatchGetDocuments database names mask when) id by is = held_read m r when (BatchGetDocuments database names mask when) id by is
held_count m r (RunQuery database query when) id by is = held_read m r when (RunQuery database query when) id by is
held_count m r (BeginTransaction database options) id by is = absurd (cc)
held_count m r (Rollback database transaction) id by is = absurd (cc)
held_count m r (AddTarget database target t token) id by is = absurd (cc)
held_count m r (RemoveTarget database target) id by is = absurd (cc)
held_count m r (request.Write database asked) id by is = absurd (cc)

full_times : (m n : Machine) (r : ParkedRequest) (id by : ℕ) (full : Bool) → times_of id n ≡ times_of id m → own_count id r (transaction_in r.envelope.request) ≡ drawn_count id r r.envelope.request
    → times_of id (arrives n r (cond full (Decision.refused (at_limit (codes "parked") m.limits.parked)) (Decision.held by))) ≤ times_of id m + drawn_count id r r.envelope.request
full_times m n r id by true same count = omega (arith, same)
full_times m n r id by false same count = let more = parked_more id n.parked r in omega (arith, same, count, more)

behind_times : (m n : Machine) (r : ParkedRequest) (id : ℕ) (found : Option ℕ) → held_by m r.envelope.request ≡ found → times_of id n ≡ times_of id m
    → times_of id (arrives n r (unless_full m (unless_held found))) ≤ times_of id m + drawn_count id r r.envelope.request
behind_times m n r id None is same = let more = carried_times n r r.envelope.request id in omega (arith, same, more)
behind_times m n r id (Some by) is same = full_times m n r id by (nat_le m.limits.parked (length m.parked)) same (held_count m r r.envelope.request id by is)

check_times : (m n : Machine) (r : ParkedRequest) (id : ℕ) (refusal : Option Refusal) → times_of id n ≡ times_of id m
    → times_of id (arrives n r (unless_full m (unless_refused refusal (unless_held (held_by m r.envelope.request))))) ≤ times_of id m + drawn_count id r r.envelope.request
check_times m n r id (Some refusal) same = omega (arith, same)
check_times m n r id None same = behind_times m n r id (held_by m r.envelope.request) refl same

drawn_times : (m : Machine) (r : ParkedRequest) (id : ℕ) (b : Bool)
    → times_of id (comes (cond b (record m { numbers = record m.numbers { ids = m.numbers.ids + 1 } }) m) r (unless_full m (decision m r.session r.envelope.request))) ≤ times_of id m + drawn_count id r r.envelope.request
drawn_times m r id true =
    let d = unless_full m (decision m r.session r.envelope.request) in
    let n = record m { numbers = record m.numbers { ids = m.numbers.ids + 1 } } in
    check_times m (taken_unless d r.stream n) r id (check_refusal m r.session r.envelope.request) (ap (times_of id) (taken_rest d r.stream n))
drawn_times m r id false =
    let d = unless_full m (decision m r.session r.envelope.request) in
    check_times m (taken_unless d r.stream m) r id (check_refusal m r.session r.envelope.request) (ap (times_of id) (taken_rest d r.stream m))

pub asked_times : (m : Machine) (r : ParkedRequest) (id : ℕ) (refusal : Option Refusal) → times_of id (asked_unless refusal m r) ≤ times_of id m + drawn_count id r r.envelope.request
asked_times m r id (Some refusal) = omega arith
asked_times m r id None = drawn_times m r id (draws r.envelope.request)

-- one that is tried again keeps the number that it drew
pub own_or_drawn : (id : ℕ) (r : ParkedRequest) (q : Request) → drawn_count id r q ≤ own_count id r (transaction_in q)
own_or_drawn id r (Commit database writes None) = omega arith
own_or_drawn id r (Commit database writes (Some of)) = omega arith
own_or_drawn id r (GetDocument name mask when) = omega arith
own_or_drawn id r (BatchGetDocuments database names mask when) = omega arith
own_or_drawn id r (RunQuery database query when) = omega arith
own_or_drawn id r (BeginTransaction database options) = omega arith
own_or_drawn id r (Rollback database transaction) = omega arith
own_or_drawn id r (AddTarget database target t token) = omega arith
own_or_drawn id r (RemoveTarget database target) = omega arith
own_or_drawn id r (request.Write database asked) = by_stream asked where
  by_stream : (asked : StreamRequest) → drawn_count id r (request.Write database asked) ≤ own_count id r None
  by_stream Open = omega arith
  by_stream (Resume n token) = omega arith
  by_stream (Batch token writes) = omega arith
  by_stream (Ask token) = omega arith
  by_stream (Mixed n token writes) = omega arith

tried_times : (m : Machine) (place : ℕ) (r : ParkedRequest) (id : ℕ) (d : Decision) → slice_get m.parked place ≡ Some r → times_of id (tried m place r d) ≤ times_of id m
tried_times m place r id (Decision.refused refusal) is = let less = parked_less id m.parked place r is in omega (arith, less)
tried_times m place r id (Decision.held by) is = omega arith
tried_times m place r id Decision.goes_on is =
    let less = parked_less id m.parked place r is in
    let more = carried_times (unparked m place) r r.envelope.request id in
    let own = own_or_drawn id r r.envelope.request in
    omega (arith, less, more, own)

pub retried_times : (m : Machine) (place : ℕ) (id : ℕ) (found : Option ParkedRequest) → slice_get m.parked place ≡ found → times_of id (retried_if m place found) ≤ times_of id m
retried_times m place id None is = omega arith
retried_times m place id (Some r) is = tried_times m place r id (retry_decision m r.session r.envelope.request) is

-- the number of one that draws is the next
next_number : (ids : ℕ) (q : Request) → draws q ≡ true → number_of ids q ≡ ids + 1
next_number ids (Commit database writes None) is = refl
next_number ids (Commit database writes (Some of)) is = absurd (cc)
next_number ids (GetDocument name mask when) is = absurd (cc)
next_number ids (BatchGetDocuments database names mask when) is = absurd (cc)
next_number ids (RunQuery database query when) is = absurd (cc)
next_number ids (BeginTransaction database options) is = refl
next_number ids (Rollback database transaction) is = absurd (cc)
next_number ids (AddTarget database target t token) is = absurd (cc)
next_number ids (RemoveTarget database target) is = absurd (cc)
next_number ids (request.Write database asked) is = refl

-- ---- the rest stays as it is

-- with other listeners, and another number of the last target
abbrev pub with_listeners : Machine → List Listener → ℕ → Machine
with_listeners m ls given = record m { listeners = ls; numbers = record m.numbers { targets = given } }

unless_rest : (m : Machine) (r : ParkedRequest) (writes : List Write) (t : Txn) (found : Option ℕ)
    → committed_unless m r writes t found ≡ record m { past = (committed_unless m r writes t found).past; txns = (committed_unless m r writes t found).txns }
unless_rest m r writes t (Some other) = refl
unless_rest m r writes t None = refl

abbrev if_one : Machine → ParkedRequest → List Write → Txn → Bool → Machine
if_one m r writes t b = cond b (committed_unless m r writes t (conflict m.config.mode m.past m.txns.open t writes)) (with_ended m t.id)

if_rest : (m : Machine) (r : ParkedRequest) (writes : List Write) (t : Txn) (b : Bool) → if_one m r writes t b ≡ record m { past = (if_one m r writes t b).past; txns = (if_one m r writes t b).txns }
if_rest m r writes t true = unless_rest m r writes t (conflict m.config.mode m.past m.txns.open t writes)
if_rest m r writes t false = refl

pub in_rest : (m : Machine) (r : ParkedRequest) (writes : List Write) (found : Option Txn) → committed_in m r writes found ≡ record m { past = (committed_in m r writes found).past; txns = (committed_in m r writes found).txns }
in_rest m r writes None = refl
in_rest m r writes (Some t) = if_rest m r writes t (is_read_write t.kind)

pub read_rest : (m : Machine) (when : When) (q : Request) → read_in m when q ≡ record m { past = (read_in m when q).past; txns = (read_in m when q).txns }
read_rest m Released q = refl
read_rest m (At time) q = refl
read_rest m (In of) q = refl

-- and another desk
abbrev pub with_more : Machine → Machine → Machine
with_more m n = with_desk (with_listeners m n.listeners n.numbers.targets) (desk_of n)

with_both : (m n : Machine) (p : Past) (ts : Transactions) → n ≡ record m { past = p; txns = ts } → n ≡ record (with_more m n) { past = p; txns = ts }
with_both m n p ts is = is ∙ sym (λ i. record (with_more m (is i)) { past = p; txns = ts })

pub carried_rest : (m : Machine) (r : ParkedRequest) (q : Request)
    → carried_by m r q ≡ record (with_more m (carried_by m r q)) { past = (carried_by m r q).past; txns = (carried_by m r q).txns }
carried_rest m r (Commit database writes None) = refl
carried_rest m r (Commit database writes (Some of)) = with_both m _ _ _ (in_rest m r writes (txn_of of m.txns.open))
carried_rest m r (GetDocument name mask when) = with_both m _ _ _ (read_rest m when (GetDocument name mask when))
carried_rest m r (BatchGetDocuments database names mask when) = with_both m _ _ _ (read_rest m when (BatchGetDocuments database names mask when))
carried_rest m r (RunQuery database query when) = with_both m _ _ _ (read_rest m when (RunQuery database query when))
carried_rest m r (BeginTransaction database options) = refl
carried_rest m r (Rollback database transaction) = refl
carried_rest m r (AddTarget database target t token) = refl
carried_rest m r (RemoveTarget database (pos target)) = refl
carried_rest m r (RemoveTarget database (negsuc target)) = refl
carried_rest m r (request.Write database asked) = let n = streamed m r.session asked in let is = streamed_rest m r.session asked in is ∙ sym (λ i. record (with_more m (is i)) { past = (is i).past; txns = (is i).txns })

-- with the rest of another
abbrev pub with_rest : Machine → Machine → Machine
with_rest m n = record (with_more m n) { past = n.past; txns = n.txns; parked = n.parked }

arrives_rest : (m : Machine) (r : ParkedRequest) (d : Decision) → arrives m r d ≡ with_rest m (arrives m r d)
arrives_rest m r (Decision.refused refusal) = refl
arrives_rest m r (Decision.held by) = refl
arrives_rest m r Decision.goes_on =
    carried_rest m r r.envelope.request
    ∙ ap (λ rs. record (with_rest m (carried m r)) { parked = rs }) (sym (ap (λ (n : Machine). n.parked) (carried_rest m r r.envelope.request)))

pub comes_rest : (m : Machine) (r : ParkedRequest) (d : Decision) → comes m r d ≡ with_rest m (comes m r d)
comes_rest m r d = let n = taken_unless d r.stream m in arrives_rest n r d ∙ ap (λ k. with_rest k (arrives n r d)) (taken_rest d r.stream m)

pub tried_rest : (m : Machine) (place : ℕ) (r : ParkedRequest) (d : Decision) → tried m place r d ≡ with_rest m (tried m place r d)
tried_rest m place r (Decision.refused refusal) = refl
tried_rest m place r (Decision.held by) = refl
tried_rest m place r Decision.goes_on = let n = unparked m place in
    carried_rest n r r.envelope.request
    ∙ ap (λ rs. record (with_rest m (carried n r)) { parked = rs }) (sym (ap (λ (k : Machine). k.parked) (carried_rest n r r.envelope.request)))

-- ---- numbers are drawn

abbrev pub AreDrawn : Machine → Type 0
AreDrawn m = IdsAreDrawn m.past m.txns m.parked m.numbers.ids

drawn_so : (m : Machine) (r : ParkedRequest) (b : Bool) → draws r.envelope.request ≡ b → r.id ≡ number_of m.numbers.ids r.envelope.request → AreDrawn m
    → AreDrawn (comes (cond b (record m { numbers = record m.numbers { ids = m.numbers.ids + 1 } }) m) r (unless_full m (decision m r.session r.envelope.request)))
drawn_so m r true is number drawn =
    let k = record m { numbers = record m.numbers { ids = m.numbers.ids + 1 } } in
    let d = unless_full m (decision m r.session r.envelope.request) in
    let n = comes k r d in
    let own : r.id ≡ m.numbers.ids + 1 = number ∙ next_number m.numbers.ids r.envelope.request is in
    let count : (id : ℕ) → drawn_count id r r.envelope.request ≡ counted id (m.numbers.ids + 1) = λ id. ap (more_by id r.id) is ∙ ap (counted id) own in
    subst (IdsAreDrawn n.past n.txns n.parked) (sym (ap (λ (x : Machine). x.numbers.ids) (comes_rest k r d)))
    (ids_drawn m.past m.txns m.parked n.past n.txns n.parked m.numbers.ids true
    (λ id. let less = drawn_times m r id true in let same = count id in omega (arith, less, same)) drawn)
drawn_so m r false is number drawn =
    let d = unless_full m (decision m r.session r.envelope.request) in
    let n = comes m r d in
    let count : (id : ℕ) → drawn_count id r r.envelope.request ≡ 0 = λ id. ap (more_by id r.id) is in
    subst (IdsAreDrawn n.past n.txns n.parked) (sym (ap (λ (x : Machine). x.numbers.ids) (comes_rest m r d)))
    (ids_drawn m.past m.txns m.parked n.past n.txns n.parked m.numbers.ids false
    (λ id. let less = drawn_times m r id false in let same = count id in omega (arith, less, same)) drawn)

pub asked_drawn : (m : Machine) (r : ParkedRequest) (refusal : Option Refusal) → r.id ≡ number_of m.numbers.ids r.envelope.request → AreDrawn m → AreDrawn (asked_unless refusal m r)
asked_drawn m r (Some refusal) number drawn = drawn
asked_drawn m r None number drawn = drawn_so m r (draws r.envelope.request) refl number drawn

pub retried_drawn : (m : Machine) (place : ℕ) (found : Option ParkedRequest) → slice_get m.parked place ≡ found → AreDrawn m → AreDrawn (retried_if m place found)
retried_drawn m place None is drawn = drawn
retried_drawn m place (Some r) is drawn =
    let n = tried m place r (retry_decision m r.session r.envelope.request) in
    subst (IdsAreDrawn n.past n.txns n.parked) (sym (ap (λ (x : Machine). x.numbers.ids) (tried_rest m place r (retry_decision m r.session r.envelope.request))))
    (ids_fewer m.past m.txns m.parked n.past n.txns n.parked m.numbers.ids (λ id. retried_times m place id (Some r) is) drawn)

-- ---- sessions

-- they have the same numbers, and the same messages
pub record AreTheSame (ss other : List Session) : Type 0 where
  pub numbers : numbers_of other ≡ numbers_of ss
  pub outboxes : (k : ℕ) → outbox_in k other ≡ outbox_in k ss

-- they are as they were, or the one of a number owns a stream from now on
abbrev pub AreKept : ℕ → List Session → List Session → Type 0
AreKept number ss other = (other ≡ ss) ⊎ (other ≡ owning number ss)

pub the_same : (number : ℕ) (ss other : List Session) → AreKept number ss other → AreTheSame ss other
the_same number ss other (inl is) = record { numbers = ap numbers_of is; outboxes = λ k. ap (outbox_in k) is }
the_same number ss other (inr is) = record { numbers = ap numbers_of is ∙ numbers_owning ss number; outboxes = λ k. ap (outbox_in k) is ∙ outbox_owning ss number k }

pub carried_kept : (m : Machine) (r : ParkedRequest) (q : Request) → AreKept r.session m.sessions (carried_by m r q).sessions
carried_kept m r (Commit database writes None) = inl refl
carried_kept m r (Commit database writes (Some of)) = inl (ap (λ (n : Machine). n.sessions) (in_rest m r writes (txn_of of m.txns.open)))
carried_kept m r (GetDocument name mask when) = inl (ap (λ (n : Machine). n.sessions) (read_rest m when (GetDocument name mask when)))
carried_kept m r (BatchGetDocuments database names mask when) = inl (ap (λ (n : Machine). n.sessions) (read_rest m when (BatchGetDocuments database names mask when)))
carried_kept m r (RunQuery database query when) = inl (ap (λ (n : Machine). n.sessions) (read_rest m when (RunQuery database query when)))
carried_kept m r (BeginTransaction database options) = inl refl
carried_kept m r (Rollback database transaction) = inl refl
carried_kept m r (AddTarget database target t token) = inl refl
carried_kept m r (RemoveTarget database (pos target)) = inl refl
carried_kept m r (RemoveTarget database (negsuc target)) = inl refl
carried_kept m r (request.Write database Open) = inr refl
carried_kept m r (request.Write database (Resume n token)) = inr refl
carried_kept m r (request.Write database (Batch token writes)) = inl refl
carried_kept m r (request.Write database (Ask token)) = inl refl
carried_kept m r (request.Write database (Mixed n token writes)) = inl refl

arrives_kept : (m : Machine) (r : ParkedRequest) (d : Decision) → AreKept r.session m.sessions (arrives m r d).sessions
arrives_kept m r (Decision.refused refusal) = inl refl
arrives_kept m r (Decision.held by) = inl refl
arrives_kept m r Decision.goes_on = carried_kept m r r.envelope.request

comes_kept : (m : Machine) (r : ParkedRequest) (d : Decision) → AreKept r.session m.sessions (comes m r d).sessions
comes_kept m r d =
    let n = taken_unless d r.stream m in
    subst (λ ss. AreKept r.session ss (arrives n r d).sessions) (ap (λ (k : Machine). k.sessions) (taken_rest d r.stream m)) (arrives_kept n r d)

drawn_kept : (m : Machine) (r : ParkedRequest) (b : Bool) (d : Decision) → AreKept r.session m.sessions (comes (cond b (record m { numbers = record m.numbers { ids = m.numbers.ids + 1 } }) m) r d).sessions
drawn_kept m r true d = comes_kept (record m { numbers = record m.numbers { ids = m.numbers.ids + 1 } }) r d
drawn_kept m r false d = comes_kept m r d

pub asked_kept : (m : Machine) (r : ParkedRequest) (refusal : Option Refusal) → AreKept r.session m.sessions (asked_unless refusal m r).sessions
asked_kept m r (Some refusal) = inl refl
asked_kept m r None = drawn_kept m r (draws r.envelope.request) (unless_full m (decision m r.session r.envelope.request))

drawn_sessions : (m : Machine) (r : ParkedRequest) (b : Bool) (d : Decision) → AreTheSame m.sessions (comes (cond b (record m { numbers = record m.numbers { ids = m.numbers.ids + 1 } }) m) r d).sessions
drawn_sessions m r b d = the_same r.session m.sessions _ (drawn_kept m r b d)

pub asked_sessions : (m : Machine) (r : ParkedRequest) (refusal : Option Refusal) → AreTheSame m.sessions (asked_unless refusal m r).sessions
asked_sessions m r refusal = the_same r.session m.sessions _ (asked_kept m r refusal)

pub carried_numbers : (m : Machine) (r : ParkedRequest) (q : Request) → numbers_of (carried_by m r q).sessions ≡ numbers_of m.sessions
carried_numbers m r q = (the_same r.session m.sessions _ (carried_kept m r q)).numbers

-- one that is tried again may be told a refusal
tried_numbers : (m : Machine) (place : ℕ) (r : ParkedRequest) (d : Decision) → numbers_of (tried m place r d).sessions ≡ numbers_of m.sessions
tried_numbers m place r (Decision.refused refusal) = numbers_given_up r.stream refusal (desk_of m)
tried_numbers m place r (Decision.held by) = refl
tried_numbers m place r Decision.goes_on = carried_numbers (unparked m place) r r.envelope.request

pub retried_numbers : (m : Machine) (place : ℕ) (found : Option ParkedRequest) → numbers_of (retried_if m place found).sessions ≡ numbers_of m.sessions
retried_numbers m place None = refl
retried_numbers m place (Some r) = tried_numbers m place r (retry_decision m r.session r.envelope.request)

nothing_said : (ss other : List Session) (k : ℕ) → AreTheSame ss other → SaysNothing k ss other
nothing_said ss other k same = ([], same.outboxes k ∙ sym (append-nil (outbox_in k ss)), refl)

tried_said : (m : Machine) (place : ℕ) (r : ParkedRequest) (d : Decision) (k : ℕ) → is_open k m.sessions ≡ true → SaysNothing k m.sessions (tried m place r d).sessions
tried_said m place r (Decision.refused refusal) k is = given_up_said k r.stream refusal (desk_of m) is
tried_said m place r (Decision.held by) k is = nothing_said m.sessions m.sessions k (the_same k m.sessions m.sessions (inl refl))
tried_said m place r Decision.goes_on k is = nothing_said m.sessions _ k (the_same r.session m.sessions _ (carried_kept (unparked m place) r r.envelope.request))

pub retried_said : (m : Machine) (place : ℕ) (found : Option ParkedRequest) (k : ℕ) → is_open k m.sessions ≡ true → SaysNothing k m.sessions (retried_if m place found).sessions
retried_said m place None k is = nothing_said m.sessions m.sessions k (the_same k m.sessions m.sessions (inl refl))
retried_said m place (Some r) k is = tried_said m place r (retry_decision m r.session r.envelope.request) k is

-- what a request leaves alone
pub record LeavesAlone (m n : Machine) : Type 0 where
  pub config : n.config ≡ m.config
  pub limits : n.limits ≡ m.limits
  pub sessions : numbers_of n.sessions ≡ numbers_of m.sessions
  pub given : n.numbers.sessions ≡ m.numbers.sessions

alone_of : (m n k : Machine) → k ≡ with_rest n k → numbers_of k.sessions ≡ numbers_of m.sessions → LeavesAlone m n → LeavesAlone m k
alone_of m n k is same alone = record {
  config = ap (λ (x : Machine). x.config) is ∙ alone.config;
  limits = ap (λ (x : Machine). x.limits) is ∙ alone.limits;
  sessions = same;
  given = ap (λ (x : Machine). x.numbers.sessions) is ∙ alone.given;
}

alone_drawn : (m : Machine) (r : ParkedRequest) (b : Bool) (d : Decision) → LeavesAlone m (comes (cond b (record m { numbers = record m.numbers { ids = m.numbers.ids + 1 } }) m) r d)
alone_drawn m r true d =
    let k = record m { numbers = record m.numbers { ids = m.numbers.ids + 1 } } in
    alone_of m k (comes k r d) (comes_rest k r d) (drawn_sessions m r true d).numbers (record { config = refl; limits = refl; sessions = refl; given = refl })
alone_drawn m r false d = alone_of m m (comes m r d) (comes_rest m r d) (drawn_sessions m r false d).numbers (record { config = refl; limits = refl; sessions = refl; given = refl })

pub asked_alone : (m : Machine) (r : ParkedRequest) (refusal : Option Refusal) → LeavesAlone m (asked_unless refusal m r)
asked_alone m r (Some refusal) = record { config = refl; limits = refl; sessions = refl; given = refl }
asked_alone m r None = alone_drawn m r (draws r.envelope.request) (unless_full m (decision m r.session r.envelope.request))

pub retried_alone : (m : Machine) (place : ℕ) (found : Option ParkedRequest) → LeavesAlone m (retried_if m place found)
retried_alone m place None = record { config = refl; limits = refl; sessions = refl; given = refl }
retried_alone m place (Some r) =
    let d = retry_decision m r.session r.envelope.request in
    alone_of m m (tried m place r d) (tried_rest m place r d) (tried_numbers m place r d) (record { config = refl; limits = refl; sessions = refl; given = refl })

-- ---- the last number that was drawn

ids_on : (m : Machine) (r : ParkedRequest) (b : Bool) (d : Decision) → m.numbers.ids ≤ (comes (cond b (record m { numbers = record m.numbers { ids = m.numbers.ids + 1 } }) m) r d).numbers.ids
ids_on m r true d =
    let same = ap (λ (x : Machine). x.numbers.ids) (comes_rest (record m { numbers = record m.numbers { ids = m.numbers.ids + 1 } }) r d) in omega (arith, same)
ids_on m r false d = let same = ap (λ (x : Machine). x.numbers.ids) (comes_rest m r d) in omega (arith, same)

pub asked_ids : (m : Machine) (r : ParkedRequest) (refusal : Option Refusal) → m.numbers.ids ≤ (asked_unless refusal m r).numbers.ids
asked_ids m r (Some refusal) = omega arith
asked_ids m r None = ids_on m r (draws r.envelope.request) (unless_full m (decision m r.session r.envelope.request))

pub retried_ids : (m : Machine) (place : ℕ) (found : Option ParkedRequest) → (retried_if m place found).numbers.ids ≡ m.numbers.ids
retried_ids m place None = refl
retried_ids m place (Some r) = ap (λ (x : Machine). x.numbers.ids) (tried_rest m place r (retry_decision m r.session r.envelope.request))

pub later_number : (id ids n : ℕ) → id ≤ ids → n ≡ ids + 1 → counted id n ≡ 0
later_number id ids n within is = grind (arith, nat_tests)

drawn_by : (m : Machine) (r : ParkedRequest) (id : ℕ) (b : Bool) → draws r.envelope.request ≡ b → r.id ≡ number_of m.numbers.ids r.envelope.request → id ≤ m.numbers.ids → more_by id r.id b ≡ 0
drawn_by m r id true is own within = later_number id m.numbers.ids r.id within (own ∙ next_number m.numbers.ids r.envelope.request is)
drawn_by m r id false is own within = refl

-- what a request draws is later than all that were drawn
pub drawn_later : (m : Machine) (r : ParkedRequest) (id : ℕ) → r.id ≡ number_of m.numbers.ids r.envelope.request → id ≤ m.numbers.ids → drawn_count id r r.envelope.request ≡ 0
drawn_later m r id own within = drawn_by m r id (draws r.envelope.request) refl own within
