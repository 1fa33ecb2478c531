-- What becomes of a request that comes: it is told why not, it waits, or it is carried out.
use Rattle.std.proofs.Common.{◌≡◌, ℕ, ◌+◌, Bool, true, false, cond, List, [], ◌∷◌, Option, Some, None, refl, sym, ap, ◌∙◌}
use Rattle.std.specs.Prelude.{codes, length, nat_le, nat_lt}
use Rattle.fs_history.specs.declared.read.Read.{Read}
use Rattle.fs_query.specs.declared.listen.ListenMessage.TheVariants as listen
use Rattle.fs_request.specs.declared.message.Message.{Message}
use Rattle.fs_request.specs.declared.message.Message.TheVariants as message
use Rattle.fs_request.specs.declared.request.Envelope.{Envelope}
use Rattle.fs_request.specs.declared.request.Request.{Request}
use Rattle.fs_request.specs.declared.request.Request.TheVariants.{Commit, GetDocument, BatchGetDocuments, RunQuery, BeginTransaction, Rollback, AddTarget, RemoveTarget}
use Rattle.fs_request.specs.declared.request.Request.TheVariants as request
use Rattle.fs_status.specs.Refusal.{at_limit}
use Rattle.fs_status.specs.declared.refusal.Refusal.{Refusal}
use Rattle.fs_write.specs.declared.write.Write.{Write}
use Rattle.fs_history.specs.Bytes.{commit_size}
use Rattle.fs_machine.specs.Commit.{growth_refusal, number_refusal, only_reads, unless_closed}
use Rattle.fs_machine.specs.Listen.{cause_of, has_target, is_plain}
use Rattle.fs_machine.specs.Numbered.{draws}
use Rattle.fs_machine.specs.Read.{read_limit_refusal}
use Rattle.fs_machine.specs.Refusing.{journal_count, journal_size, outbox_is_full, outbox_refusal, passed, room_refusal, time_limit_refusal}
use Rattle.fs_machine.specs.Request.{Decision, answer_by, answered, answered_unless, arrival_refusal, arrived, asked, asked_unless, carried_by, comes, check_refusal, decided_answer, decision, held_by, query_refusal, refused_by, retry_refusal, unless_full, unless_held, unless_refused, with_parked}
use Rattle.fs_machine.specs.State.{Machine}
use Rattle.fs_machine.specs.Stream.{batch_refusal, is_known, taken_by}
use Rattle.fs_machine.specs.Transact.{reads_had}
use Rattle.fs_machine.specs.declared.answer.Answer.{Answer}
use Rattle.fs_machine.specs.declared.answer.Answer.TheVariants.{Held, Refused, Reply}
use Rattle.fs_machine.specs.declared.numbers.Numbers.{Numbers}
use Rattle.fs_machine.specs.declared.parked_request.ParkedRequest.{ParkedRequest}
use Rattle.fs_machine.proofs.Holding.{decision_alike}
use Rattle.fs_replay.proofs.Arriving.{arrived_by}
use Rattle.fs_replay.proofs.Going.{is_told}

abbrev pub with_numbers : Machine → Numbers → Machine
with_numbers m k = record m { numbers = k }

-- once its stream has taken it, if it is the next batch of one
abbrev pub taken_on : Machine → ParkedRequest → Numbers → Machine
taken_on m r k = taken_by r.stream (with_numbers m k)

-- which is all that changes
pub taken_beside : (m : Machine) (stream : Option ℕ) → taken_by stream m ≡ record m { streams = (taken_by stream m).streams }
taken_beside m None = refl
taken_beside m (Some n) = refl

-- the server then, and the answer
pub data Becomes (m : Machine) (r : ParkedRequest) (n : Machine) (a : Answer) : Type 0 where
  refused : (k : Numbers) → n ≡ with_numbers m k → is_told a ≡ true → Becomes m r n a
  held : (k : Numbers) → (by : ℕ) → n ≡ with_parked (taken_on m r k) r → a ≡ Held by → held_by m r.envelope.request ≡ Some by → retry_refusal m r.envelope.request ≡ None → Becomes m r n a
  goes_on : (k : Numbers) → n ≡ carried_by (taken_on m r k) r r.envelope.request → a ≡ answer_by (taken_on m r k) r r.envelope.request
      → decision (taken_on m r k) r.session r.envelope.request ≡ Decision.goes_on → Becomes m r n a

-- ---- one that passed the limits may be tried again

within : (over : Bool) (name : List ℕ) (number : ℕ) (others : Option Refusal) → passed over name number others ≡ None → others ≡ None
within true name number others none = absurd (cc)
within false name number others none = none

behind_it : (over : Bool) (name : List ℕ) (number : ℕ) (one other : Option Refusal) → (one ≡ None → other ≡ None) → passed over name number one ≡ None → passed over name number other ≡ None
behind_it true name number one other more none = absurd (cc)
behind_it false name number one other more none = more none

grows_so : (m : Machine) (writes : List Write) (reads : List Read) (b : Bool) (one other : Option Refusal) → (one ≡ None → other ≡ None) → cond b None (room_refusal m writes reads one) ≡ None → cond b None (room_refusal m writes reads other) ≡ None
grows_so m writes reads true one other more none = refl
grows_so m writes reads false one other more none =
    let over = nat_lt m.limits.journal (journal_size m.past + commit_size writes reads) in
    behind_it (nat_le m.limits.batches (journal_count m.past)) (codes "batches") m.limits.batches (passed over (codes "journal") m.limits.journal one) (passed over (codes "journal") m.limits.journal other)
    (behind_it over (codes "journal") m.limits.journal one other more) none

number_may : (m : Machine) (transaction : Option ℕ) (others : Option Refusal) → number_refusal m transaction others ≡ None → others ≡ None
number_may m None others none = within (nat_le m.limits.ids m.numbers.ids) (codes "ids") m.limits.ids others none
number_may m (Some id) others none = none

has_outbox : (m : Machine) (session : ℕ) (others : Option Refusal) → outbox_refusal m session others ≡ None → others ≡ None
has_outbox m session others none = within (outbox_is_full m session) (codes "outbox") m.limits.outbox others none

breaks_none : (first others : Option Refusal) → unless_closed first others ≡ None → others ≡ None
breaks_none (Some refusal) others none = absurd (cc)
breaks_none None others none = none

may_retry : (m : Machine) (session : ℕ) (q : Request) → arrival_refusal m session q ≡ None → retry_refusal m q ≡ None
may_retry m session (Commit database writes transaction) none =
    let time = time_limit_refusal m in
    let grown = growth_refusal m writes transaction (number_refusal m transaction time) in
    let few = within (nat_lt m.limits.writes (length writes)) (codes "writes") m.limits.writes (outbox_refusal m session grown) none in
    grows_so m writes (reads_had m.txns transaction) (only_reads m transaction) (number_refusal m transaction time) time (number_may m transaction time) (has_outbox m session grown few)
may_retry m session (GetDocument name mask when) none = has_outbox m session (read_limit_refusal m when (GetDocument name mask when)) none
may_retry m session (BatchGetDocuments database names mask when) none = has_outbox m session (read_limit_refusal m when (BatchGetDocuments database names mask when)) none
may_retry m session (RunQuery database query when) none =
    let limit = read_limit_refusal m when (RunQuery database query when) in
    has_outbox m session limit (breaks_none (query_refusal query) (outbox_refusal m session limit) none)
may_retry m session (BeginTransaction database options) none = refl
may_retry m session (Rollback database transaction) none = refl
may_retry m session (AddTarget database target t token) none = refl
may_retry m session (RemoveTarget database target) none = refl
may_retry m session (request.Write database asked) none = refl

arrived_may : (m : Machine) (session : ℕ) (e : Envelope) → arrival_refusal m session e.request ≡ None → retry_refusal m (arrived m session e).envelope.request ≡ None
arrived_may m session e none =
    arrived_by m session e (λ r. retry_refusal m r.envelope.request ≡ None) (may_retry m session e.request none)
    (λ database token writes n is new.
    let same = ap (arrival_refusal m session) is ∙ ap (λ t. batch_refusal m session writes (is_known t)) new in may_retry m session (Commit database writes None) (sym same ∙ none))

-- ---- a stream that takes a batch is no matter to the commit that it is

abbrev SameTaken : ParkedRequest → Type 0
SameTaken r = (n : Machine) → (answer_by (taken_by r.stream n) r r.envelope.request ≡ answer_by n r r.envelope.request) × (decision (taken_by r.stream n) r.session r.envelope.request ≡ decision n r.session r.envelope.request)

arrived_same : (m : Machine) (session : ℕ) (e : Envelope) → SameTaken (arrived m session e)
arrived_same m session e = arrived_by m session e SameTaken (λ k. (refl, refl)) (λ database token writes n is new k. (refl, refl))

-- ---- stage by stage

module _ (m : Machine) (r : ParkedRequest) (k : Numbers) (may : retry_refusal m r.envelope.request ≡ None) (same : SameTaken r) where
  abbrev then_is : Decision → Type 0
  then_is d = Becomes m r (comes (with_numbers m k) r d) (decided_answer (with_numbers m k) r d)

  -- it is carried out on the server whose stream has taken it
  goes : decision (with_numbers m k) r.session r.envelope.request ≡ Decision.goes_on → then_is Decision.goes_on
  goes free =
      let both = same (with_numbers m k) in
      goes_on k refl (sym both.0) (both.1 ∙ free)

  full_is : (by : ℕ) (full : Bool) → held_by m r.envelope.request ≡ Some by → then_is (cond full (Decision.refused (at_limit (codes "parked") m.limits.parked)) (Decision.held by))
  full_is by true is = refused k refl refl
  full_is by false is = held k by refl refl is may

  decided_is : (refusal : Option Refusal) (found : Option ℕ) → check_refusal m r.session r.envelope.request ≡ refusal → held_by m r.envelope.request ≡ found → then_is (unless_full m (unless_refused refusal (unless_held found)))
  decided_is (Some refusal) found none free = refused k refl refl
  decided_is None (Some by) none free = full_is by (nat_le m.limits.parked (length m.parked)) free
  decided_is None None none free = goes (decision_alike m k m.parked r.session r.envelope.request ∙ (λ i. unless_refused (none i) (unless_held (free i))))

drawn_is : (m : Machine) (r : ParkedRequest) (b : Bool) → retry_refusal m r.envelope.request ≡ None → SameTaken r
    → Becomes m r (comes (cond b (with_numbers m (record m.numbers { ids = m.numbers.ids + 1 })) m) r (unless_full m (decision m r.session r.envelope.request)))
    (decided_answer (cond b (with_numbers m (record m.numbers { ids = m.numbers.ids + 1 })) m) r (unless_full m (decision m r.session r.envelope.request)))
drawn_is m r true may same = decided_is m r (record m.numbers { ids = m.numbers.ids + 1 }) may same (check_refusal m r.session r.envelope.request) (held_by m r.envelope.request) refl refl
drawn_is m r false may same = decided_is m r m.numbers may same (check_refusal m r.session r.envelope.request) (held_by m r.envelope.request) refl refl

-- one that isn't carried out is told so
unadded_told : (b c : Bool) (refusal : Refusal) (message : Message) → is_told (cond b (Refused refusal) (cond c (Refused refusal) (Reply message))) ≡ true
unadded_told true c refusal message = refl
unadded_told false true refusal message = refl
unadded_told false false refusal message = refl

pub refused_told : (m : Machine) (session : ℕ) (q : Request) (refusal : Refusal) → is_told (refused_by m session q refusal) ≡ true
refused_told m session (Commit database writes transaction) refusal = refl
refused_told m session (GetDocument name mask when) refusal = refl
refused_told m session (BatchGetDocuments database names mask when) refusal = refl
refused_told m session (RunQuery database query when) refusal = refl
refused_told m session (BeginTransaction database options) refusal = refl
refused_told m session (Rollback database transaction) refusal = refl
refused_told m session (AddTarget database target t token) refusal =
    unadded_told (is_plain refusal.reason) (has_target m session target) refusal (message.Listen (listen.Remove (target ∷ []) (Some (cause_of refusal))))
refused_told m session (RemoveTarget database target) refusal = refl
refused_told m session (request.Write database asked) refusal = refl

asked_is : (m : Machine) (session : ℕ) (e : Envelope) (refusal : Option Refusal) → arrival_refusal m session e.request ≡ refusal
    → Becomes m (arrived m session e) (asked_unless refusal m (arrived m session e)) (answered_unless refusal m (arrived m session e))
asked_is m session e (Some refusal) is = refused m.numbers refl (refused_told m (arrived m session e).session (arrived m session e).envelope.request refusal)
asked_is m session e None is =
    let r = arrived m session e in drawn_is m r (draws r.envelope.request) (arrived_may m session e is) (arrived_same m session e)

-- it is of the session that asked, whether a stream takes it or not
pub arrived_session : (m : Machine) (session : ℕ) (e : Envelope) → (arrived m session e).session ≡ session
arrived_session m session e = arrived_by m session e (λ r. r.session ≡ session) refl (λ database token writes n is new. refl)

pub asked_becomes : (m : Machine) (session : ℕ) (e : Envelope) → Becomes m (arrived m session e) (asked m session e) (answered m session e)
asked_becomes m session e = asked_is m session e (arrival_refusal m session e.request) refl
