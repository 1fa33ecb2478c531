-- Where a request of a write stream leads, and what it is answered.
use Rattle.std.proofs.Common.{◌≡◌, ℕ, ◌+◌, ◌<◌, ◌≤◌, Bool, true, false, cond, List, Option, Some, None, Result, Ok, Err, length, refl, sym, ap, ◌∙◌, subst}
use Rattle.std.specs.Prelude.{◌≢◌, IfErr, IfOk, IsOk, OnOk, alloc_error, codes, nat_le}
use Rattle.std.proofs.lemmas.Result.{IfErr-at_err}
use Rattle.fs_path.specs.declared.name.Root.{Root}
use Rattle.fs_request.specs.declared.request.Envelope.{Envelope}
use Rattle.fs_request.specs.declared.request.Request.TheVariants as request
use Rattle.fs_request.specs.declared.stream_request.StreamRequest.{StreamRequest}
use Rattle.fs_request.specs.declared.stream_request.StreamRequest.TheVariants.{Open, Resume, Batch, Ask, Mixed}
use Rattle.fs_status.specs.Refusal.{at_limit}
use Rattle.fs_status.specs.declared.refusal.Refusal.{Refusal}
use Rattle.fs_stream.proofs.Standing.{new_there}
use Rattle.fs_stream.specs.Answers.{resume_answer}
use Rattle.fs_stream.specs.declared.error.StreamError.{StreamError}
use Rattle.fs_stream.specs.declared.error.StreamError.TheVariants.{Memory}
use Rattle.fs_stream.specs.declared.take.Take.{Take}
use Rattle.fs_stream.specs.declared.take.Take.TheVariants.{New, Repeat, InProgress}
use Rattle.fs_write.specs.declared.write.Write.{Write}
use Rattle.fs_machine.specs.Commit.{commit_refusal, unless_closed}
use Rattle.fs_machine.specs.Config.{IsAllowed}
use Rattle.fs_machine.specs.Event.{Event}
use Rattle.fs_machine.specs.Facts.{Facts}
use Rattle.fs_machine.specs.Limits.{AreAllowed}
use Rattle.fs_machine.specs.Numbered.{stream_draws}
use Rattle.fs_machine.specs.Refusing.{next_time, outbox_refusal}
use Rattle.fs_machine.specs.Request.{Decision, answered, answered_unless, arrived, asked, asked_unless, comes, decided_answer, drawn, numbered, unless_full, unless_held, unless_refused, with_parked, writer_behind}
use Rattle.fs_machine.specs.Sessions.{has_owned}
use Rattle.fs_machine.specs.State.{Machine}
use Rattle.fs_machine.specs.Stream.{Desk, batch_refusal, is_known, known_answer, new_of, own_stream, stream_check, stream_refusal, streamed, take_of, taken_as, taken_by, taker_of, unless_taken, with_desk}
use Rattle.fs_machine.specs.declared.answer.Answer.{Answer}
use Rattle.fs_machine.specs.declared.answer.Answer.TheVariants.{Held, Prepared, Refused}
use Rattle.fs_machine.specs.declared.parked_request.ParkedRequest.{ParkedRequest}
use Rattle.fs_machine.proofs.Runs.{keeps}
use Rattle.fs_sessions.specs.Heard.{AreHeard, Heard, listeners_of}
use Rattle.fs_server.specs.Kept.{IsKept}
use Rattle.fs_server.specs.Streaming.{IsKnown, IsNext, after_streaming, batch_of, batch_parked, batch_prepared, number_drawn, refusal_of_stream, streamed_told, streamed_unless, streaming_answer, told_batch, after_next, next_decision, told_next, writing}
use Rattle.fs_server.proofs.Asking.{kept_of}

-- what stands at every moment is kept, wherever a request leads
pub asked_kept : (m n : Machine) (session : ℕ) (e : Envelope) → n ≡ asked m session e → (hs : List Heard) → n.listeners ≡ listeners_of hs → IsAllowed n.config → AreAllowed n.limits → n.past.shards ≡ n.config.shards
    → AreHeard n.config n.limits n.past hs → Facts m → IsKept n.config n.limits n.past n.txns n.sessions hs n.parked n.streams n.numbers
asked_kept m n session e is hs listened configured allowed shards heard facts = kept_of n hs listened configured allowed shards heard (subst Facts (sym is) (keeps m (Event.asking session e) facts))

-- ---- one that is no batch

no_taker : (m : Machine) (session : ℕ) (sent : StreamRequest) → stream_draws sent ≡ false → taker_of m session sent ≡ None
no_taker m session Open plain = refl
no_taker m session (Resume n token) plain = refl
no_taker m session (Batch token writes) plain = absurd (cc)
no_taker m session (Ask token) plain = refl
no_taker m session (Mixed n token writes) plain = refl

module _ (m : Machine) (session : ℕ) (id : Option (List ℕ)) (database : Root) (sent : StreamRequest) (plain : stream_draws sent ≡ false) where
  abbrev r : ParkedRequest
  r = numbered m session (writing id database sent)

  untaken : r ≡ arrived m session (writing id database sent)
  untaken = ap (λ stream. taken_as stream r) (sym (no_taker m session sent plain))

  undrawn : m ≡ drawn m (request.Write database sent)
  undrawn = ap (λ b. cond b (record m { numbers = record m.numbers { ids = m.numbers.ids + 1 } }) m) (sym plain)

  abbrev decided_by : Option Refusal → Decision
  decided_by check = unless_full m (unless_refused check (unless_held None))

  told_check : (check : Option Refusal) → streamed_told check m session sent ≡ decided_answer m r (decided_by check)
  told_check (Some refusal) = refl
  told_check None = refl

  told_limit : (limit : Option Refusal) → stream_refusal m session sent ≡ limit → streaming_answer m session sent ≡ answered_unless limit m r
  told_limit (Some refusal) is = ap (λ o. streamed_told (unless_closed o (stream_check m session sent)) m session sent) is
  told_limit None is =
      ap (λ o. streamed_told (unless_closed o (stream_check m session sent)) m session sent) is
      ∙ told_check (stream_check m session sent) ∙ ap (λ n. decided_answer n r (decided_by (stream_check m session sent))) undrawn

  pub told_streaming : streaming_answer m session sent ≡ answered m session (writing id database sent)
  told_streaming = told_limit (stream_refusal m session sent) refl ∙ ap (answered_unless (stream_refusal m session sent) m) untaken

  state_check : (check : Option Refusal) → streamed_unless check m session sent ≡ comes m r (decided_by check)
  state_check (Some refusal) = refl
  state_check None = refl

  state_limit : (limit : Option Refusal) → stream_refusal m session sent ≡ limit → after_streaming m session sent ≡ asked_unless limit m r
  state_limit (Some refusal) is = ap (λ o. streamed_unless (unless_closed o (stream_check m session sent)) m session sent) is
  state_limit None is =
      ap (λ o. streamed_unless (unless_closed o (stream_check m session sent)) m session sent) is
      ∙ state_check (stream_check m session sent) ∙ ap (λ n. comes n r (decided_by (stream_check m session sent))) undrawn

  pub state_streaming : after_streaming m session sent ≡ asked m session (writing id database sent)
  state_streaming = state_limit (stream_refusal m session sent) refl ∙ ap (asked_unless (stream_refusal m session sent) m) untaken

-- one that is asked with the id of an envelope is asked by the envelope
module _ (m : Machine) (session : ℕ) (e : Envelope) (database : Root) (sent : StreamRequest) (is : e.request ≡ request.Write database sent) where
  same_envelope : writing e.id database sent ≡ e
  same_envelope = ap (λ q. record e { request = q }) (sym is)

  pub told_envelope : {E : Type 0} (r : Result Answer E) → IfOk r (λ a. a ≡ answered m session (writing e.id database sent)) → IfOk r (λ a. a ≡ answered m session e)
  told_envelope (Ok a) so = so ∙ ap (answered m session) same_envelope
  told_envelope (Err f) so = tt

  pub state_envelope : {E : Type 0} (r : Result Answer E) (k : Machine) → OnOk r (k ≡ asked m session (writing e.id database sent)) → OnOk r (k ≡ asked m session e)
  state_envelope (Ok a) k so = so ∙ ap (asked m session) same_envelope
  state_envelope (Err f) k so = tt

-- as a call gives it
pub told_call : {E : Type 0} (r : Result Answer E) (m : Machine) (session : ℕ) (id : Option (List ℕ)) (database : Root) (q sent : StreamRequest) → stream_draws q ≡ false → sent ≡ q
    → IfOk r (λ a. a ≡ streaming_answer m session q) → IfOk r (λ a. a ≡ answered m session (writing id database sent))
told_call (Ok a) m session id database q sent plain is so = so ∙ told_streaming m session id database q plain ∙ ap (λ (x : StreamRequest). answered m session (writing id database x)) (sym is)
told_call (Err e) m session id database q sent plain is so = tt

pub state_call : {E : Type 0} (r : Result Answer E) (k m : Machine) (session : ℕ) (id : Option (List ℕ)) (database : Root) (q sent : StreamRequest) → stream_draws q ≡ false → sent ≡ q
    → OnOk r (k ≡ after_streaming m session q) → OnOk r (k ≡ asked m session (writing id database sent))
state_call (Ok a) k m session id database q sent plain is so = so ∙ state_streaming m session id database q plain ∙ ap (λ (x : StreamRequest). asked m session (writing id database x)) (sym is)
state_call (Err e) k m session id database q sent plain is so = tt

-- as the code has it: the server as it was made of, and its desk then
module _ (m0 m : Machine) (view : m0 ≡ m) (session : ℕ) (sent : StreamRequest) (plain : stream_draws sent ≡ false) (none : refusal_of_stream m session sent ≡ None)
    (d : Desk) (is : with_desk m0 d ≡ streamed m0 session sent) where
  pub streamed_so : with_desk m0 d ≡ streamed m session sent
  streamed_so = is ∙ ap (λ (k : Machine). streamed k session sent) view

  leads_there : with_desk m0 d ≡ asked m session (writing None m.config.root sent)
  leads_there = streamed_so ∙ ap (λ o. streamed_unless o m session sent) (sym none) ∙ state_streaming m session None m.config.root sent plain

  pub streamed_kept : (hs : List Heard) → m0.listeners ≡ listeners_of hs → IsAllowed m0.config → AreAllowed m0.limits → m0.past.shards ≡ m0.config.shards → AreHeard m0.config m0.limits m0.past hs → Facts m
      → IsKept m0.config m0.limits m0.past m0.txns d.1 hs m0.parked d.0 m0.numbers
  streamed_kept hs listened configured allowed shards heard facts = asked_kept m (with_desk m0 d) session (writing None m.config.root sent) leads_there hs listened configured allowed shards heard facts

-- one whose stream doesn't take it changes nothing
pub state_unresumed : (m : Machine) (session n token : ℕ) (e : StreamError) → outbox_refusal m session None ≡ None → resume_answer session n token m.streams ≡ Err e → m ≡ after_streaming m session (Resume n token)
state_unresumed m session n token e room is = sym (λ i. streamed_unless (unless_closed (room i) (unless_taken (has_owned session m.sessions) (is i))) m session (Resume n token))

-- a refusal of a stream that isn't for want of memory is what it answers
pub refused_so : {X : Type 0} (answer told : Result X StreamError) (e : StreamError) → told ≡ Err e → IfErr answer (λ f. told ≡ Err f) → (IsOk answer → IfErr told (λ f. f ≡ Memory alloc_error)) → e ≢ Memory alloc_error → answer ≡ Err e
refused_so (Ok x) told e is refused memory lasts = absurd (lasts (IfErr-at_err (λ f. f ≡ Memory alloc_error) is (memory refl)))
refused_so (Err f) told e is refused memory lasts = sym refused ∙ is

unless_still : (m : Machine) (session token : ℕ) (o : Option Refusal) → m ≡ streamed_unless o m session (Ask token)
unless_still m session token (Some refusal) = refl
unless_still m session token None = refl

mixed_still : (m : Machine) (session n token : ℕ) (writes : List Write) (o : Option Refusal) → m ≡ streamed_unless o m session (Mixed n token writes)
mixed_still m session n token writes (Some refusal) = refl
mixed_still m session n token writes None = refl

-- one that asks where its stream is changes nothing, and so does one that is refused in any case
pub state_asking : (m : Machine) (session : ℕ) (id : Option (List ℕ)) (database : Root) (token : ℕ) → m ≡ asked m session (writing id database (Ask token))
state_asking m session id database token = unless_still m session token _ ∙ state_streaming m session id database (Ask token) refl

pub state_mixed : (m : Machine) (session : ℕ) (id : Option (List ℕ)) (database : Root) (n token : ℕ) (writes : List Write) → m ≡ asked m session (writing id database (Mixed n token writes))
state_mixed m session id database n token writes = mixed_still m session n token writes _ ∙ state_streaming m session id database (Mixed n token writes) refl

-- ---- a batch

module _ (m : Machine) (session : ℕ) (id : Option (List ℕ)) (database : Root) (token : ℕ) (writes : List Write) where
  abbrev e : Envelope
  e = writing id database (Batch token writes)

  -- that passes a limit
  module _ (refusal : Refusal) (limits : batch_refusal m session writes (is_known (take_of m session token)) ≡ Some refusal) where
    refused_batch : (stream : Option ℕ) → answered_unless (Some refusal) m (taken_as stream (numbered m session e)) ≡ Refused refusal
    refused_batch None = refl
    refused_batch (Some n) = refl

    pub told_limited : Refused refusal ≡ answered m session e
    told_limited = sym (ap (λ o. answered_unless o m (arrived m session e)) limits ∙ refused_batch (new_of (take_of m session token)))

    pub state_limited : m ≡ asked m session e
    state_limited = sym (ap (λ o. asked_unless o m (arrived m session e)) limits)

  -- that isn't new
  module _ (take : Result Take StreamError) (is : take ≡ take_of m session token) (known : new_of take ≡ None) (limits : batch_refusal m session writes (is_known take) ≡ None) where
    abbrev plain_one : ParkedRequest
    plain_one = numbered m session e

    abbrev decided_take : Result Take StreamError → Decision
    decided_take t = unless_full m (unless_refused (unless_taken (has_owned session m.sessions) t) (unless_held None))

    told_take : (t : Result Take StreamError) → new_of t ≡ None → t ≡ take_of m session token → told_batch (has_owned session m.sessions) (own_stream m session) t ≡ decided_answer (number_drawn m) plain_one (decided_take t)
    told_take (Ok (New n)) new so = absurd (cc)
    told_take (Ok (Repeat kept)) new so = ap (known_answer (own_stream m session)) so
    told_take (Ok (InProgress n)) new so = ap (known_answer (own_stream m session)) so
    told_take (Err error) new so = refl

    pub told_known : told_batch (has_owned session m.sessions) (own_stream m session) take ≡ answered m session e
    told_known =
        told_take take known is
        ∙ ap (λ t. decided_answer (number_drawn m) plain_one (decided_take t)) is
        ∙ ap (λ o. answered_unless o m plain_one) (sym (ap (λ t. batch_refusal m session writes (is_known t)) (sym is) ∙ limits))
        ∙ ap (λ t. answered_unless (batch_refusal m session writes (is_known (take_of m session token))) m (taken_as t plain_one)) (sym (ap new_of (sym is) ∙ known))

    state_take : (t : Result Take StreamError) → new_of t ≡ None → number_drawn m ≡ comes (number_drawn m) plain_one (decided_take t)
    state_take (Ok take) new = refl
    state_take (Err error) new = refl

    pub state_known : number_drawn m ≡ asked m session e
    state_known =
        state_take take known
        ∙ ap (λ t. comes (number_drawn m) plain_one (decided_take t)) is
        ∙ ap (λ o. asked_unless o m plain_one) (sym (ap (λ t. batch_refusal m session writes (is_known t)) (sym is) ∙ limits))
        ∙ ap (λ t. asked_unless (batch_refusal m session writes (is_known (take_of m session token))) m (taken_as t plain_one)) (sym (ap new_of (sym is) ∙ known))

  -- that is new
  module _ (n : ℕ) (take : take_of m session token ≡ Ok (New n)) (limits : commit_refusal m session writes None ≡ None) where
    abbrev batch : ParkedRequest
    batch = batch_of m session id database n writes

    pub state_next : after_next m batch writes ≡ asked m session e
    state_next =
        sym (ap (λ t. asked_unless (batch_refusal m session writes (is_known t)) m (taken_as (new_of t) (numbered m session e))) take
        ∙ ap (λ o. asked_unless o m batch) limits)

    pub told_of_next : told_next m batch writes ≡ answered m session e
    told_of_next =
        sym (ap (λ t. answered_unless (batch_refusal m session writes (is_known t)) m (taken_as (new_of t) (numbered m session e))) take
        ∙ ap (λ o. answered_unless o m batch) limits)

-- ---- what becomes of one that is new

module _ (m : Machine) (r : ParkedRequest) (n : ℕ) (writes : List Write) (stream : r.stream ≡ Some n) where
  abbrev becomes : Option ℕ → Decision
  becomes behind = unless_full m (unless_held behind)

  abbrev as_full : ℕ → Bool → Decision
  as_full by full = cond full (Decision.refused (at_limit (codes "parked") m.limits.parked)) (Decision.held by)

  becomes_full : (by : ℕ) (full : Bool) → writer_behind m writes None ≡ Some by → nat_le m.limits.parked (length m.parked) ≡ full → next_decision m writes ≡ as_full by full
  becomes_full by full held is = ap becomes held ∙ ap (as_full by) is

  pub state_waits : (by : ℕ) → writer_behind m writes None ≡ Some by → nat_le m.limits.parked (length m.parked) ≡ false → batch_parked m r n ≡ after_next m r writes
  state_waits by held room =
      ap (λ o. with_parked (taken_by o (number_drawn m)) r) (sym stream) ∙ ap (comes (number_drawn m) r) (sym (becomes_full by false held room))

  pub told_waits : (by : ℕ) → writer_behind m writes None ≡ Some by → nat_le m.limits.parked (length m.parked) ≡ false → Held by ≡ told_next m r writes
  told_waits by held room = ap (decided_answer (number_drawn m) r) (sym (becomes_full by false held room))

  pub state_full : (by : ℕ) → writer_behind m writes None ≡ Some by → nat_le m.limits.parked (length m.parked) ≡ true → number_drawn m ≡ after_next m r writes
  state_full by held full = ap (comes (number_drawn m) r) (sym (becomes_full by true held full))

  pub told_full : (by : ℕ) → writer_behind m writes None ≡ Some by → nat_le m.limits.parked (length m.parked) ≡ true → Refused (at_limit (codes "parked") m.limits.parked) ≡ told_next m r writes
  told_full by held full = ap (decided_answer (number_drawn m) r) (sym (becomes_full by true held full))

module _ (m : Machine) (session : ℕ) (id : Option (List ℕ)) (database : Root) (n : ℕ) (writes : List Write) (free : writer_behind m writes None ≡ None) where
  abbrev its : ParkedRequest
  its = batch_of m session id database n writes

  pub state_prepared : batch_prepared m n writes ≡ after_next m its writes
  state_prepared = ap (λ o. comes (number_drawn m) its (unless_full m (unless_held o))) (sym free)

  pub told_prepared : Prepared (m.numbers.ids + 1) (next_time m.past) ≡ told_next m its writes
  told_prepared = ap (λ o. decided_answer (number_drawn m) its (unless_full m (unless_held o))) (sym free)

-- ---- as the code has it

module _ (m : Machine) (session n : ℕ) (writes : List Write) (next : IsNext m session n writes) where
  next_is : (id : Option (List ℕ)) (database : Root) → after_next m (batch_of m session id database n writes) writes ≡ asked m session (writing id database (Batch next.token writes))
  next_is id database = state_next m session id database next.token writes n next.take next.limits

  -- wherever the next batch of a stream leads, what stands is kept
  pub next_kept : (k : Machine) (id : Option (List ℕ)) (database : Root) → k ≡ after_next m (batch_of m session id database n writes) writes
      → (hs : List Heard) → k.listeners ≡ listeners_of hs → IsAllowed k.config → AreAllowed k.limits → k.past.shards ≡ k.config.shards → AreHeard k.config k.limits k.past hs → Facts m
      → IsKept k.config k.limits k.past k.txns k.sessions hs k.parked k.streams k.numbers
  next_kept k id database is hs listened configured allowed shards heard facts =
      asked_kept m k session (writing id database (Batch next.token writes)) (is ∙ next_is id database) hs listened configured allowed shards heard facts

  -- its stream was opened
  pub next_there : Facts m → (0 < n) × (n ≤ length m.streams.opened)
  next_there facts = new_there session next.token n m.streams facts.streams.stands next.take

-- a batch that isn't new only draws its number
pub known_kept : (m0 m : Machine) → m0 ≡ m → (session : ℕ) (take : Result Take StreamError) → IsKnown m session take → (hs : List Heard) → m0.listeners ≡ listeners_of hs → IsAllowed m0.config → AreAllowed m0.limits
    → m0.past.shards ≡ m0.config.shards → AreHeard m0.config m0.limits m0.past hs → Facts m → IsKept m0.config m0.limits m0.past m0.txns m0.sessions hs m0.parked m0.streams (record m0.numbers { ids = m0.numbers.ids + 1 })
known_kept m0 m view session take k hs listened configured allowed shards heard facts =
    asked_kept m (number_drawn m0) session (writing None m.config.root (Batch k.token k.writes))
    (ap number_drawn view ∙ state_known m session None m.config.root k.token k.writes take k.is k.known k.limits) hs listened configured allowed shards heard facts
