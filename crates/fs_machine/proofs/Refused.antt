-- The number of a commit that was dropped is nobody's any more, whatever events come.
use Rattle.std.proofs.Common.{◌≡◌, ℕ, ◌+◌, ◌<◌, ◌≤◌, Bool, true, false, cond, List, [], ◌∷◌, Option, Some, None, Result, Ok, Err, refl, sym, ap, ◌∙◌, subst, arith}
use Rattle.std.specs.Prelude.{slice_get}
use Rattle.fs_request.specs.declared.request.Envelope.{Envelope}
use Rattle.fs_txn.specs.Expiry.{expired_at}
use Rattle.fs_txn.specs.Transactions.{Transactions}
use Rattle.fs_status.specs.declared.refusal.Refusal.{Refusal}
use Rattle.fs_write.specs.Batch.{Docs}
use Rattle.fs_write.specs.declared.write_result.WriteResult.{WriteResult}
use Rattle.fs_machine.specs.declared.parked_request.ParkedRequest.{ParkedRequest}
use Rattle.fs_machine.specs.declared.unreleased.Unreleased.{Unreleased}
use Rattle.fs_machine.specs.Event.{Event, after, step}
use Rattle.fs_machine.specs.Facts.{Facts}
use Rattle.fs_machine.specs.IdsAreDrawn.{counted, times, times_in}
use Rattle.fs_machine.specs.Leave.{of_others}
use Rattle.fs_machine.specs.Open.{is_full, with_session}
use Rattle.fs_machine.specs.Past.{Past, batches}
use Rattle.fs_machine.specs.Release.{past_released}
use Rattle.fs_machine.specs.Request.{arrival_refusal, arrived, asked}
use Rattle.fs_machine.specs.Retry.{retried}
use Rattle.fs_machine.specs.Settle.{decided, decided_if, decided_with, dropped_from, is_it, outcome_of, past_decided, pending_in, pending_of}
use Rattle.fs_machine.specs.State.{Machine}
use Rattle.fs_machine.specs.Tick.{past_advanced}
use Rattle.fs_machine.proofs.Carried.{asked_ids, asked_times, drawn_later, retried_ids, retried_times}
use Rattle.fs_machine.proofs.IdsAreDrawn.{AreFewer, fewer_decided, fewer_departed, fewer_expired, fewer_released}
use Rattle.fs_machine.proofs.Listening.{loaded_rest, raised_rest}
use Rattle.fs_machine.proofs.OutcomesStay.{it_is_one}
use Rattle.fs_machine.proofs.Pending.{number_found}
use Rattle.fs_machine.proofs.Runs.{keeps}
use Rattle.fs_machine.proofs.Streaming.{arrived_number}

-- it was drawn, and nothing has it
abbrev IsGone : ℕ → Machine → Type 0
IsGone id m = (times id m.past m.txns m.parked ≡ 0) × (id ≤ m.numbers.ids)

-- ---- an event gives it to nothing

module _ (m : Machine) (id : ℕ) (gone : IsGone id m) where
  stays_gone : (q : Past) (us : Transactions) (ss : List ParkedRequest) → AreFewer m.past m.txns m.parked q us ss → times id q us ss ≡ 0
  stays_gone q us ss fewer = let less = fewer id in let none = gone.0 in omega (arith, less, none)

  gone_opened : (full : Bool) → IsGone id (cond full m (with_session m))
  gone_opened true = gone
  gone_opened false = gone

  -- one that comes draws the next number
  gone_asked : (session : ℕ) (e : Envelope) → IsGone id (asked m session e)
  gone_asked session e =
      let r = arrived m session e in
      let refusal = arrival_refusal m session e.request in
      let none = gone.0 in let drew = gone.1 in
      let less = asked_times m r id refusal in
      let other = drawn_later m r id (arrived_number m session e) drew in
      let on = asked_ids m r refusal in
      (omega (arith, less, none, other), omega (arith, on, drew))

  -- one that is tried again keeps its own
  gone_retried : (place : ℕ) → IsGone id (retried m place)
  gone_retried place =
      let none = gone.0 in let drew = gone.1 in
      let less = retried_times m place id (slice_get m.parked place) refl in
      let same = retried_ids m place (slice_get m.parked place) in
      (omega (arith, less, none), omega (arith, same, drew))

  gone_with : (u : Unreleased) (r : Result (Docs × List WriteResult) Refusal) → IsGone id (decided_with m u r)
  gone_with u (Ok done) = (stays_gone (past_decided m.past u (Ok done)) m.txns m.parked (fewer_decided m.past m.txns m.parked u (Ok done)), gone.1)
  gone_with u (Err refusal) = (stays_gone (past_decided m.past u (Err refusal)) m.txns m.parked (fewer_decided m.past m.txns m.parked u (Err refusal)), gone.1)

  gone_if : (found : Option Unreleased) → IsGone id (decided_if m found)
  gone_if None = gone
  gone_if (Some u) = gone_with u (outcome_of m.past u)

  gone_stays : (e : Event) → Facts m → IsGone id (step m e)
  gone_stays Event.opening facts = gone_opened (is_full m)
  gone_stays (Event.leaving session) facts = (stays_gone m.past m.txns (of_others session m.parked) (fewer_departed m.past m.txns m.parked session), gone.1)
  gone_stays (Event.asking session e) facts = gone_asked session e
  gone_stays (Event.retrying place) facts = gone_retried place
  gone_stays (Event.deciding of) facts = gone_if (pending_of m.past of)
  gone_stays (Event.advancing now) facts = (stays_gone (past_advanced m.past now) (expired_at now m.txns) m.parked (fewer_expired m.past m.txns m.parked now), gone.1)
  gone_stays Event.releasing facts = (stays_gone (past_released m.past) m.txns m.parked (fewer_released m.past m.txns m.parked facts.past.unreleased), gone.1)
  gone_stays (Event.compacting to) facts = gone
  gone_stays (Event.loading session target at) facts = subst (IsGone id) (sym (loaded_rest m session target at)) gone
  gone_stays (Event.matching shard to) facts = gone
  gone_stays (Event.raising session) facts = subst (IsGone id) (sym (raised_rest m session)) gone
  gone_stays (Event.taking session) facts = gone

never_seen : (m : Machine) (id : ℕ) (es : List Event) → Facts m → IsGone id m → times_in id (after m es).past.history ≡ 0
never_seen m id [] facts gone = let none = gone.0 in omega (arith, none)
never_seen m id (e ∷ es) facts gone = never_seen (step m e) id es (keeps m e facts) (gone_stays m id gone e facts)

-- ---- it was its own

less_next : (v : Unreleased) (us : List Unreleased) (id : ℕ) (u : Unreleased) (b : Bool) → is_it id v ≡ b → cond b (Some v) (pending_in id us) ≡ Some u
    → (pending_in id us ≡ Some u → times_in id (batches us) ≡ times_in id (batches (dropped_from id us)) + 1)
    → counted id v.batch.id + times_in id (batches us) ≡ times_in id (batches (cond b us (v ∷ dropped_from id us))) + 1
less_next v us id u true here is more = let one = it_is_one id v here in omega (arith, one)
less_next v us id u false here is more = let less = more is in omega (arith, less)

one_less : (us : List Unreleased) (id : ℕ) (u : Unreleased) → pending_in id us ≡ Some u → times_in id (batches us) ≡ times_in id (batches (dropped_from id us)) + 1
one_less [] id u is = absurd (cc)
one_less (v ∷ us) id u is = less_next v us id u (is_it id v) refl is (one_less us id u)

pub was_drawn : (id ids n : ℕ) → 0 < n → (ids < id → n ≡ 0) → id ≤ ids
was_drawn id ids n some above = grind (arith, above)

gone_dropped : (m : Machine) (id : ℕ) (u : Unreleased) (refusal : Refusal) → Facts m → pending_of m.past id ≡ Some u → IsGone id (decided_with m u (Err refusal))
gone_dropped m id u refusal facts is =
    let one = one_less m.past.unreleased id u is in
    let own = number_found m.past.unreleased id u is in
    let same : times_in id (batches (dropped_from u.batch.id m.past.unreleased)) ≡ times_in id (batches (dropped_from id m.past.unreleased)) = ap (λ n. times_in id (batches (dropped_from n m.past.unreleased))) own in
    let drawn = facts.ids id in
    (omega (arith, one, same, drawn.0), was_drawn id m.numbers.ids (times id m.past m.txns m.parked) (omega (arith, one)) drawn.1)

pub refused_is_never_seen : (m : Machine) (id : ℕ) (u : Unreleased) (refusal : Refusal) (es : List Event) → Facts m → pending_of m.past id ≡ Some u → outcome_of m.past u ≡ Err refusal
    → times_in id (after (decided m id) es).past.history ≡ 0
refused_is_never_seen m id u refusal es facts is comes =
    let dropped : decided m id ≡ decided_with m u (Err refusal) = ap (decided_if m) is ∙ ap (decided_with m u) comes in
    never_seen (decided m id) id es (keeps m (Event.deciding id) facts) (subst (IsGone id) (sym dropped) (gone_dropped m id u refusal facts is))
