-- A number that was drawn, and by none of the requests that wait, is never drawn again, nor by one that waits.
use Rattle.std.proofs.Common.{◌≡◌, ◌⊎◌, inl, inr, ℕ, ◌+◌, ◌≤◌, Bool, true, false, cond, List, [], ◌∷◌, ◌++◌, Option, Some, None, Result, Ok, Err, refl, sym, ap, ◌∙◌, subst, arith}
use Rattle.std.specs.Prelude.{slice_get, remove, unwrap_or}
use Rattle.std.proofs.lemmas.Bool.Decides.{nat_tests}
use Rattle.fs_request.specs.declared.request.Envelope.{Envelope}
use Rattle.fs_status.specs.declared.refusal.Refusal.{Refusal}
use Rattle.fs_write.specs.Batch.{Docs}
use Rattle.fs_write.specs.declared.write_result.WriteResult.{WriteResult}
use Rattle.fs_machine.specs.Event.{Event, step}
use Rattle.fs_machine.specs.IdsAreDrawn.{counted, own_count, times_parked}
use Rattle.fs_machine.specs.Leave.{of_others}
use Rattle.fs_machine.specs.Numbered.{draws, transaction_in}
use Rattle.fs_machine.specs.Open.{is_full, with_session}
use Rattle.fs_machine.specs.Request.{Decision, arrival_refusal, arrived, arrives, asked, asked_unless, comes, decision, taken_unless, unless_full}
use Rattle.fs_machine.specs.Retry.{retried_if, retry_decision, tried, unparked}
use Rattle.fs_machine.specs.Settle.{decided_if, decided_with, outcome_of, pending_of}
use Rattle.fs_machine.specs.State.{Machine}
use Rattle.fs_machine.specs.declared.parked_request.ParkedRequest.{ParkedRequest}
use Rattle.fs_machine.specs.declared.unreleased.Unreleased.{Unreleased}
use Rattle.fs_machine.proofs.Carried.{asked_ids, carried_rest, later_number, retried_ids}
use Rattle.fs_machine.proofs.IdsAreDrawn.{fewer_departed, parked_less, parked_more}
use Rattle.fs_machine.proofs.Listening.{loaded_rest, raised_rest}
use Rattle.fs_machine.proofs.Streaming.{arrived_number, taken_rest}

-- it was drawn, and none that waits has drawn it
abbrev pub IsOld : ℕ → Machine → Type 0
IsOld id m = (times_parked id m.parked ≡ 0) × (id ≤ m.numbers.ids)

pub counted_own : (id n : ℕ) → n ≡ id → counted id n ≡ 1
counted_own id n is = grind (arith, nat_tests)

pub not_counted : (id n : ℕ) → counted id n ≡ 0 → n ≡ id → ⊥
not_counted id n none is = let one = counted_own id n is in omega (arith, one, none)

-- what one that comes has drawn is later
own_later : (id ids : ℕ) (r : ParkedRequest) (transaction : Option ℕ) → r.id ≡ unwrap_or transaction (ids + 1) → id ≤ ids → own_count id r transaction ≡ 0
own_later id ids r None is within = later_number id ids r.id within is
own_later id ids r (Some of) is within = refl

-- it waits behind the others, or it is carried out
abbrev Waits : Machine → Machine → ParkedRequest → Type 0
Waits m n r = (n.parked ≡ m.parked) ⊎ (n.parked ≡ m.parked ++ r ∷ [])

arrives_waits : (m : Machine) (r : ParkedRequest) (d : Decision) → Waits m (arrives m r d) r
arrives_waits m r (Decision.refused refusal) = inl refl
arrives_waits m r (Decision.held by) = inr refl
arrives_waits m r Decision.goes_on = inl (ap (λ (n : Machine). n.parked) (carried_rest m r r.envelope.request))

comes_waits : (m : Machine) (r : ParkedRequest) (d : Decision) → Waits m (comes m r d) r
comes_waits m r d =
    let n = taken_unless d r.stream m in
    subst (λ (ps : List ParkedRequest). ((arrives n r d).parked ≡ ps) ⊎ ((arrives n r d).parked ≡ ps ++ r ∷ [])) (ap (λ (k : Machine). k.parked) (taken_rest d r.stream m)) (arrives_waits n r d)

drawn_waits : (m : Machine) (r : ParkedRequest) (d : Decision) (b : Bool) → Waits m (comes (cond b (record m { numbers = record m.numbers { ids = m.numbers.ids + 1 } }) m) r d) r
drawn_waits m r d true = comes_waits (record m { numbers = record m.numbers { ids = m.numbers.ids + 1 } }) r d
drawn_waits m r d false = comes_waits m r d

asked_waits : (m : Machine) (r : ParkedRequest) (refusal : Option Refusal) → Waits m (asked_unless refusal m r) r
asked_waits m r (Some refusal) = inl refl
asked_waits m r None = drawn_waits m r (unless_full m (decision m r.session r.envelope.request)) (draws r.envelope.request)

none_waits : (id : ℕ) (m n : Machine) (r : ParkedRequest) → times_parked id m.parked ≡ 0 → own_count id r (transaction_in r.envelope.request) ≡ 0 → Waits m n r → times_parked id n.parked ≡ 0
none_waits id m n r none own (inl is) = ap (times_parked id) is ∙ none
none_waits id m n r none own (inr is) = let more = parked_more id m.parked r in ap (times_parked id) is ∙ omega (arith, more, none, own)

fewer_waits : (id : ℕ) (ps : List ParkedRequest) (place : ℕ) (r : ParkedRequest) → slice_get ps place ≡ Some r → times_parked id ps ≡ 0 → times_parked id (remove ps place) ≡ 0
fewer_waits id ps place r is none = let less = parked_less id ps place r is in omega (arith, less, none)

tried_waits : (m : Machine) (place : ℕ) (r : ParkedRequest) (d : Decision) → ((tried m place r d).parked ≡ m.parked) ⊎ ((tried m place r d).parked ≡ remove m.parked place)
tried_waits m place r (Decision.refused refusal) = inr refl
tried_waits m place r (Decision.held by) = inl refl
tried_waits m place r Decision.goes_on = inr (ap (λ (n : Machine). n.parked) (carried_rest (unparked m place) r r.envelope.request))

one_fewer : (id : ℕ) (ps qs : List ParkedRequest) (place : ℕ) (r : ParkedRequest) → slice_get ps place ≡ Some r → times_parked id ps ≡ 0 → (qs ≡ ps) ⊎ (qs ≡ remove ps place) → times_parked id qs ≡ 0
one_fewer id ps qs place r is none (inl same) = ap (times_parked id) same ∙ none
one_fewer id ps qs place r is none (inr less) = ap (times_parked id) less ∙ fewer_waits id ps place r is none

module _ (id : ℕ) (m : Machine) (old : IsOld id m) where
  old_asked : (session : ℕ) (e : Envelope) → IsOld id (asked m session e)
  old_asked session e =
      let r = arrived m session e in
      let refusal = arrival_refusal m session e.request in
      let own = own_later id m.numbers.ids r (transaction_in r.envelope.request) (arrived_number m session e) old.1 in
      let on = asked_ids m r refusal in
      let drew = old.1 in
      (none_waits id m (asked m session e) r old.0 own (asked_waits m r refusal), omega (arith, on, drew))

  old_retried : (place : ℕ) (found : Option ParkedRequest) → slice_get m.parked place ≡ found → IsOld id (retried_if m place found)
  old_retried place None is = old
  old_retried place (Some r) is =
      let d = retry_decision m r.session r.envelope.request in
      let same = retried_ids m place (Some r) in
      let drew = old.1 in
      (one_fewer id m.parked (tried m place r d).parked place r is old.0 (tried_waits m place r d), omega (arith, same, drew))

  old_opened : (full : Bool) → IsOld id (cond full m (with_session m))
  old_opened true = old
  old_opened false = old

  old_decided : (u : Unreleased) (r : Result (Docs × List WriteResult) Refusal) → IsOld id (decided_with m u r)
  old_decided u (Ok done) = old
  old_decided u (Err refusal) = old

  old_if : (found : Option Unreleased) → IsOld id (decided_if m found)
  old_if None = old
  old_if (Some u) = old_decided u (outcome_of m.past u)

  old_departed : (session : ℕ) → times_parked id (of_others session m.parked) ≡ 0
  old_departed session = let less = fewer_departed m.past m.txns m.parked session id in let none = old.0 in omega (arith, less, none)

  pub stays_old : (e : Event) → IsOld id (step m e)
  stays_old Event.opening = old_opened (is_full m)
  stays_old (Event.leaving session) = (old_departed session, old.1)
  stays_old (Event.asking session e) = old_asked session e
  stays_old (Event.retrying place) = old_retried place (slice_get m.parked place) refl
  stays_old (Event.deciding of) = old_if (pending_of m.past of)
  stays_old (Event.advancing now) = old
  stays_old Event.releasing = old
  stays_old (Event.compacting to) = old
  stays_old (Event.loading session target at) = subst (IsOld id) (sym (loaded_rest m session target at)) old
  stays_old (Event.matching shard to) = old
  stays_old (Event.raising session) = subst (IsOld id) (sym (raised_rest m session)) old
  stays_old (Event.taking session) = old
