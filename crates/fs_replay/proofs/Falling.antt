-- What a turn does makes less of what is left to do.
use Rattle.std.proofs.Common.{◌≡◌, inl, inr, ℕ, ℤ, ◌+◌, ◌≤◌, ◌<◌, Bool, true, false, cond, List, [], ◌∷◌, Option, Some, None, Result, Ok, Err, refl, sym, ap, ◌∙◌, subst, arith, suc, zero}
use Rattle.std.specs.Prelude.{IsSome, is_some, option_map, not, ◌||◌, length, nat_lt, remove, slice_get}
use Rattle.std.specs.List.{count_by}
use Rattle.std.proofs.lemmas.Bool.Decides.{nat_tests}
use Rattle.std.proofs.lemmas.List.Edits.{length-remove}
use Rattle.std.proofs.lemmas.List.Sums.{sum_by-cons, sum_by_push}
use Rattle.std.proofs.lemmas.Option.{slice_get_within}
use Rattle.fs_status.specs.declared.refusal.Refusal.{Refusal}
use Rattle.fs_write.specs.Batch.{Docs}
use Rattle.fs_write.specs.declared.write_result.WriteResult.{WriteResult}
use Rattle.fs_machine.specs.Commit.{past_prepared}
use Rattle.fs_machine.specs.Past.{Past, is_pending}
use Rattle.fs_machine.specs.Pending.{next_in, next_pending}
use Rattle.fs_machine.specs.Release.{free_to, is_freed, kept_back, released}
use Rattle.fs_machine.specs.Request.{Decision, answer_by, carried, decided_answer}
use Rattle.fs_machine.specs.Retry.{retried, retried_if, retry_decision, tried, tried_answer, unparked}
use Rattle.fs_machine.specs.Settle.{accepted_in, decided_if, decided_with, dropped_from, is_it, outcome_of, pending_in, pending_of, settled}
use Rattle.fs_machine.specs.State.{Machine}
use Rattle.fs_machine.specs.Stream.{desk_of, with_desk}
use Rattle.fs_machine.specs.declared.parked_request.ParkedRequest.{ParkedRequest}
use Rattle.fs_machine.specs.declared.unreleased.Unreleased.{Unreleased}
use Rattle.fs_machine.proofs.Carried.{AtMostPrepares, carried_follows, carried_rest}
use Rattle.fs_machine.proofs.Pending.{number_found, pending_it}
use Rattle.fs_replay.specs.BetweenLines.{IsHeld}
use Rattle.fs_replay.specs.Played.{nothing, followed_by}
use Rattle.fs_replay.specs.Settling.{did_something, emptied, left_to_do, place_after, settles, settles_if, settles_next, tries, tries_all, tries_from, tries_if, tries_it, turn, waits_on}
use Rattle.fs_replay.specs.declared.state.State.{State}
use Rattle.fs_replay.proofs.Emptied.{drained_parked, drained_past}
use Rattle.fs_replay.proofs.Going.{never_waits}

-- ---- pending commits

abbrev pub pending_among : List Unreleased → ℕ
pending_among us = count_by is_pending us

counted : (u : Unreleased) (us : List Unreleased) → pending_among (u ∷ us) ≡ cond (is_pending u) 1 0 + pending_among us
counted u us = sum_by-cons (λ v. cond (is_pending v) 1 0) u us

counted_as : (u : Unreleased) (us : List Unreleased) (b : Bool) → is_pending u ≡ b → pending_among (u ∷ us) ≡ cond b 1 0 + pending_among us
counted_as u us b is = counted u us ∙ ap (λ c. cond c 1 0 + pending_among us) is

none_first : (u : Unreleased) (us : List Unreleased) (b : Bool) → pending_among (u ∷ us) ≡ cond b 1 0 + pending_among us → pending_among (u ∷ us) ≡ 0 → (pending_among us ≡ 0 → next_in us ≡ None)
    → cond b (Some u.batch.id) (next_in us) ≡ None
none_first u us true is none more = absurd (omega (arith, is, none))
none_first u us false is none more = more (omega (arith, is, none))

-- where none is pending, there is no next one
pub none_next : (us : List Unreleased) → pending_among us ≡ 0 → next_in us ≡ None
none_next [] none = refl
none_next (u ∷ us) none = none_first u us (is_pending u) (counted u us) none (none_next us)

is_next : (u : Unreleased) (us : List Unreleased) (id : ℕ) (b : Bool) → is_pending u ≡ b → cond b (Some u.batch.id) (next_in us) ≡ Some id → (next_in us ≡ Some id → IsSome (pending_in id us)) → IsSome (pending_in id (u ∷ us))
is_next u us id true is e more =
    let same : u.batch.id ≡ id = cc in
    let it : is_it id u ≡ true = grind (arith, nat_tests) in
    rw it refl
is_next u us id false is e more =
    let other : is_it id u ≡ false = grind (arith, nat_tests) in
    rw other (more e)

next_is_found : (us : List Unreleased) (id : ℕ) → next_in us ≡ Some id → IsSome (pending_in id us)
next_is_found [] id e = absurd (cc)
next_is_found (u ∷ us) id e = is_next u us id (is_pending u) refl e (next_is_found us id)

-- the next one is pending
pub next_is_pending : (p : Past) (id : ℕ) → next_pending p ≡ Some id → IsSome (pending_of p id)
next_is_pending p id e = next_is_found p.unreleased id e

-- ---- a commit is settled

accepted_next : (u : Unreleased) (us : List Unreleased) (id : ℕ) (results : List WriteResult) (v : Unreleased) (b : Bool) → is_it id u ≡ b → cond b (Some u) (pending_in id us) ≡ Some v
    → (pending_in id us ≡ Some v → pending_among (accepted_in id results us) + 1 ≡ pending_among us)
    → pending_among (cond b (record u { results = Some results } ∷ us) (u ∷ accepted_in id results us)) + 1 ≡ pending_among (u ∷ us)
accepted_next u us id results v true here is more =
    let before = counted_as u us true (pending_it id u here) in
    let after = counted_as (record u { results = Some results }) us false refl in
    omega (arith, before, after)
accepted_next u us id results v false here is more =
    let before = counted u us in
    let after = counted u (accepted_in id results us) in
    let less = more is in
    omega (arith, before, after, less)

accepted_fewer : (us : List Unreleased) (id : ℕ) (results : List WriteResult) (v : Unreleased) → pending_in id us ≡ Some v → pending_among (accepted_in id results us) + 1 ≡ pending_among us
accepted_fewer [] id results v is = absurd (cc)
accepted_fewer (u ∷ us) id results v is = accepted_next u us id results v (is_it id u) refl is (accepted_fewer us id results v)

dropped_next : (u : Unreleased) (us : List Unreleased) (id : ℕ) (v : Unreleased) (b : Bool) → is_it id u ≡ b → cond b (Some u) (pending_in id us) ≡ Some v
    → (pending_in id us ≡ Some v → pending_among (dropped_from id us) + 1 ≡ pending_among us)
    → pending_among (cond b us (u ∷ dropped_from id us)) + 1 ≡ pending_among (u ∷ us)
dropped_next u us id v true here is more =
    let before = counted_as u us true (pending_it id u here) in
    omega (arith, before)
dropped_next u us id v false here is more =
    let before = counted u us in
    let after = counted u (dropped_from id us) in
    let less = more is in
    omega (arith, before, after, less)

dropped_fewer : (us : List Unreleased) (id : ℕ) (v : Unreleased) → pending_in id us ≡ Some v → pending_among (dropped_from id us) + 1 ≡ pending_among us
dropped_fewer [] id v is = absurd (cc)
dropped_fewer (u ∷ us) id v is = dropped_next u us id v (is_it id u) refl is (dropped_fewer us id v)

freed_isnt : (to : ℤ) (u : Unreleased) → is_freed to u ≡ true → is_pending u ≡ false
freed_isnt to u is = grind arith

kept_next : (to : ℤ) (u : Unreleased) (us : List Unreleased) (b : Bool) → is_freed to u ≡ b → pending_among (kept_back to us) ≡ pending_among us
    → pending_among (cond (not b) (u ∷ kept_back to us) (kept_back to us)) ≡ pending_among (u ∷ us)
kept_next to u us true is more = let before = counted_as u us false (freed_isnt to u is) in omega (arith, before, more)
kept_next to u us false is more = let before = counted u us in let after = counted u (kept_back to us) in omega (arith, before, after, more)

-- a release leaves as many pending
kept_as_many : (to : ℤ) (us : List Unreleased) → pending_among (kept_back to us) ≡ pending_among us
kept_as_many to [] = refl
kept_as_many to (u ∷ us) = kept_next to u us (is_freed to u) refl (kept_as_many to us)

itself_found : (us : List Unreleased) (id : ℕ) (u : Unreleased) → pending_in id us ≡ Some u → pending_in u.batch.id us ≡ Some u
itself_found us id u is = ap (λ n. pending_in n us) (number_found us id u is) ∙ is

decided_fewer : (m : Machine) (id : ℕ) (u : Unreleased) (r : Result (Docs × List WriteResult) Refusal) → pending_of m.past id ≡ Some u
    → pending_among (released (decided_with m u r)).past.unreleased + 1 ≡ pending_among m.past.unreleased
decided_fewer m id u (Ok done) is =
    let us = accepted_in u.batch.id done.1 m.past.unreleased in
    let kept = kept_as_many (free_to m.past.last us) us in
    let fewer = accepted_fewer m.past.unreleased u.batch.id done.1 u (itself_found m.past.unreleased id u is) in
    omega (arith, kept, fewer)
decided_fewer m id u (Err refusal) is =
    let us = dropped_from u.batch.id m.past.unreleased in
    let kept = kept_as_many (free_to m.past.last us) us in
    let fewer = dropped_fewer m.past.unreleased u.batch.id u (itself_found m.past.unreleased id u is) in
    omega (arith, kept, fewer)

-- one that is settled is pending no more, and the others are
pub settled_fewer : (m : Machine) (id : ℕ) (u : Unreleased) → pending_of m.past id ≡ Some u → pending_among (settled m id).past.unreleased + 1 ≡ pending_among m.past.unreleased
settled_fewer m id u is =
    subst (λ found. pending_among (released (decided_if m found)).past.unreleased + 1 ≡ pending_among m.past.unreleased) (sym is) (decided_fewer m id u (outcome_of m.past u) is)

with_is : (m : Machine) (u : Unreleased) (r : Result (Docs × List WriteResult) Refusal) → released (decided_with m u r) ≡ with_desk (record m { past = (released (decided_with m u r)).past }) (desk_of (released (decided_with m u r)))
with_is m u (Ok done) = refl
with_is m u (Err refusal) = refl

if_is : (m : Machine) (found : Option Unreleased) → released (decided_if m found) ≡ with_desk (record m { past = (released (decided_if m found)).past }) (desk_of (released (decided_if m found)))
if_is m None = refl
if_is m (Some u) = with_is m u (outcome_of m.past u)

-- and but for what was committed, streams and messages all stays as it is
pub settled_is : (m : Machine) (id : ℕ) → settled m id ≡ with_desk (record m { past = (settled m id).past }) (desk_of (settled m id))
settled_is m id = if_is m (pending_of m.past id)

pub settled_parked : (m : Machine) (id : ℕ) → (settled m id).parked ≡ m.parked
settled_parked m id = ap (λ (n : Machine). n.parked) (settled_is m id)

-- the last time that was issued too
decided_last : (m : Machine) (u : Unreleased) (r : Result (Docs × List WriteResult) Refusal) → (decided_with m u r).past.last ≡ m.past.last
decided_last m u (Ok done) = refl
decided_last m u (Err refusal) = refl

if_last : (m : Machine) (found : Option Unreleased) → (decided_if m found).past.last ≡ m.past.last
if_last m None = refl
if_last m (Some u) = decided_last m u (outcome_of m.past u)

pub settled_last : (m : Machine) (id : ℕ) → (settled m id).past.last ≡ m.past.last
settled_last m id = if_last m (pending_of m.past id)

-- ---- what falls

-- As many requests wait or fewer, and what is left to do is less by at least as many; where as many wait, it is as much.
pub record Falls (s t : State) : Type 0 where
  pub fewer : length t.server.parked ≤ length s.server.parked
  pub less : left_to_do t.server + length s.server.parked ≤ left_to_do s.server + length t.server.parked
  pub same : length t.server.parked ≡ length s.server.parked → left_to_do t.server ≡ left_to_do s.server

pub falls_none : (s : State) → Falls s s
falls_none s = record { fewer = omega arith; less = omega arith; same = λ e. refl }

pub falls_on : (s t u : State) → Falls s t → Falls t u → Falls s u
falls_on s t u first rest =
    let a = first.fewer in
    let b = rest.fewer in
    let c = first.less in
    let d = rest.less in
    record {
      fewer = omega (arith, a, b);
      less = omega (arith, c, d);
      same = λ e.
          let half : length t.server.parked ≡ length s.server.parked = omega (arith, a, b, e) in
          let more : length u.server.parked ≡ length t.server.parked = omega (arith, a, b, e) in
          rest.same more ∙ first.same half;
    }

-- the server alone matters
falls_same : (s t : State) → t.server.parked ≡ s.server.parked → t.server.past ≡ s.server.past → Falls s t
falls_same s t parked past =
    let waits : length t.server.parked ≡ length s.server.parked = ap length parked in
    let pending : pending_among t.server.past.unreleased ≡ pending_among s.server.past.unreleased = ap (λ (p : Past). pending_among p.unreleased) past in
    record { fewer = omega (arith, waits); less = omega (arith, waits, pending); same = λ e. omega (arith, waits, pending) }

falls_by_one : (s t : State) → length t.server.parked + 1 ≡ length s.server.parked → left_to_do t.server + 1 ≤ left_to_do s.server → Falls s t
falls_by_one s t one less = record { fewer = omega (arith, one); less = omega (arith, one, less); same = λ e. absurd (omega (arith, one, e)) }

-- ---- outboxes are emptied

pub emptied_falls : (s : State) → Falls s (emptied s).state
emptied_falls s = falls_same s (emptied s).state (drained_parked s.directory s.server) (drained_past s.directory s.server)

-- ---- a request is tried again

abbrev with_server : State → Machine → State
with_server s m = record s { server = m }

one_less : (m : Machine) (place : ℕ) (r : ParkedRequest) → slice_get m.parked place ≡ Some r → length (remove m.parked place) + 1 ≡ length m.parked
one_less m place r is = length-remove m.parked place (slice_get_within m.parked place r is)

-- what a request does to what was committed leaves one commit more pending, at most
one_by : (b : Bool) → cond b 1 0 ≤ 1
one_by true = omega arith
one_by false = omega arith

one_more : (p q : Past) → AtMostPrepares p q → pending_among q.unreleased ≤ pending_among p.unreleased + 1
one_more p q (inl same) = let e : pending_among q.unreleased ≡ pending_among p.unreleased = ap (λ (x : Past). pending_among x.unreleased) same in omega (arith, e)
one_more p q (inr one) =
    let e : pending_among q.unreleased ≡ pending_among (past_prepared p one.0).unreleased = ap (λ (x : Past). pending_among x.unreleased) one.1 in
    let more = sum_by_push (λ v. cond (is_pending v) 1 0) p.unreleased one.0 in
    let by = one_by (is_pending one.0) in
    omega (arith, e, more, by)

-- those that wait are as many
carried_parked : (m : Machine) (r : ParkedRequest) → (carried m r).parked ≡ m.parked
carried_parked m r = ap (λ (n : Machine). n.parked) (carried_rest m r r.envelope.request)

module _ (s : State) (place : ℕ) (r : ParkedRequest) (is : slice_get s.server.parked place ≡ Some r) where
  tried_falls : (d : Decision) → Falls s (with_server s (tried s.server place r d))
  tried_falls (Decision.refused refusal) = let one = one_less s.server place r is in falls_by_one s _ one (omega (arith, one))
  tried_falls (Decision.held id) = falls_none s
  tried_falls Decision.goes_on =
      let n = unparked s.server place in
      let one = one_less s.server place r is in
      let waits : length (carried n r).parked ≡ length n.parked = ap length (carried_parked n r) in
      let more = one_more n.past (carried n r).past (carried_follows n r r.envelope.request) in
      falls_by_one s _ (omega (arith, one, waits)) (omega (arith, one, waits, more))

  tried_fewer : (d : Decision) → (IsHeld d → ⊥) → length (tried s.server place r d).parked + 1 ≡ length s.server.parked
  tried_fewer (Decision.refused refusal) moves = one_less s.server place r is
  tried_fewer (Decision.held id) moves = absurd (moves tt)
  tried_fewer Decision.goes_on moves = ap (λ (rs : List ParkedRequest). length rs + 1) (carried_parked (unparked s.server place) r) ∙ one_less s.server place r is

pub retried_is : (m : Machine) (place : ℕ) (r : ParkedRequest) → slice_get m.parked place ≡ Some r → retried m place ≡ tried m place r (retry_decision m r.session r.envelope.request)
retried_is m place r is = ap (retried_if m place) is

pub retried_falls : (s : State) (place : ℕ) (r : ParkedRequest) → slice_get s.server.parked place ≡ Some r → Falls s (with_server s (retried s.server place))
retried_falls s place r is =
    subst (λ (m : Machine). Falls s (with_server s m)) (sym (retried_is s.server place r is)) (tried_falls s place r is (retry_decision s.server r.session r.envelope.request))

tries_it_falls : (s : State) (place : ℕ) (r : ParkedRequest) → slice_get s.server.parked place ≡ Some r → Falls s (tries_it s place r).state
tries_it_falls s place r is =
    let t = with_server s (retried s.server place) in
    falls_on s t (emptied t).state (retried_falls s place r is) (emptied_falls t)

tries_if_falls : (s : State) (place : ℕ) (found : Option ParkedRequest) → slice_get s.server.parked place ≡ found → Falls s (tries_if s place found).state
tries_if_falls s place None is = falls_none s
tries_if_falls s place (Some r) is = tries_it_falls s place r is

pub tries_falls : (s : State) (place : ℕ) → Falls s (tries s place).state
tries_falls s place = tries_if_falls s place (slice_get s.server.parked place) refl

pub tries_from_falls : (n place : ℕ) (s : State) → Falls s (tries_from n place s).state
tries_from_falls zero place s = falls_none s
tries_from_falls (suc n) place s =
    let t = (tries s place).state in
    let next = place_after s.server place in
    falls_on s t (tries_from n next t).state (tries_falls s place) (tries_from_falls n next t)

pub tries_all_falls : (s : State) → Falls s (tries_all s).state
tries_all_falls s = tries_from_falls (length s.server.parked) 0 s

-- one that isn't held waits no more
pub fewer_wait : (s : State) (place : ℕ) (r : ParkedRequest) → slice_get s.server.parked place ≡ Some r → (IsHeld (retry_decision s.server r.session r.envelope.request) → ⊥)
    → length (tries s place).state.server.parked + 1 ≡ length s.server.parked
fewer_wait s place r is moves =
    let t = with_server s (retried s.server place) in
    ap (λ found. length (tries_if s place found).state.server.parked + 1) is
    ∙ ap (λ rs. length rs + 1) (drained_parked s.directory t.server)
    ∙ ap (λ (m : Machine). length m.parked + 1) (retried_is s.server place r is)
    ∙ tried_fewer s place r is (retry_decision s.server r.session r.envelope.request) moves

-- where the next one stands
pub place_is : (m : Machine) (place : ℕ) (r : ParkedRequest) → slice_get m.parked place ≡ Some r
    → place_after m place ≡ cond (waits_on (Some (decided_answer m r (retry_decision m r.session r.envelope.request)))) (place + 1) place
place_is m place r is = ap (λ found. cond (waits_on (option_map (tried_answer m) found)) (place + 1) place) is

-- the next one stands within those that wait, where as many are still to be tried
module _ (s : State) (place : ℕ) (r : ParkedRequest) (is : slice_get s.server.parked place ≡ Some r) (n : ℕ) (within : place + suc n ≤ length s.server.parked) where
  within_tried : (d : Decision) → cond (waits_on (Some (decided_answer s.server r d))) (place + 1) place + n ≤ length (tried s.server place r d).parked
  within_tried (Decision.refused refusal) = let one = one_less s.server place r is in omega (arith, one, within)
  within_tried (Decision.held id) = omega (arith, within)
  within_tried Decision.goes_on =
      let one = one_less s.server place r is in
      let waits : length (carried (unparked s.server place) r).parked ≡ length (unparked s.server place).parked = ap length (carried_parked (unparked s.server place) r) in
      let here : cond (waits_on (Some (answer_by s.server r r.envelope.request))) (place + 1) place ≡ place = ap (λ b. cond b (place + 1) place) (never_waits s.server r r.envelope.request) in
      omega (arith, one, within, waits, here)

pub place_within : (s : State) (place n : ℕ) (r : ParkedRequest) → slice_get s.server.parked place ≡ Some r → place + suc n ≤ length s.server.parked
    → place_after s.server place + n ≤ length (tries s place).state.server.parked
place_within s place n r is within =
    let d = retry_decision s.server r.session r.envelope.request in
    let t = with_server s (retried s.server place) in
    let next = place_is s.server place r is in
    let waits : length (tries s place).state.server.parked ≡ length (tried s.server place r d).parked =
    ap (λ found. length (tries_if s place found).state.server.parked) is ∙ ap length (drained_parked s.directory t.server) ∙ ap (λ (m : Machine). length m.parked) (retried_is s.server place r is) in
    let all = within_tried s place r is n within d in
    omega (arith, next, waits, all)

-- ---- a commit is settled, and all is tried

-- as many requests wait, and one commit less is pending
pub record Settles (s t : State) : Type 0 where
  pub parked : t.server.parked ≡ s.server.parked
  pub less : left_to_do t.server + 1 ≡ left_to_do s.server

pub settles_less : (s : State) (id : ℕ) (u : Unreleased) → pending_of s.server.past id ≡ Some u → Settles s (settles s id).state
settles_less s id u is =
    let m = settled s.server id in
    let parked : (settles s id).state.server.parked ≡ s.server.parked = drained_parked s.directory m ∙ settled_parked s.server id in
    let waits : length (settles s id).state.server.parked ≡ length s.server.parked = ap length parked in
    let pending : pending_among (settles s id).state.server.past.unreleased ≡ pending_among m.past.unreleased = ap (λ (p : Past). pending_among p.unreleased) (drained_past s.directory m) in
    let fewer = settled_fewer s.server id u is in
    record { parked = parked; less = omega (arith, waits, pending, fewer) }

some_of : {A : Type 0} (o : Option A) → IsSome o → (x : A) × (o ≡ Some x)
some_of None some = absurd (cc)
some_of (Some x) some = (x, refl)

pub settles_next_less : (s : State) (id : ℕ) → next_pending s.server.past ≡ Some id → Settles s (settles s id).state
settles_next_less s id is = let found = some_of (pending_of s.server.past id) (next_is_pending s.server.past id is) in settles_less s id found.0 found.1

-- ---- a turn

-- as much is left where as many wait
alike : (before after waited waits : ℕ) → waits ≤ waited → after + waited ≤ before + waits → (waits ≡ waited → after ≡ before) → nat_lt after before ≡ nat_lt waits waited
alike before after waited waits fewer less same = grind (arith, nat_tests)

less_true : (a b : ℕ) → a < b → nat_lt a b ≡ true
less_true a b less = grind (arith, nat_tests)

abbrev does : State → Option ℕ → State → Bool
does s next t = is_some next || nat_lt (length t.server.parked) (length s.server.parked)

turn_by : (s : State) (next : Option ℕ) → next_pending s.server.past ≡ next
    → did_something s (followed_by (settles_if s next) tries_all).state ≡ does s next (followed_by (settles_if s next) tries_all).state
turn_by s None is =
    let t = (tries_all s).state in
    let falls = tries_all_falls s in
    alike (left_to_do s.server) (left_to_do t.server) (length s.server.parked) (length t.server.parked) falls.fewer falls.less falls.same
turn_by s (Some id) is =
    let first = (settles s id).state in
    let t = (tries_all first).state in
    let one = (settles_next_less s id is).less in
    let falls = tries_all_falls first in
    let fewer = falls.fewer in
    let less = falls.less in
    less_true (left_to_do t.server) (left_to_do s.server) (omega (arith, one, fewer, less))

-- a turn does something where it settles a commit, or fewer requests wait then
pub turn_did : (s : State) → did_something s (turn s).state ≡ (is_some (next_pending s.server.past) || nat_lt (length (turn s).state.server.parked) (length s.server.parked))
turn_did s = turn_by s (next_pending s.server.past) refl

-- ---- where nothing is left to do

pub nothing_pending : (s : State) → left_to_do s.server ≡ 0 → settles_next s ≡ nothing s
nothing_pending s none = ap (settles_if s) (none_next s.server.past.unreleased (omega (arith, none)))
