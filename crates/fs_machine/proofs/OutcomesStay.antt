-- What was computed for a pending commit stays right as long as it is pending, whatever events come.
use Rattle.std.proofs.Common.{◌≡◌, inl, inr, ℕ, ◌+◌, ◌≤◌, Bool, true, false, cond, List, [], ◌∷◌, ◌++◌, Option, Some, None, Result, Ok, Err, refl, sym, ap, ◌∙◌, subst, arith}
use Rattle.std.specs.Prelude.{◌==◌, IsSome, slice_get}
use Rattle.std.specs.FinMap.{get}
use Rattle.std.proofs.lemmas.Bool.Decides.{nat_tests}
use Rattle.fs_history.specs.History.{whole}
use Rattle.fs_history.specs.declared.batch.Batch.{Batch}
use Rattle.fs_status.specs.declared.refusal.Refusal.{Refusal}
use Rattle.fs_write.proofs.BatchLaws.{Agree, law_named, law_named_refused}
use Rattle.fs_write.specs.Batch.{Docs}
use Rattle.fs_write.specs.WrittenName.{written_name}
use Rattle.fs_write.specs.declared.write_result.WriteResult.{WriteResult}
use Rattle.fs_machine.specs.declared.answer.Outcome.{Outcome}
use Rattle.fs_machine.specs.declared.answer.Outcome.TheVariants as outcome
use Rattle.fs_machine.specs.declared.unreleased.Unreleased.{Unreleased}
use Rattle.fs_machine.specs.Commit.{past_prepared}
use Rattle.fs_machine.specs.Event.{Event, step}
use Rattle.fs_machine.specs.Facts.{Facts, PastFacts}
use Rattle.fs_machine.specs.IdsAreDrawn.{IdsAreDrawn, counted, times_in}
use Rattle.fs_machine.specs.Load.{loaded}
use Rattle.fs_machine.specs.NamesApart.{AreApart}
use Rattle.fs_machine.specs.Open.{is_full, with_session}
use Rattle.fs_machine.specs.Past.{Past, batches, is_pending}
use Rattle.fs_machine.specs.Raise.{raised}
use Rattle.fs_machine.specs.Release.{past_released}
use Rattle.fs_machine.specs.Request.{arrival_refusal, arrived, asked}
use Rattle.fs_machine.specs.Retry.{retried}
use Rattle.fs_machine.specs.Settle.{ComesTo, IsOutcomeOf, IsOutcomeOfPending, IsOutcomeOn, accepted_in, decided_if, decided_with, docs_for, dropped_from, is_it, outcome_of, past_decided, pending_in, pending_of}
use Rattle.fs_machine.specs.State.{Machine}
use Rattle.fs_machine.specs.UnreleasedRise.{UnreleasedRise}
use Rattle.fs_machine.proofs.Carried.{AtMostPrepares, asked_follows, retried_follows}
use Rattle.fs_machine.proofs.Listening.{loaded_rest, raised_rest}
use Rattle.fs_machine.proofs.Moved.{moved}
use Rattle.fs_machine.proofs.Pending.{passes_it}
use Rattle.fs_machine.proofs.ResultsHold.{agree_behind, docs_agree, found_apart}
use Rattle.fs_machine.proofs.Runs.{keeps}

-- it is still the pending commit of its number, and no name that it writes was written
pub record Carries (p q : Past) (id : ℕ) (u : Unreleased) : Type 0 where
  pub at : pending_of q id ≡ Some u
  pub agree : Agree u.batch.writes (whole p.history) (whole q.history)

-- ---- what it comes to then

pub outcome_alike : (docs other : Docs) (b : Batch) (o : Outcome) → Agree b.writes docs other → IsOutcomeOn docs b.writes b.time o → IsOutcomeOn other b.writes b.time o
outcome_alike docs other b (outcome.Effects changes results) agree comes = (law_named docs other b.writes b.time changes results agree comes.0, comes.1)
outcome_alike docs other b (outcome.Refused refusal) agree comes = law_named_refused docs other b.writes b.time refusal agree comes

comes_still : (p q : Past) (id : ℕ) (u : Unreleased) (o : Outcome) → pending_of p id ≡ Some u → PastFacts p → PastFacts q → Carries p q id u → IsOutcomeOf p u o → IsOutcomeOf q u o
comes_still p q id u o is facts after carries comes =
    let here = docs_agree p id u is facts.unreleased facts.names in
    let there = docs_agree q id u carries.at after.unreleased after.names in
    outcome_alike (docs_for p u) (docs_for q u) u.batch o (λ w at. here w at ∙ carries.agree w at ∙ sym (there w at)) comes

pub found_of : (p : Past) (o : Outcome) (found : Option Unreleased) → IsOutcomeOfPending p found o → (u : Unreleased) × (found ≡ Some u) × IsOutcomeOf p u o
found_of p o None comes = absurd comes
found_of p o (Some u) comes = (u, refl, comes)

-- ---- which commit is found

same_list : (p q : Past) (id : ℕ) (u : Unreleased) → q.unreleased ≡ p.unreleased → q.history ≡ p.history → pending_of p id ≡ Some u → Carries p q id u
same_list p q id u us h is = record {
  at = ap (pending_in id) us ∙ is;
  agree = λ w at. ap (λ k. get (whole k) (written_name w)) (sym h);
}

more_next : (v : Unreleased) (us : List Unreleased) (w : Unreleased) (id : ℕ) (u : Unreleased) (b : Bool) → cond b (Some v) (pending_in id us) ≡ Some u
    → (pending_in id us ≡ Some u → pending_in id (us ++ w ∷ []) ≡ Some u) → cond b (Some v) (pending_in id (us ++ w ∷ [])) ≡ Some u
more_next v us w id u true is more = is
more_next v us w id u false is more = more is

pub found_more : (us : List Unreleased) (w : Unreleased) (id : ℕ) (u : Unreleased) → pending_in id us ≡ Some u → pending_in id (us ++ w ∷ []) ≡ Some u
found_more [] w id u is = absurd (cc)
found_more (v ∷ us) w id u is = more_next v us w id u (is_it id v) is (found_more us w id u)

prepared_carries : (p : Past) (w : Unreleased) (id : ℕ) (u : Unreleased) → pending_of p id ≡ Some u → Carries p (past_prepared p w) id u
prepared_carries p w id u is = record { at = found_more p.unreleased w id u is; agree = λ w at. refl }

-- ---- another one is decided

not_it : (id of : ℕ) (v : Unreleased) → is_it of v ≡ true → (of == id) ≡ false → is_it id v ≡ false
not_it id of v is other = grind (arith, nat_tests)

pub accepted_isnt : (id : ℕ) (v : Unreleased) (results : List WriteResult) → is_it id (record v { results = Some results }) ≡ false
accepted_isnt id v results = grind (arith, nat_tests)

accepted_next : (v : Unreleased) (us : List Unreleased) (of id : ℕ) (results : List WriteResult) (b : Bool) → is_it of v ≡ b → (of == id) ≡ false → pending_in id (accepted_in of results us) ≡ pending_in id us
    → pending_in id (cond b (record v { results = Some results } ∷ us) (v ∷ accepted_in of results us)) ≡ pending_in id (v ∷ us)
accepted_next v us of id results true here other more = rw (accepted_isnt id v results, not_it id of v here other) refl
accepted_next v us of id results false here other more = ap (cond (is_it id v) (Some v)) more

pub found_accepted : (us : List Unreleased) (of id : ℕ) (results : List WriteResult) → (of == id) ≡ false → pending_in id (accepted_in of results us) ≡ pending_in id us
found_accepted [] of id results other = refl
found_accepted (v ∷ us) of id results other = accepted_next v us of id results (is_it of v) refl other (found_accepted us of id results other)

dropped_next : (v : Unreleased) (us : List Unreleased) (of id : ℕ) (b : Bool) → is_it of v ≡ b → (of == id) ≡ false → pending_in id (dropped_from of us) ≡ pending_in id us
    → pending_in id (cond b us (v ∷ dropped_from of us)) ≡ pending_in id (v ∷ us)
dropped_next v us of id true here other more = rw (not_it id of v here other) refl
dropped_next v us of id false here other more = ap (cond (is_it id v) (Some v)) more

pub found_dropped : (us : List Unreleased) (of id : ℕ) → (of == id) ≡ false → pending_in id (dropped_from of us) ≡ pending_in id us
found_dropped [] of id other = refl
found_dropped (v ∷ us) of id other = dropped_next v us of id (is_it of v) refl other (found_dropped us of id other)

-- ---- it is decided itself, and isn't pending then

pub it_is_one : (id : ℕ) (v : Unreleased) → is_it id v ≡ true → counted id v.batch.id ≡ 1
it_is_one id v is = grind (arith, nat_tests)

it_counts : (id : ℕ) (v : Unreleased) (us : List Unreleased) → is_it id v ≡ true → counted id v.batch.id + times_in id (batches us) ≤ 0 → ⊥
it_counts id v us is few = let one : counted id v.batch.id ≡ 1 = it_is_one id v is in omega (arith, one, few)

none_next : (v : Unreleased) (us : List Unreleased) (id : ℕ) (b : Bool) → is_it id v ≡ b → counted id v.batch.id + times_in id (batches us) ≤ 0 → (times_in id (batches us) ≤ 0 → pending_in id us ≡ None)
    → cond b (Some v) (pending_in id us) ≡ None
none_next v us id true is few more = absurd (it_counts id v us is few)
none_next v us id false is few more = more (omega (arith, few))

none_pending : (us : List Unreleased) (id : ℕ) → times_in id (batches us) ≤ 0 → pending_in id us ≡ None
none_pending [] id few = refl
none_pending (v ∷ us) id few = none_next v us id (is_it id v) refl few (none_pending us id)

gone_next : (v : Unreleased) (us : List Unreleased) (id : ℕ) (results : List WriteResult) (b : Bool) → is_it id v ≡ b → counted id v.batch.id + times_in id (batches us) ≤ 1
    → (times_in id (batches us) ≤ 1 → pending_in id (accepted_in id results us) ≡ None) → pending_in id (cond b (record v { results = Some results } ∷ us) (v ∷ accepted_in id results us)) ≡ None
gone_next v us id results true is few more =
    let one = it_is_one id v is in
    rw (accepted_isnt id v results) (none_pending us id (omega (arith, one, few)))
gone_next v us id results false is few more = rw is (more (omega (arith, few)))

pub gone_accepted : (us : List Unreleased) (id : ℕ) (results : List WriteResult) → times_in id (batches us) ≤ 1 → pending_in id (accepted_in id results us) ≡ None
gone_accepted [] id results few = refl
gone_accepted (v ∷ us) id results few = gone_next v us id results (is_it id v) refl few (gone_accepted us id results)

gone_dropped_next : (v : Unreleased) (us : List Unreleased) (id : ℕ) (b : Bool) → is_it id v ≡ b → counted id v.batch.id + times_in id (batches us) ≤ 1
    → (times_in id (batches us) ≤ 1 → pending_in id (dropped_from id us) ≡ None) → pending_in id (cond b us (v ∷ dropped_from id us)) ≡ None
gone_dropped_next v us id true is few more = let one = it_is_one id v is in none_pending us id (omega (arith, one, few))
gone_dropped_next v us id false is few more = rw is (more (omega (arith, few)))

pub gone_dropped : (us : List Unreleased) (id : ℕ) → times_in id (batches us) ≤ 1 → pending_in id (dropped_from id us) ≡ None
gone_dropped [] id few = refl
gone_dropped (v ∷ us) id few = gone_dropped_next v us id (is_it id v) refl few (gone_dropped us id)

same_number : (a b : ℕ) → (a == b) ≡ true → a ≡ b
same_number a b is = grind (arith, nat_tests)

none_some : {A : Type 0} (o : Option A) → o ≡ None → IsSome o → ⊥
none_some o none some = cc

pub once : (m : Machine) (id : ℕ) → IdsAreDrawn m.past m.txns m.parked m.numbers.ids → times_in id (batches m.past.unreleased) ≤ 1
once m id drawn = let few = (drawn id).0 in omega (arith, few)

decided_carries : (m : Machine) (c : Unreleased) (r : Result (Docs × List WriteResult) Refusal) (id : ℕ) (u : Unreleased) (b : Bool) → (c.batch.id == id) ≡ b → pending_of m.past id ≡ Some u → Facts m
    → IsSome (pending_of (past_decided m.past c r) id) → Carries m.past (past_decided m.past c r) id u
decided_carries m c (Ok done) id u true here is facts some =
    absurd (none_some _ (subst (λ n. pending_in id (accepted_in n done.1 m.past.unreleased) ≡ None) (sym (same_number c.batch.id id here)) (gone_accepted m.past.unreleased id done.1 (once m id facts.ids))) some)
decided_carries m c (Err refusal) id u true here is facts some =
    absurd (none_some _ (subst (λ n. pending_in id (dropped_from n m.past.unreleased) ≡ None) (sym (same_number c.batch.id id here)) (gone_dropped m.past.unreleased id (once m id facts.ids))) some)
decided_carries m c (Ok done) id u false here is facts some = record { at = found_accepted m.past.unreleased c.batch.id id done.1 here ∙ is; agree = λ w at. refl }
decided_carries m c (Err refusal) id u false here is facts some = record { at = found_dropped m.past.unreleased c.batch.id id here ∙ is; agree = λ w at. refl }

-- ---- a release

abbrev Follows : Past → ℕ → Unreleased → List Batch → List Unreleased → Type 0
Follows p id u h us = (pending_in id us ≡ Some u) × AreApart (batches us) × Agree u.batch.writes (whole p.history) (whole h)

one_follows : (p : Past) (id : ℕ) (u : Unreleased) (h : List Batch) (v : Unreleased) (us : List Unreleased) → is_pending v ≡ false → Follows p id u h (v ∷ us) → Follows p id u (v.batch ∷ h) us
one_follows p id u h v us is has =
    let found : pending_in id us ≡ Some u = ap (λ b. cond b (Some v) (pending_in id us)) (sym (passes_it id v is)) ∙ has.0 in
    (found, has.1.1, λ w at. has.2 w at ∙ sym (agree_behind h v.batch u.batch.writes (found_apart us id u v found has.1.0) w at))

-- as many are pending
pub pending_released : (p : Past) (id : ℕ) → UnreleasedRise p → pending_of (past_released p) id ≡ pending_of p id
pending_released p id above =
    moved (λ h us. pending_in id us ≡ pending_of p id) (λ h v us is has. ap (λ b. cond b (Some v) (pending_in id us)) (sym (passes_it id v is)) ∙ has) p.unreleased p.released p.last above p.history refl

pub released_carries : (p : Past) (id : ℕ) (u : Unreleased) → pending_of p id ≡ Some u → PastFacts p → Carries p (past_released p) id u
released_carries p id u is facts =
    let all = moved (Follows p id u) (one_follows p id u) p.unreleased p.released p.last facts.unreleased p.history (is, facts.names, λ w at. refl) in
    record { at = all.0; agree = all.2 }

-- ---- each event

module _ (m : Machine) (id : ℕ) (u : Unreleased) (is : pending_of m.past id ≡ Some u) (facts : Facts m) where
  abbrev To : Machine → Type 0
  To n = IsSome (pending_of n.past id) → Carries m.past n.past id u

  opened_carries : (full : Bool) → To (cond full m (with_session m))
  opened_carries true some = same_list _ _ id u refl refl is
  opened_carries false some = same_list _ _ id u refl refl is

  same_carries : (q : Past) → q ≡ m.past → Carries m.past q id u
  same_carries q same = subst (λ (p : Past). Carries m.past p id u) (sym same) (same_list _ _ id u refl refl is)

  follows_carries : (q : Past) → AtMostPrepares m.past q → Carries m.past q id u
  follows_carries q (inl same) = same_carries q same
  follows_carries q (inr one) = subst (λ (p : Past). Carries m.past p id u) (sym one.1) (prepared_carries m.past one.0 id u is)

  with_carries : (c : Unreleased) (r : Result (Docs × List WriteResult) Refusal) → To (decided_with m c r)
  with_carries c (Ok done) some = decided_carries m c (Ok done) id u (c.batch.id == id) refl is facts some
  with_carries c (Err refusal) some = decided_carries m c (Err refusal) id u (c.batch.id == id) refl is facts some

  if_carries : (found : Option Unreleased) → To (decided_if m found)
  if_carries None some = same_list _ _ id u refl refl is
  if_carries (Some c) some = with_carries c (outcome_of m.past c) some

  carries : (e : Event) → To (step m e)
  carries Event.opening some = opened_carries (is_full m) some
  carries (Event.leaving session) some = same_list _ _ id u refl refl is
  carries (Event.asking session e) some = follows_carries (asked m session e).past (asked_follows m (arrived m session e) (arrival_refusal m session e.request))
  carries (Event.retrying place) some = follows_carries (retried m place).past (retried_follows m place (slice_get m.parked place))
  carries (Event.deciding of) some = if_carries (pending_of m.past of) some
  carries (Event.advancing now) some = same_list _ _ id u refl refl is
  carries Event.releasing some = released_carries m.past id u is facts.past
  carries (Event.compacting to) some = same_list _ _ id u refl refl is
  carries (Event.loading session target at) some = same_carries (loaded m session target at).past (ap (λ (n : Machine). n.past) (loaded_rest m session target at))
  carries (Event.matching shard to) some = same_list _ _ id u refl refl is
  carries (Event.raising session) some = same_carries (raised m session).past (ap (λ (n : Machine). n.past) (raised_rest m session))
  carries (Event.taking session) some = same_list _ _ id u refl refl is

pub outcomes_stay : (m : Machine) (e : Event) (id : ℕ) (o : Outcome) → Facts m → ComesTo m.past id o → IsSome (pending_of (step m e).past id) → ComesTo (step m e).past id o
outcomes_stay m e id o facts comes some =
    let found = found_of m.past o (pending_of m.past id) comes in
    let u = found.0 in
    let to = carries m id u found.1 facts e some in
    subst (λ x. IsOutcomeOfPending (step m e).past x o) (sym to.at) (comes_still m.past (step m e).past id u o found.1 facts.past (keeps m e facts).past to found.2)
