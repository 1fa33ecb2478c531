-- In whatever order pending commits are settled, the same is left: each has its own outcome, and what can be released behind all of them
-- doesn't hang on what was released in between.
use Rattle.std.proofs.Common.{◌≡◌, ℕ, Bool, true, false, List, [], ◌∷◌, Option, Some, None, Result, Ok, Err, refl, sym, ap, ◌∙◌, subst, eqb-true}
use Rattle.std.specs.Prelude.{◌==◌, IsOk}
use Rattle.std.specs.List.Sorted.{IsPermutation}
use Rattle.std.proofs.lemmas.List.Elements.{All-from_recursion, recursion_from_All}
use Rattle.std.proofs.lemmas.List.Sorted.{All-permutation}
use Rattle.fs_history.specs.declared.batch.Batch.{Batch}
use Rattle.fs_status.specs.declared.refusal.Refusal.{Refusal}
use Rattle.fs_write.proofs.BatchLaws.{Agree, law_named_refused, law_named_results}
use Rattle.fs_write.specs.Batch.{Docs, batch}
use Rattle.fs_write.specs.declared.write_result.WriteResult.{WriteResult}
use Rattle.fs_machine.specs.declared.unreleased.Unreleased.{Unreleased}
use Rattle.fs_machine.specs.Facts.{Facts, PastFacts}
use Rattle.fs_machine.specs.IdsAreDrawn.{IdsAreDrawn}
use Rattle.fs_machine.specs.Laws.{IsntRefused, NoneRefused, all_settled}
use Rattle.fs_machine.specs.Past.{Past}
use Rattle.fs_machine.specs.Release.{past_released, released}
use Rattle.fs_machine.specs.Settle.{decided_if, decided_with, docs_for, outcome_of, past_decided, pending_of, settled}
use Rattle.fs_machine.specs.State.{Machine}
use Rattle.fs_machine.specs.Stream.{Desk, desk_of, with_desk}
use Rattle.fs_machine.proofs.IdsAreDrawn.{fewer_decided, fewer_released, ids_fewer}
use Rattle.fs_machine.proofs.OutcomesStay.{Carries, once, pending_released, released_carries}
use Rattle.fs_machine.proofs.Pending.{number_found}
use Rattle.fs_machine.proofs.ReleasedOnce.{marked_in, released_once}
use Rattle.fs_machine.proofs.Reordered.{each, same_reordered}
use Rattle.fs_machine.proofs.ResultsHold.{docs_agree}
use Rattle.fs_machine.proofs.Runs.{past_kept_at_deciding, past_kept_at_release}
use Rattle.fs_machine.proofs.Verdicts.{decided_marks, in_any_order, marked_gone, marked_none, marked_other, marked_past, verdict, verdict_at, verdict_if}

-- ---- the outcome is its own

verdict_alike : (docs other : Docs) (b : Batch) (r : Result (Docs × List WriteResult) Refusal) → Agree b.writes docs other → batch docs b.writes b.time ≡ r → verdict (batch other b.writes b.time) ≡ verdict r
verdict_alike docs other b (Ok done) agree is = ap verdict (law_named_results docs other b.writes b.time done agree is).1
verdict_alike docs other b (Err refusal) agree is = ap verdict (law_named_refused docs other b.writes b.time refusal agree is)

verdict_stays : (p q : Past) (id : ℕ) (u : Unreleased) → pending_of p id ≡ Some u → PastFacts p → PastFacts q → Carries p q id u → verdict (outcome_of q u) ≡ verdict (outcome_of p u)
verdict_stays p q id u is facts after carries =
    let here = docs_agree p id u is facts.unreleased facts.names in
    let there = docs_agree q id u carries.at after.unreleased after.names in
    verdict_alike (docs_for p u) (docs_for q u) u.batch (outcome_of p u) (λ w at. here w at ∙ carries.agree w at ∙ sym (there w at)) refl

-- ---- a commit is settled, and where it is refused, who asked isn't told

abbrev quietly : Machine → ℕ → Machine
quietly m id = released (marked_in m id (verdict_at m.past id))

-- what deciding keeps is kept
kept_if : (P : Past → Type 0) (p : Past) (id : ℕ) (found : Option Unreleased) → pending_of p id ≡ found → ((u : Unreleased) → pending_of p id ≡ Some u → P (past_decided p u (outcome_of p u))) → P p
    → P (marked_past p id (verdict_if p found))
kept_if P p id None is keeps has = subst (λ us. P (record p { unreleased = us })) (sym (marked_none p.unreleased id None is)) has
kept_if P p id (Some u) is keeps has = subst P (decided_marks p id u (outcome_of p u) is) (keeps u is)

-- what is known of what was committed, and of the numbers that were drawn
record AreKnown (m : Machine) : Type 0 where
  past : PastFacts m.past
  ids : IdsAreDrawn m.past m.txns m.parked m.numbers.ids

known : (m : Machine) → Facts m → AreKnown m
known m facts = record { past = facts.past; ids = facts.ids }

module _ (m : Machine) (facts : AreKnown m) (a : ℕ) where
  -- what was committed, before it is released
  abbrev first : Past
  first = marked_past m.past a (verdict_at m.past a)

  first_stands : PastFacts first
  first_stands = kept_if PastFacts m.past a (pending_of m.past a) refl (λ u is. past_kept_at_deciding m.past a u (outcome_of m.past u) is refl facts.past) facts.past

  first_drawn : IdsAreDrawn first m.txns m.parked m.numbers.ids
  first_drawn =
      kept_if (λ p. IdsAreDrawn p m.txns m.parked m.numbers.ids) m.past a (pending_of m.past a) refl
      (λ u is. let r = outcome_of m.past u in ids_fewer m.past m.txns m.parked (past_decided m.past u r) m.txns m.parked m.numbers.ids (fewer_decided m.past m.txns m.parked u r) facts.ids) facts.ids

  stands : AreKnown (quietly m a)
  stands = record {
    past = past_kept_at_release first first_stands;
    ids = ids_fewer first m.txns m.parked (past_released first) m.txns m.parked m.numbers.ids (fewer_released first m.txns m.parked first_stands.unreleased) first_drawn;
  }

  -- what is pending then was so before, and comes to the same
  was_pending : (b : ℕ) (w : Unreleased) (s : Bool) → (a == b) ≡ s → pending_of first b ≡ Some w → pending_of m.past b ≡ Some w
  was_pending b w true same is =
      let none = marked_gone m.past.unreleased a (verdict_at m.past a) (once m a facts.ids) in
      let gone : pending_of first b ≡ None = subst (λ n. pending_of first n ≡ None) (eqb-true a b same) none in
      absurd (cc)
  was_pending b w false other is = sym (marked_other m.past.unreleased a b (verdict_at m.past a) other) ∙ is

  comes_to_same : (b : ℕ) (w : Unreleased) → pending_of (past_released first) b ≡ Some w → (pending_of m.past b ≡ Some w) × (verdict (outcome_of (past_released first) w) ≡ verdict (outcome_of m.past w))
  comes_to_same b w is =
      let at : pending_of first b ≡ Some w = sym (pending_released first b first_stands.unreleased) ∙ is in
      let was = was_pending b w (a == b) refl at in
      let carries = released_carries first b w at first_stands in
      let all : Carries m.past (past_released first) b w = record { at = carries.at; agree = carries.agree } in
      (was, verdict_stays m.past (past_released first) b w was facts.past (past_kept_at_release first first_stands) all)

  -- ---- two of them

  marked_alike : (b : ℕ) (found : Option Unreleased) → pending_of (quietly m a).past b ≡ found
      → marked_in (quietly m a) b (verdict_if (quietly m a).past found) ≡ marked_in (quietly m a) b (verdict_at m.past b)
  marked_alike b None is =
      let n = quietly m a in
      ap (λ us. record n { past = record n.past { unreleased = us } }) (marked_none n.past.unreleased b None is ∙ sym (marked_none n.past.unreleased b (verdict_at m.past b) is))
  marked_alike b (Some w) is =
      let same = comes_to_same b w is in
      ap (marked_in (quietly m a) b) (same.1 ∙ ap (verdict_if m.past) (sym same.0))

  twice : (b : ℕ) → quietly (quietly m a) b ≡ released (marked_in (marked_in m a (verdict_at m.past a)) b (verdict_at m.past b))
  twice b =
      ap released (marked_alike b (pending_of (quietly m a).past b) refl)
      ∙ released_once (marked_in m a (verdict_at m.past a)) b (verdict_at m.past b) first_stands.unreleased

  again : quietly (quietly m a) a ≡ quietly m a
  again =
      let v = verdict_at m.past a in
      let gone = marked_gone m.past.unreleased a v (once m a facts.ids) in
      twice a ∙ ap (λ us. released (record m { past = record m.past { unreleased = us } })) (marked_none first.unreleased a v gone)

swaps_if : (m : Machine) (a b : ℕ) (s : Bool) → (a == b) ≡ s → AreKnown m → quietly (quietly m a) b ≡ quietly (quietly m b) a
swaps_if m a b true same facts = subst (λ n. quietly (quietly m a) n ≡ quietly (quietly m n) a) (eqb-true a b same) refl
swaps_if m a b false other facts =
    let v = verdict_at m.past a in
    let x = verdict_at m.past b in
    twice m facts a b
    ∙ ap (λ us. released (record m { past = record m.past { unreleased = us } })) (in_any_order a b v x m.past.unreleased other)
    ∙ sym (twice m facts b a)

-- ---- all of them

all_reordered : (m : Machine) (ids other : List ℕ) → AreKnown m → IsPermutation ids other → each quietly m ids ≡ each quietly m other
all_reordered m ids other facts moved =
    same_reordered quietly AreKnown (λ m a facts. stands m facts a) (λ m a b facts. swaps_if m a b (a == b) refl facts) (λ m a facts. again m facts a) ids other m moved facts

-- settling one differs in what who asked is told
told_with : (m : Machine) (u : Unreleased) (r : Result (Docs × List WriteResult) Refusal)
    → released (decided_with m u r) ≡ with_desk (released (marked_in m u.batch.id (verdict r))) (desk_of (released (decided_with m u r)))
told_with m u (Ok done) = refl
told_with m u (Err refusal) = refl

told_if : (m : Machine) (id : ℕ) (found : Option Unreleased) → pending_of m.past id ≡ found
    → released (decided_if m found) ≡ with_desk (released (marked_in m id (verdict_if m.past found))) (desk_of (released (decided_if m found)))
told_if m id None is =
    ap (λ us. with_desk (released (record m { past = record m.past { unreleased = us } })) (desk_of (released m))) (sym (marked_none m.past.unreleased id None is))
told_if m id (Some u) is =
    told_with m u (outcome_of m.past u)
    ∙ ap (λ n. with_desk (released (marked_in m n (verdict (outcome_of m.past u)))) (desk_of (released (decided_with m u (outcome_of m.past u))))) (number_found m.past.unreleased id u is)

past_of_all : (ids : List ℕ) (m : Machine) (d : Desk) → (all_settled m ids).past ≡ (each quietly (with_desk m d) ids).past
past_of_all [] m d = refl
past_of_all (id ∷ ids) m d =
    let told = desk_of (quietly (with_desk m d) id) in
    past_of_all ids (settled m id) told
    ∙ ap (λ (n : Machine). (each quietly (with_desk n told) ids).past) (told_if m id (pending_of m.past id) refl)

pub settled_in_any_order : (m : Machine) (ids other : List ℕ) → Facts m → IsPermutation ids other → (all_settled m ids).past ≡ (all_settled m other).past
settled_in_any_order m ids other facts moved =
    past_of_all ids m (desk_of m) ∙ ap (λ (n : Machine). n.past) (all_reordered m ids other (known m facts) moved) ∙ sym (past_of_all other m (desk_of m))

-- ---- where none is refused, sessions are told the same

accepted_with : (m : Machine) (u : Unreleased) (r : Result (Docs × List WriteResult) Refusal) → IsOk r → released (decided_with m u r) ≡ released (marked_in m u.batch.id (verdict r))
accepted_with m u (Ok done) ok = refl
accepted_with m u (Err refusal) ok = absurd (cc)

accepted_if : (m : Machine) (id : ℕ) (found : Option Unreleased) → pending_of m.past id ≡ found → IsntRefused m.past found → released (decided_if m found) ≡ released (marked_in m id (verdict_if m.past found))
accepted_if m id None is ok = ap (λ us. released (record m { past = record m.past { unreleased = us } })) (sym (marked_none m.past.unreleased id None is))
accepted_if m id (Some u) is ok =
    accepted_with m u (outcome_of m.past u) ok ∙ ap (λ n. released (marked_in m n (verdict (outcome_of m.past u)))) (number_found m.past.unreleased id u is)

ok_alike : (r s : Result (Docs × List WriteResult) Refusal) → verdict s ≡ verdict r → IsOk r → IsOk s
ok_alike (Ok done) (Ok other) same ok = refl
ok_alike (Ok done) (Err refusal) same ok = absurd (cc)
ok_alike (Err refusal) s same ok = absurd (cc)

module _ (m : Machine) (facts : AreKnown m) (id : ℕ) where
  isnt_still : (b : ℕ) (found : Option Unreleased) → pending_of (quietly m id).past b ≡ found → IsntRefused m.past (pending_of m.past b) → IsntRefused (quietly m id).past found
  isnt_still b None is ok = tt
  isnt_still b (Some w) is ok =
      let same = comes_to_same m facts id b w is in
      ok_alike (outcome_of m.past w) (outcome_of (quietly m id).past w) same.1 (subst (IsntRefused m.past) same.0 ok)

  none_still : (ids : List ℕ) → NoneRefused m.past ids → NoneRefused (quietly m id).past ids
  none_still [] none = tt
  none_still (b ∷ ids) none = (isnt_still b (pending_of (quietly m id).past b) refl none.0, none_still ids none.1)

all_quiet : (ids : List ℕ) (m : Machine) → AreKnown m → NoneRefused m.past ids → all_settled m ids ≡ each quietly m ids
all_quiet [] m facts none = refl
all_quiet (id ∷ ids) m facts none =
    ap (λ n. all_settled n ids) (accepted_if m id (pending_of m.past id) refl none.0)
    ∙ all_quiet ids (quietly m id) (stands m facts id) (none_still m facts id ids none.1)

pub same_replies_in_any_order : (m : Machine) (ids other : List ℕ) → Facts m → IsPermutation ids other → NoneRefused m.past ids → all_settled m ids ≡ all_settled m other
same_replies_in_any_order m ids other facts moved none =
    let P : ℕ → Type 0 = λ id. IsntRefused m.past (pending_of m.past id) in
    let none_other : NoneRefused m.past other = recursion_from_All P other (All-permutation P ids other moved (All-from_recursion P ids none)) in
    all_quiet ids m (known m facts) none ∙ all_reordered m ids other (known m facts) moved ∙ sym (all_quiet other m (known m facts) none_other)
