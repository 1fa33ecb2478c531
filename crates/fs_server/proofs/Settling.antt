-- What settling a commit does: it is accepted or dropped, and then what can be is released.
use Rattle.std.proofs.Common.{◌≡◌, ℕ, ℤ, Bool, true, false, [], ◌∷◌, Option, Some, None, Ok, refl, sym, ap, ◌∙◌, subst, cond}
use Rattle.std.specs.Prelude.{IsSome, int_lt}
use Rattle.fs_machine.specs.declared.answer.Outcome.{Outcome}
use Rattle.fs_machine.specs.declared.answer.Outcome.TheVariants as outcome
use Rattle.fs_machine.specs.declared.answer.Settled.{Settled}
use Rattle.fs_machine.specs.declared.answer.Settled.TheVariants.{Released, Waiting, Dropped, Memory}
use Rattle.fs_machine.specs.declared.unreleased.Unreleased.{Unreleased}
use Rattle.fs_machine.specs.Event.{Event}
use Rattle.fs_machine.specs.Facts.{Facts}
use Rattle.fs_machine.specs.Grows.{Grows}
use Rattle.fs_machine.specs.Laws.{AlwaysGrows}
use Rattle.fs_machine.specs.Past.{Past}
use Rattle.fs_machine.specs.Release.{all_answered, committed_out, past_released, released}
use Rattle.fs_machine.specs.Settle.{ComesTo, IsOutcomeOfPending, accepted_in, decided, decided_if, decided_with, dropped_from, outcome_of, pending_of, refused_to, settled, settled_answer, settled_answer_if, settled_as, HasTime, Settles}
use Rattle.fs_machine.specs.State.{Machine}
use Rattle.fs_machine.specs.Stream.{Desk, desk_of, with_desk}
use Rattle.fs_machine.proofs.Pending.{number_found}
use Rattle.fs_server.specs.Settling.{Decides, is_refused, settled_so}

-- ---- what its writes come to

found_pending : (p : Past) (found : Option Unreleased) (o : Outcome) → IsOutcomeOfPending p found o → IsSome found
found_pending p None o comes = absurd comes
found_pending p (Some u) o comes = refl

pub comes_pending : (p : Past) (id : ℕ) (o : Outcome) → ComesTo p id o → IsSome (pending_of p id)
comes_pending p id o comes = found_pending p (pending_of p id) o comes

-- ---- it is accepted or dropped

decides_found : (m : Machine) (id : ℕ) (o : Outcome) (q : Past) (d : Desk) (found : Option Unreleased) → pending_of m.past id ≡ found
    → IsOutcomeOfPending m.past found o → Decides m.past (desk_of m) id o q d → with_desk (record m { past = q }) d ≡ decided_if m found
decides_found m id o q d None is comes decides = absurd comes
decides_found m id (outcome.Effects changes results) q d (Some u) is comes decides =
    let made : outcome_of m.past u ≡ Ok (comes.0.after, results) = comes.0.done in
    let number : u.batch.id ≡ id = number_found m.past.unreleased id u is in
    let past : q ≡ record m.past { unreleased = accepted_in u.batch.id results m.past.unreleased } = decides.0 ∙ ap (λ (n : ℕ). record m.past { unreleased = accepted_in n results m.past.unreleased }) (sym number) in
    (λ i. with_desk (record m { past = past i }) (decides.1 i)) ∙ ap (decided_with m u) (sym made)
decides_found m id (outcome.Refused refusal) q d (Some u) is comes decides =
    let number : u.batch.id ≡ id = number_found m.past.unreleased id u is in
    let past : q ≡ record m.past { unreleased = dropped_from u.batch.id m.past.unreleased } = decides.0 ∙ ap (λ (n : ℕ). record m.past { unreleased = dropped_from n m.past.unreleased }) (sym number) in
    let told : d ≡ refused_to u.asker refusal (desk_of m) = decides.1 u is in
    (λ i. with_desk (record m { past = past i }) (told i)) ∙ ap (decided_with m u) (sym comes)

pub decides : (m : Machine) (id : ℕ) (o : Outcome) (q : Past) (d : Desk) → ComesTo m.past id o → Decides m.past (desk_of m) id o q d → with_desk (record m { past = q }) d ≡ decided m id
decides m id o q d comes done = decides_found m id o q d (pending_of m.past id) refl comes done

-- ---- what is told of it

answers_found : (m : Machine) (id : ℕ) (o : Outcome) (found : Option Unreleased) (u : Unreleased) → found ≡ Some u → IsOutcomeOfPending m.past found o
    → settled_so (is_refused o) u.batch.time (settled m id).past.released ≡ settled_answer_if m id found
answers_found m id (outcome.Effects changes results) found u is comes =
    let here : IsOutcomeOfPending m.past (Some u) (outcome.Effects changes results) = subst (λ f. IsOutcomeOfPending m.past f (outcome.Effects changes results)) is comes in
    let made : outcome_of m.past u ≡ Ok (here.0.after, results) = here.0.done in
    ap (settled_as (settled m id).past u) (sym made) ∙ ap (settled_answer_if m id) (sym is)
answers_found m id (outcome.Refused refusal) found u is comes =
    let here : IsOutcomeOfPending m.past (Some u) (outcome.Refused refusal) = subst (λ f. IsOutcomeOfPending m.past f (outcome.Refused refusal)) is comes in
    ap (settled_as (settled m id).past u) (sym here) ∙ ap (settled_answer_if m id) (sym is)

pub answers : (m : Machine) (id : ℕ) (o : Outcome) (u : Unreleased) → pending_of m.past id ≡ Some u → ComesTo m.past id o
    → settled_so (is_refused o) u.batch.time (settled m id).past.released ≡ settled_answer m id
answers m id o u is comes = answers_found m id o (pending_of m.past id) u is comes

never_memory : (late : Bool) (o : Option ℤ) (time : ℤ) → Memory o ≡ cond late (Waiting time) (Released time) → ⊥
never_memory true o time e = cc
never_memory false o time e = cc

-- what is told where all went well
told_settles : (m n : Machine) (id : ℕ) (r : Settled) → n ≡ settled m id → r ≡ settled_answer m id → (t : ℤ) (released : ℤ) (dropped : Bool) → r ≡ settled_so dropped t released → Settles m n id r
told_settles m n id (Released t) is told time released dropped so = (is, told)
told_settles m n id (Waiting t) is told time released dropped so = (is, told)
told_settles m n id Dropped is told time released dropped so = (is, told)
told_settles m n id (Memory t) is told time released true so = absurd (cc)
told_settles m n id (Memory t) is told time released false so = absurd (never_memory (int_lt released time) t time so)

pub settles : (m n : Machine) (id : ℕ) (o : Outcome) (u : Unreleased) (r : Settled) → pending_of m.past id ≡ Some u → ComesTo m.past id o → n ≡ settled m id
    → r ≡ settled_so (is_refused o) u.batch.time n.past.released → Settles m n id r
settles m n id o u r is comes so told =
    let as_told : r ≡ settled_so (is_refused o) u.batch.time (settled m id).past.released = told ∙ ap (λ (k : Machine). settled_so (is_refused o) u.batch.time k.past.released) so in
    told_settles m n id r so (as_told ∙ answers m id o u is comes) u.batch.time (settled m id).past.released (is_refused o) as_told

-- ---- the server afterwards

module _ (m : Machine) (id : ℕ) (o : Outcome) (q p : Past) (d e : Desk) (comes : ComesTo m.past id o) (done : Decides m.past (desk_of m) id o q d) where
  -- where what can be was released
  pub is_settled : p ≡ past_released q → e ≡ all_answered (committed_out q) d → with_desk (record m { past = p }) e ≡ settled m id
  is_settled goes told = (λ i. with_desk (record m { past = goes i }) (told i)) ∙ ap released (decides m id o q d comes done)

  -- and where it is owed
  pub is_decided : p ≡ q → e ≡ d → with_desk (record m { past = p }) e ≡ decided m id
  is_decided same none = (λ i. with_desk (record m { past = same i }) (none i)) ∙ decides m id o q d comes done

pub has_time : (found : Option Unreleased) (u : Unreleased) (t : ℤ) → found ≡ Some u → t ≡ u.batch.time → HasTime found t
has_time found u t is at = subst (λ f. HasTime f t) (sym is) (sym at)

pub settles_owed : (m n : Machine) (id : ℕ) (r : Settled) (t : ℤ) → r ≡ Memory (Some t) → n ≡ decided m id → HasTime (pending_of m.past id) t → Settles m n id r
settles_owed m n id r t is so time = subst (Settles m n id) (sym is) (so, time)

-- ---- the history grows

pub settles_grows : (m n : Machine) (id : ℕ) (r : Settled) → Facts m → AlwaysGrows → Settles m n id r → Grows m.past n.past
settles_grows m n id (Released t) facts law h = subst (λ (k : Machine). Grows m.past k.past) (sym h.0) (law m (Event.deciding id ∷ Event.releasing ∷ []) facts)
settles_grows m n id (Waiting t) facts law h = subst (λ (k : Machine). Grows m.past k.past) (sym h.0) (law m (Event.deciding id ∷ Event.releasing ∷ []) facts)
settles_grows m n id Dropped facts law h = subst (λ (k : Machine). Grows m.past k.past) (sym h.0) (law m (Event.deciding id ∷ Event.releasing ∷ []) facts)
settles_grows m n id (Memory (Some t)) facts law h = subst (λ (k : Machine). Grows m.past k.past) (sym h.0) (law m (Event.deciding id ∷ []) facts)
settles_grows m n id (Memory None) facts law h = subst (λ (k : Machine). Grows m.past k.past) (sym h) (law m [] facts)
