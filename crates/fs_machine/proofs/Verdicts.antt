-- What becomes of a pending commit: it gets its results, or is dropped. Two get theirs in any order.
use Rattle.std.proofs.Common.{◌≡◌, ℕ, ℤ, ◌≤◌, Bool, true, false, cond, List, [], ◌∷◌, Option, Some, None, Result, Ok, Err, refl, sym, ap, ◌∙◌, arith}
use Rattle.std.specs.Prelude.{◌==◌}
use Rattle.std.proofs.lemmas.Bool.Decides.{nat_tests}
use Rattle.fs_status.specs.declared.refusal.Refusal.{Refusal}
use Rattle.fs_write.specs.Batch.{Docs}
use Rattle.fs_write.specs.declared.write_result.WriteResult.{WriteResult}
use Rattle.fs_machine.specs.declared.unreleased.Unreleased.{Unreleased}
use Rattle.fs_machine.specs.IdsAreDrawn.{times_in}
use Rattle.fs_machine.specs.Past.{Past, batches}
use Rattle.fs_machine.specs.Settle.{accepted_in, dropped_from, is_it, outcome_of, past_decided, pending_in, pending_of}
use Rattle.fs_machine.specs.UnreleasedRise.{RiseFrom}
use Rattle.fs_machine.proofs.OutcomesStay.{accepted_isnt, found_accepted, found_dropped, gone_accepted, gone_dropped}
use Rattle.fs_machine.proofs.Pending.{number_found}
use Rattle.fs_machine.proofs.UnreleasedRise.{rise_accepted, rise_dropped}

-- its results, or that it is dropped
abbrev pub Verdict : Type 0
Verdict = Option (List WriteResult)

abbrev pub verdict : Result (Docs × List WriteResult) Refusal → Verdict
verdict (Ok done) = Some done.1
verdict (Err refusal) = None

-- that of the pending commit of a number; where there is none, it doesn't matter which
abbrev pub verdict_if : Past → Option Unreleased → Verdict
verdict_if p None = None
verdict_if p (Some u) = verdict (outcome_of p u)

abbrev pub verdict_at : Past → ℕ → Verdict
verdict_at p id = verdict_if p (pending_of p id)

abbrev pub marked : ℕ → Verdict → List Unreleased → List Unreleased
marked id (Some results) us = accepted_in id results us
marked id None us = dropped_from id us

abbrev pub marked_past : Past → ℕ → Verdict → Past
marked_past p id v = record p { unreleased = marked id v p.unreleased }

marked_by : (p : Past) (u : Unreleased) (r : Result (Docs × List WriteResult) Refusal) → past_decided p u r ≡ marked_past p u.batch.id (verdict r)
marked_by p u (Ok done) = refl
marked_by p u (Err refusal) = refl

-- deciding marks it
pub decided_marks : (p : Past) (id : ℕ) (u : Unreleased) (r : Result (Docs × List WriteResult) Refusal) → pending_of p id ≡ Some u → past_decided p u r ≡ marked_past p id (verdict r)
decided_marks p id u r is = marked_by p u r ∙ ap (λ n. marked_past p n (verdict r)) (number_found p.unreleased id u is)

-- ---- one that isn't pending

accepted_none_next : (v : Unreleased) (us : List Unreleased) (id : ℕ) (results : List WriteResult) (b : Bool) → cond b (Some v) (pending_in id us) ≡ None → (pending_in id us ≡ None → accepted_in id results us ≡ us)
    → cond b (record v { results = Some results } ∷ us) (v ∷ accepted_in id results us) ≡ v ∷ us
accepted_none_next v us id results true none more = absurd (cc)
accepted_none_next v us id results false none more = ap (λ vs. v ∷ vs) (more none)

accepted_none : (us : List Unreleased) (id : ℕ) (results : List WriteResult) → pending_in id us ≡ None → accepted_in id results us ≡ us
accepted_none [] id results none = refl
accepted_none (v ∷ us) id results none = accepted_none_next v us id results (is_it id v) none (accepted_none us id results)

dropped_none_next : (v : Unreleased) (us : List Unreleased) (id : ℕ) (b : Bool) → cond b (Some v) (pending_in id us) ≡ None → (pending_in id us ≡ None → dropped_from id us ≡ us)
    → cond b us (v ∷ dropped_from id us) ≡ v ∷ us
dropped_none_next v us id true none more = absurd (cc)
dropped_none_next v us id false none more = ap (λ vs. v ∷ vs) (more none)

dropped_none : (us : List Unreleased) (id : ℕ) → pending_in id us ≡ None → dropped_from id us ≡ us
dropped_none [] id none = refl
dropped_none (v ∷ us) id none = dropped_none_next v us id (is_it id v) none (dropped_none us id)

pub marked_none : (us : List Unreleased) (id : ℕ) (v : Verdict) → pending_in id us ≡ None → marked id v us ≡ us
marked_none us id (Some results) none = accepted_none us id results none
marked_none us id None none = dropped_none us id none

-- ---- which are pending still

pub marked_gone : (us : List Unreleased) (id : ℕ) (v : Verdict) → times_in id (batches us) ≤ 1 → pending_in id (marked id v us) ≡ None
marked_gone us id (Some results) few = gone_accepted us id results few
marked_gone us id None few = gone_dropped us id few

pub marked_other : (us : List Unreleased) (of id : ℕ) (v : Verdict) → (of == id) ≡ false → pending_in id (marked of v us) ≡ pending_in id us
marked_other us of id (Some results) other = found_accepted us of id results other
marked_other us of id None other = found_dropped us of id other

pub rise_marked : (us : List Unreleased) (id : ℕ) (v : Verdict) (from last : ℤ) → RiseFrom from last us → RiseFrom from last (marked id v us)
rise_marked us id (Some results) from last above = rise_accepted us id results from last above
rise_marked us id None from last above = rise_dropped us id from last above

-- ---- two are marked in any order

both_not : (a b : ℕ) (v : Unreleased) → (a == b) ≡ false → is_it a v ≡ true → is_it b v ≡ false
both_not a b v other is = grind (arith, nat_tests)

pub mark_here : (id : ℕ) (v : Verdict) (u : Unreleased) (us : List Unreleased) → is_it id u ≡ false → marked id v (u ∷ us) ≡ u ∷ marked id v us
mark_here id (Some results) u us is = rw is refl
mark_here id None u us is = rw is refl

-- what stands where a commit is marked
abbrev left_by : Verdict → Unreleased → List Unreleased → List Unreleased
left_by (Some results) u us = record u { results = Some results } ∷ us
left_by None u us = us

mark_it : (id : ℕ) (v : Verdict) (u : Unreleased) (us : List Unreleased) → is_it id u ≡ true → marked id v (u ∷ us) ≡ left_by v u us
mark_it id (Some results) u us is = rw is refl
mark_it id None u us is = rw is refl

mark_left : (id : ℕ) (v w : Verdict) (u : Unreleased) (us : List Unreleased) → marked id v (left_by w u us) ≡ left_by w u (marked id v us)
mark_left id v (Some results) u us = mark_here id v (record u { results = Some results }) us (accepted_isnt id u results)
mark_left id v None u us = refl

any_next : (a b : ℕ) (v w : Verdict) (u : Unreleased) (us : List Unreleased) (x y : Bool) → (a == b) ≡ false → is_it a u ≡ x → is_it b u ≡ y → marked b w (marked a v us) ≡ marked a v (marked b w us)
    → marked b w (marked a v (u ∷ us)) ≡ marked a v (marked b w (u ∷ us))
any_next a b v w u us true y other is_a is_b more =
    let not_b = both_not a b u other is_a in
    ap (marked b w) (mark_it a v u us is_a) ∙ mark_left b w v u us ∙ sym (mark_it a v u (marked b w us) is_a) ∙ ap (marked a v) (sym (mark_here b w u us not_b))
any_next a b v w u us false true other is_a is_b more =
    ap (marked b w) (mark_here a v u us is_a) ∙ mark_it b w u (marked a v us) is_b ∙ sym (mark_left a v w u us) ∙ ap (marked a v) (sym (mark_it b w u us is_b))
any_next a b v w u us false false other is_a is_b more =
    ap (marked b w) (mark_here a v u us is_a) ∙ mark_here b w u (marked a v us) is_b ∙ ap (λ us. u ∷ us) more ∙ sym (mark_here a v u (marked b w us) is_a) ∙ ap (marked a v) (sym (mark_here b w u us is_b))

pub in_any_order : (a b : ℕ) (v w : Verdict) (us : List Unreleased) → (a == b) ≡ false → marked b w (marked a v us) ≡ marked a v (marked b w us)
in_any_order a b (Some v) (Some w) [] other = refl
in_any_order a b (Some v) None [] other = refl
in_any_order a b None (Some w) [] other = refl
in_any_order a b None None [] other = refl
in_any_order a b v w (u ∷ us) other = any_next a b v w u us (is_it a u) (is_it b u) other refl refl (in_any_order a b v w us other)
