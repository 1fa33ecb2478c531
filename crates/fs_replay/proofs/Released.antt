-- Where all is released that can be, no commit is under way or the first of them is pending: and the other way round.
use Rattle.std.proofs.Common.{◌≡◌, ℤ, ◌≤◌, ◌≤ℤ◌, Bool, true, false, cond, List, [], ◌∷◌, ◌++◌, Option, Some, None, refl, sym, ap, ◌∙◌, subst, arith}
use Rattle.std.specs.Prelude.{pos, ◌+ℤ◌, ◌-ℤ◌, is_none, map, not, ⊤, length}
use Rattle.std.specs.List.{filter}
use Rattle.std.proofs.lemmas.Int.{ints}
use Rattle.fs_machine.specs.Commit.{past_prepared}
use Rattle.fs_machine.specs.Compact.{floor_after, past_compacted}
use Rattle.fs_machine.specs.Past.{Past, is_pending}
use Rattle.fs_machine.specs.Pending.{next_in}
use Rattle.fs_machine.specs.Release.{as_committed, committed_out, free_to, freed, is_freed, joined, kept_back, past_released}
use Rattle.fs_machine.specs.Tick.{past_advanced}
use Rattle.fs_machine.specs.UnreleasedRise.{RiseFrom, UnreleasedRise}
use Rattle.fs_machine.specs.declared.unreleased.Unreleased.{Unreleased}
use Rattle.fs_machine.proofs.Moved.{accepted_goes, none_freed, pending_stays}
use Rattle.fs_machine.proofs.UnreleasedRise.{free_above, unreleased_advanced, unreleased_prepared, unreleased_released}
use Rattle.fs_replay.specs.BetweenLines.{IsReleased}

-- the first of them is pending, if there is one
abbrev pub StartsPending : List Unreleased → Type 0
StartsPending [] = ⊤
StartsPending (u ∷ us) = is_pending u ≡ true

-- ---- what is released leads to

not_more_next : (u : Unreleased) (us : List Unreleased) (f : Unreleased → Bool) (b : Bool) → length (filter f us) ≤ length us → length (cond b (u ∷ filter f us) (filter f us)) ≤ length (u ∷ us)
not_more_next u us f true more = omega (arith, more)
not_more_next u us f false more = omega (arith, more)

not_more : (us : List Unreleased) (f : Unreleased → Bool) → length (filter f us) ≤ length us
not_more [] f = omega arith
not_more (u ∷ us) f = not_more_next u us f (f u) (not_more us f)

first_stays : (u : Unreleased) (us : List Unreleased) (last : ℤ) (b : Bool) → is_pending u ≡ b → RiseFrom u.batch.time last us → kept_back (free_to last (u ∷ us)) (u ∷ us) ≡ u ∷ us → is_pending u ≡ true
first_stays u us last true is rise same = is
first_stays u us last false is rise same =
    let to = free_to last (u ∷ us) in
    let e : to ≡ free_to last us = ap (λ c. cond c (u.batch.time -ℤ pos 1) (free_to last us)) is in
    let within : u.batch.time ≤ℤ to = subst (λ t. u.batch.time ≤ℤ t) (sym e) (free_above us u.batch.time last rise) in
    let gone : kept_back to (u ∷ us) ≡ kept_back to us = ap (λ c. cond (not c) (u ∷ kept_back to us) (kept_back to us)) (accepted_goes to u is within) in
    let fewer = not_more us (λ v. not (is_freed to v)) in
    let as_many : length (kept_back to us) ≡ length (u ∷ us) = ap length (sym gone ∙ same) in
    absurd (omega (arith, fewer, as_many))

starts_of : (us : List Unreleased) (from last : ℤ) → RiseFrom from last us → kept_back (free_to last us) us ≡ us → StartsPending us
starts_of [] from last rise same = tt
starts_of (u ∷ us) from last rise same = first_stays u us last (is_pending u) refl rise.1 same

pub starts_pending : (p : Past) → UnreleasedRise p → IsReleased p → StartsPending p.unreleased
starts_pending p rise same = starts_of p.unreleased p.released p.last rise (ap (λ (q : Past). q.unreleased) same)

-- and it is released up to there
pub released_to_there : (p : Past) → IsReleased p → p.released ≡ free_to p.last p.unreleased
released_to_there p same = sym (ap (λ (q : Past). q.released) same)

-- where no commit is pending, none is under way
none_first : (u : Unreleased) (us : List Unreleased) (b : Bool) → is_pending u ≡ b → b ≡ true → cond b (Some u.batch.id) (next_in us) ≡ None → u ∷ us ≡ []
none_first u us true is pending none = absurd (cc)
none_first u us false is pending none = absurd (cc)

pub none_under_way : (us : List Unreleased) → StartsPending us → next_in us ≡ None → us ≡ []
none_under_way [] starts none = refl
none_under_way (u ∷ us) starts none = none_first u us (is_pending u) refl starts none

-- ---- what leads to it

none_goes : (us : List Unreleased) (from last : ℤ) → RiseFrom from last us → StartsPending us → (freed (free_to last us) us ≡ []) × (kept_back (free_to last us) us ≡ us)
none_goes [] from last rise starts = (refl, refl)
none_goes (u ∷ us) from last rise starts =
    let to = free_to last (u ∷ us) in
    let e : to ≡ (u.batch.time -ℤ pos 1) = ap (λ c. cond c (u.batch.time -ℤ pos 1) (free_to last us)) starts in
    none_freed (u ∷ us) (u.batch.time -ℤ pos 1) last to (omega (arith, ints), rise.1) (omega (arith, ints, e))

pub is_released : (p : Past) → UnreleasedRise p → StartsPending p.unreleased → p.released ≡ free_to p.last p.unreleased → IsReleased p
is_released p rise starts there =
    let none = none_goes p.unreleased p.released p.last rise starts in
    λ i. record p { history = joined p.history (none.0 i); unreleased = none.1 i; released = sym there i }

-- ---- events

-- a release owes nothing
kept_next : (u : Unreleased) (us : List Unreleased) (last : ℤ) (b : Bool) → is_pending u ≡ b → RiseFrom u.batch.time last us
    → StartsPending (kept_back (free_to last us) us) × (free_to last (kept_back (free_to last us) us) ≡ free_to last us)
    → (to : ℤ) → to ≡ cond b (u.batch.time -ℤ pos 1) (free_to last us) → StartsPending (kept_back to (u ∷ us)) × (free_to last (kept_back to (u ∷ us)) ≡ to)
kept_next u us last true is rise more to e =
    let kept : kept_back to (u ∷ us) ≡ u ∷ kept_back to us = ap (λ c. cond (not c) (u ∷ kept_back to us) (kept_back to us)) (pending_stays to u is) in (
      subst StartsPending (sym kept) is,
      ap (free_to last) kept ∙ ap (λ c. cond c (u.batch.time -ℤ pos 1) (free_to last (kept_back to us))) is ∙ sym e,
    )
kept_next u us last false is rise more to e =
    let within : u.batch.time ≤ℤ to = subst (λ t. u.batch.time ≤ℤ t) (sym e) (free_above us u.batch.time last rise) in
    let kept : kept_back to (u ∷ us) ≡ kept_back (free_to last us) us =
    ap (λ c. cond (not c) (u ∷ kept_back to us) (kept_back to us)) (accepted_goes to u is within) ∙ ap (λ t. kept_back t us) e in
    (subst StartsPending (sym kept) more.0, ap (free_to last) kept ∙ more.1 ∙ sym e)

kept_starts : (us : List Unreleased) (from last : ℤ) → RiseFrom from last us → StartsPending (kept_back (free_to last us) us) × (free_to last (kept_back (free_to last us) us) ≡ free_to last us)
kept_starts [] from last rise = (tt, refl)
kept_starts (u ∷ us) from last rise = kept_next u us last (is_pending u) refl rise.1 (kept_starts us u.batch.time last rise.1) (free_to last (u ∷ us)) refl

pub owes_nothing : (p : Past) → UnreleasedRise p → IsReleased (past_released p)
owes_nothing p rise =
    let kept = kept_starts p.unreleased p.released p.last rise in
    is_released (past_released p) (unreleased_released p rise) kept.0 (sym kept.1)

-- one that is prepared is pending, behind the others
prepared_starts : (us : List Unreleased) (u : Unreleased) → StartsPending us → is_pending u ≡ true → StartsPending (us ++ u ∷ [])
prepared_starts [] u starts pending = pending
prepared_starts (v ∷ us) u starts pending = starts

prepared_free : (us : List Unreleased) (u : Unreleased) (last : ℤ) → StartsPending us → is_pending u ≡ true → u.batch.time ≡ (last +ℤ pos 1) → free_to u.batch.time (us ++ u ∷ []) ≡ free_to last us
prepared_free [] u last starts pending next =
    let e : free_to u.batch.time (u ∷ []) ≡ (u.batch.time -ℤ pos 1) = ap (λ c. cond c (u.batch.time -ℤ pos 1) u.batch.time) pending in
    omega (arith, ints, e, next)
prepared_free (v ∷ us) u last starts pending next =
    ap (λ c. cond c (v.batch.time -ℤ pos 1) (free_to u.batch.time (us ++ u ∷ []))) starts
    ∙ sym (ap (λ c. cond c (v.batch.time -ℤ pos 1) (free_to last us)) starts)

pub prepared_released : (p : Past) (u : Unreleased) → u.results ≡ None → u.batch.time ≡ (p.last +ℤ pos 1) → UnreleasedRise p → IsReleased p → IsReleased (past_prepared p u)
prepared_released p u none next rise same =
    let starts = starts_pending p rise same in
    let pending : is_pending u ≡ true = ap is_none none in
    is_released (past_prepared p u) (unreleased_prepared p u (omega (arith, ints, next)) rise) (prepared_starts p.unreleased u starts pending)
    (released_to_there p same ∙ sym (prepared_free p.unreleased u p.last starts pending next))

-- a compaction leaves them as they are
pub compacted_released : (p : Past) (first : Option ℤ) (to : ℤ) → IsReleased p → IsReleased (past_compacted p first to)
compacted_released p first to same = ap (λ (q : Past). record q { floor = floor_after p first to }) same

-- and where the clock goes on, nobody is told anything
pub nobody_told : (p : Past) (now : ℤ) → UnreleasedRise p → IsReleased p → committed_out (past_advanced p now) ≡ []
nobody_told p now rise same =
    let q = past_advanced p now in
    ap (map as_committed) (none_goes q.unreleased q.released q.last (unreleased_advanced p now rise) (starts_pending p rise same)).0
