-- The times of the commits that aren't released rise still, after each event.
use Rattle.std.proofs.Common.{◌≡◌, ℕ, ℤ, ◌<ℤ◌, ◌≤ℤ◌, Bool, true, false, cond, List, [], ◌∷◌, ◌++◌, refl, sym, subst, arith}
use Rattle.std.specs.Prelude.{pos, ◌-ℤ◌, not, Some, Ok, Err, Result}
use Rattle.std.specs.List.{filter}
use Rattle.std.proofs.lemmas.Int.{ints}
use Rattle.fs_status.specs.declared.refusal.Refusal.{Refusal}
use Rattle.fs_write.specs.Batch.{Docs}
use Rattle.fs_write.specs.declared.write_result.WriteResult.{WriteResult}
use Rattle.fs_machine.specs.Past.{Past, is_pending}
use Rattle.fs_machine.specs.declared.unreleased.Unreleased.{Unreleased}
use Rattle.fs_machine.specs.Commit.{past_prepared}
use Rattle.fs_machine.specs.Release.{free_to, is_freed, kept_back, past_released}
use Rattle.fs_machine.specs.Settle.{accepted_in, dropped_from, is_it, past_decided}
use Rattle.fs_machine.specs.Tick.{later, past_advanced}
use Rattle.fs_machine.specs.UnreleasedRise.{RiseFrom, UnreleasedRise}

pub rise_within : (us : List Unreleased) (from to : ℤ) → RiseFrom from to us → from ≤ℤ to
rise_within [] from to above = above
rise_within (u ∷ us) from to above = let rest = rise_within us u.batch.time to above.1 in let first = above.0 in omega (arith, ints)

rise_lower : (us : List Unreleased) (low from to : ℤ) → low ≤ℤ from → RiseFrom from to us → RiseFrom low to us
rise_lower [] low from to lower above = omega (arith, ints)
rise_lower (u ∷ us) low from to lower above = let first = above.0 in (omega (arith, ints), above.1)

rise_higher : (us : List Unreleased) (from to high : ℤ) → to ≤ℤ high → RiseFrom from to us → RiseFrom from high us
rise_higher [] from to high higher above = omega (arith, ints)
rise_higher (u ∷ us) from to high higher above = (above.0, rise_higher us u.batch.time to high higher above.1)

-- one that comes behind
rise_more : (us : List Unreleased) (u : Unreleased) (from to : ℤ) → to <ℤ u.batch.time → RiseFrom from to us → RiseFrom from u.batch.time (us ++ u ∷ [])
rise_more [] u from to after above = (omega (arith, ints), omega (arith, ints))
rise_more (v ∷ us) u from to after above = (above.0, rise_more us u v.batch.time to after above.1)

pub unreleased_prepared : (p : Past) (u : Unreleased) → p.last <ℤ u.batch.time → UnreleasedRise p → UnreleasedRise (past_prepared p u)
unreleased_prepared p u after above = rise_more p.unreleased u p.released p.last after above

accepted_next : (u : Unreleased) (us : List Unreleased) (id : ℕ) (results : List WriteResult) (from to : ℤ) (b : Bool) → (from <ℤ u.batch.time) → RiseFrom u.batch.time to us → RiseFrom u.batch.time to (accepted_in id results us)
    → RiseFrom from to (cond b (record u { results = Some results } ∷ us) (u ∷ accepted_in id results us))
accepted_next u us id results from to true first rest more = (first, rest)
accepted_next u us id results from to false first rest more = (first, more)

pub rise_accepted : (us : List Unreleased) (id : ℕ) (results : List WriteResult) (from to : ℤ) → RiseFrom from to us → RiseFrom from to (accepted_in id results us)
rise_accepted [] id results from to above = above
rise_accepted (u ∷ us) id results from to above = accepted_next u us id results from to (is_it id u) above.0 above.1 (rise_accepted us id results u.batch.time to above.1)

dropped_next : (u : Unreleased) (us : List Unreleased) (id : ℕ) (from to : ℤ) (b : Bool) → (from <ℤ u.batch.time) → RiseFrom u.batch.time to us → RiseFrom u.batch.time to (dropped_from id us)
    → RiseFrom from to (cond b us (u ∷ dropped_from id us))
dropped_next u us id from to true first rest more = rise_lower us from u.batch.time to (omega (arith, ints)) rest
dropped_next u us id from to false first rest more = (first, more)

pub rise_dropped : (us : List Unreleased) (id : ℕ) (from to : ℤ) → RiseFrom from to us → RiseFrom from to (dropped_from id us)
rise_dropped [] id from to above = above
rise_dropped (u ∷ us) id from to above = dropped_next u us id from to (is_it id u) above.0 above.1 (rise_dropped us id u.batch.time to above.1)

pub unreleased_decided : (p : Past) (u : Unreleased) (r : Result (Docs × List WriteResult) Refusal) → UnreleasedRise p → UnreleasedRise (past_decided p u r)
unreleased_decided p u (Ok done) above = rise_accepted p.unreleased u.batch.id done.1 p.released p.last above
unreleased_decided p u (Err refusal) above = rise_dropped p.unreleased u.batch.id p.released p.last above

not_before : (a b : ℤ) → a ≤ℤ later a b
not_before a b = grind (arith, ints)

pub unreleased_advanced : (p : Past) (now : ℤ) → UnreleasedRise p → UnreleasedRise (past_advanced p now)
unreleased_advanced p now above = rise_higher p.unreleased p.released p.last (later p.last now) (not_before p.last now) above

-- ---- a release goes no less far than the one before, and no farther than the commits that it leaves

free_next : (u : Unreleased) (us : List Unreleased) (from last : ℤ) (b : Bool) → (from <ℤ u.batch.time) → (u.batch.time ≤ℤ free_to last us) → from ≤ℤ cond b (u.batch.time -ℤ pos 1) (free_to last us)
free_next u us from last true first more = omega (arith, ints)
free_next u us from last false first more = omega (arith, ints)

pub free_above : (us : List Unreleased) (from last : ℤ) → RiseFrom from last us → from ≤ℤ free_to last us
free_above [] from last above = above
free_above (u ∷ us) from last above = free_next u us from last (is_pending u) above.0 (free_above us u.batch.time last above.1)

filter_next : (u : Unreleased) (us : List Unreleased) (f : Unreleased → Bool) (from to : ℤ) (b : Bool) → (from <ℤ u.batch.time) → RiseFrom u.batch.time to (filter f us)
    → RiseFrom from to (cond b (u ∷ filter f us) (filter f us))
filter_next u us f from to true first more = (first, more)
filter_next u us f from to false first more = rise_lower (filter f us) from u.batch.time to (omega (arith, ints)) more

rise_filter : (us : List Unreleased) (f : Unreleased → Bool) (from to : ℤ) → RiseFrom from to us → RiseFrom from to (filter f us)
rise_filter [] f from to above = above
rise_filter (u ∷ us) f from to above = filter_next u us f from to (f u) above.0 (rise_filter us f u.batch.time to above.1)

is_kept : (to : ℤ) (u : Unreleased) → is_pending u ≡ true → not (is_freed to u) ≡ true
is_kept to u is = grind (arith)

is_gone : (to : ℤ) (u : Unreleased) → is_pending u ≡ false → u.batch.time ≤ℤ to → not (is_freed to u) ≡ false
is_gone to u is within = grind (arith, ints)

kept_next : (u : Unreleased) (us : List Unreleased) (last : ℤ) (b : Bool) → is_pending u ≡ b → RiseFrom u.batch.time last us → RiseFrom (free_to last us) last (kept_back (free_to last us) us)
    → (to : ℤ) → to ≡ cond b (u.batch.time -ℤ pos 1) (free_to last us) → RiseFrom to last (cond (not (is_freed to u)) (u ∷ kept_back to us) (kept_back to us))
kept_next u us last true is rest more to e =
    rw (is_kept to u is) (omega (arith, ints), rise_filter us (λ v. not (is_freed to v)) u.batch.time last rest)
kept_next u us last false is rest more to e =
    let within : u.batch.time ≤ℤ to = subst (λ t. u.batch.time ≤ℤ t) (sym e) (free_above us u.batch.time last rest) in
    rw (is_gone to u is within) (subst (λ t. RiseFrom t last (kept_back t us)) (sym e) more)

rise_kept : (us : List Unreleased) (from last : ℤ) → RiseFrom from last us → RiseFrom (free_to last us) last (kept_back (free_to last us) us)
rise_kept [] from last above = omega (arith, ints)
rise_kept (u ∷ us) from last above = kept_next u us last (is_pending u) refl above.1 (rise_kept us u.batch.time last above.1) (free_to last (u ∷ us)) refl

pub unreleased_released : (p : Past) → UnreleasedRise p → UnreleasedRise (past_released p)
unreleased_released p above = rise_kept p.unreleased p.released p.last above
