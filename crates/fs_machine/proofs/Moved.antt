-- What a release moves: commits go from those behind the history into it, the first of them first, up to the first that is pending.
-- So what holds of the two lists and is kept as one accepted commit moves is kept by a release.
use Rattle.std.proofs.Common.{◌≡◌, ℤ, ◌<ℤ◌, ◌≤ℤ◌, Bool, true, false, cond, List, [], ◌∷◌, ◌++◌, refl, sym, subst, arith}
use Rattle.std.specs.Prelude.{pos, ◌-ℤ◌}
use Rattle.std.proofs.lemmas.Int.{ints}
use Rattle.fs_history.specs.declared.batch.Batch.{Batch}
use Rattle.fs_machine.specs.Past.{is_pending}
use Rattle.fs_machine.specs.declared.unreleased.Unreleased.{Unreleased}
use Rattle.fs_machine.specs.Release.{free_to, freed, is_freed, joined, kept_back}
use Rattle.fs_machine.specs.UnreleasedRise.{RiseFrom}
use Rattle.fs_machine.proofs.UnreleasedRise.{free_above}

pub later_stays : (to : ℤ) (u : Unreleased) → to <ℤ u.batch.time → is_freed to u ≡ false
later_stays to u later = grind (arith, ints)

pub pending_stays : (to : ℤ) (u : Unreleased) → is_pending u ≡ true → is_freed to u ≡ false
pending_stays to u is = grind (arith)

pub accepted_goes : (to : ℤ) (u : Unreleased) → is_pending u ≡ false → u.batch.time ≤ℤ to → is_freed to u ≡ true
accepted_goes to u is within = grind (arith, ints)

pub none_freed : (us : List Unreleased) (from last to : ℤ) → RiseFrom from last us → to ≤ℤ from → (freed to us ≡ []) × (kept_back to us ≡ us)
none_freed [] from last to above within = (refl, refl)
none_freed (u ∷ us) from last to above within =
    let first = above.0 in
    let rest = none_freed us u.batch.time last to above.1 (omega (arith, ints)) in
    let stays = later_stays to u (omega (arith, ints)) in
    rw (stays, rest.0, rest.1) (refl, refl)

module _ (P : List Batch → List Unreleased → Type 0) (one : (h : List Batch) (u : Unreleased) (us : List Unreleased) → is_pending u ≡ false → P h (u ∷ us) → P (u.batch ∷ h) us) where
  moved_next : (u : Unreleased) (us : List Unreleased) (h : List Batch) (last : ℤ) (b : Bool) → is_pending u ≡ b → RiseFrom u.batch.time last us → P h (u ∷ us)
      → ((k : List Batch) → P k us → P (joined k (freed (free_to last us) us)) (kept_back (free_to last us) us))
      → (to : ℤ) → to ≡ cond b (u.batch.time -ℤ pos 1) (free_to last us) → P (joined h (freed to (u ∷ us))) (kept_back to (u ∷ us))
  moved_next u us h last true is rise has more to e =
      let none = none_freed us u.batch.time last to rise (omega (arith, ints)) in
      rw (pending_stays to u is, none.0, none.1) has
  moved_next u us h last false is rise has more to e =
      let within : u.batch.time ≤ℤ to = subst (λ t. u.batch.time ≤ℤ t) (sym e) (free_above us u.batch.time last rise) in
      rw (accepted_goes to u is within) (subst (λ t. P (joined (u.batch ∷ h) (freed t us)) (kept_back t us)) (sym e) (more (u.batch ∷ h) (one h u us is has)))

  pub moved : (us : List Unreleased) (from last : ℤ) → RiseFrom from last us → (h : List Batch) → P h us → P (joined h (freed (free_to last us) us)) (kept_back (free_to last us) us)
  moved [] from last above h has = has
  moved (u ∷ us) from last above h has = moved_next u us h last (is_pending u) refl above.1 has (moved us u.batch.time last above.1) (free_to last (u ∷ us)) refl

-- commits that are joined one behind another
pub joined_more : (xs ys : List Unreleased) (h : List Batch) → joined h (xs ++ ys) ≡ joined (joined h xs) ys
joined_more [] ys h = refl
joined_more (x ∷ xs) ys h = joined_more xs ys (x.batch ∷ h)
