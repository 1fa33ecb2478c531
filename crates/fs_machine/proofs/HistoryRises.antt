-- The times of the history rise still, up to what is released: only a release adds to it.
use Rattle.std.proofs.Common.{◌≡◌, ℤ, ◌<ℤ◌, ◌≤ℤ◌, Bool, true, false, cond, List, [], ◌∷◌, refl, arith}
use Rattle.std.specs.List.{filter}
use Rattle.std.proofs.lemmas.Int.{ints}
use Rattle.fs_history.specs.History.{EndsBefore, EndsBy, IsRising}
use Rattle.fs_history.specs.declared.batch.Batch.{Batch}
use Rattle.fs_machine.specs.Past.{Past}
use Rattle.fs_machine.specs.declared.unreleased.Unreleased.{Unreleased}
use Rattle.fs_machine.specs.Release.{free_to, is_freed, joined, past_released}
use Rattle.fs_machine.specs.UnreleasedRise.{RiseFrom, UnreleasedRise}
use Rattle.fs_machine.proofs.UnreleasedRise.{free_above}
use Rattle.fs_machine.specs.HistoryRises.{RisesUpTo, HistoryRises}

ends_later : (h : List Batch) (s t : ℤ) → s ≤ℤ t → EndsBy h s → EndsBy h t
ends_later [] s t within ends = tt
ends_later (b ∷ h) s t within ends = omega (arith, ints)

pub ends_before : (h : List Batch) (s t : ℤ) → s <ℤ t → EndsBy h s → EndsBefore h t
ends_before [] s t within ends = tt
ends_before (b ∷ h) s t within ends = omega (arith, ints)

freed_by : (to : ℤ) (u : Unreleased) → is_freed to u ≡ true → u.batch.time ≤ℤ to
freed_by to u is = grind (arith, ints)

-- what the rest does, whatever history it is joined to
abbrev JoinsWell : ℤ → ℤ → ℤ → List Unreleased → Type 0
JoinsWell from last to us = (h : List Batch) → IsRising h → EndsBy h from → EndsBy h to → RisesUpTo (joined h (filter (is_freed to) us)) to

joined_next : (u : Unreleased) (us : List Unreleased) (h : List Batch) (from last to : ℤ) (b : Bool) → is_freed to u ≡ b → IsRising h → EndsBy h from → EndsBy h to → (from <ℤ u.batch.time)
    → JoinsWell u.batch.time last to us → RisesUpTo (joined h (cond b (u ∷ filter (is_freed to) us) (filter (is_freed to) us))) to
joined_next u us h from last to true is rising ends within first more =
    let here : u.batch.time ≤ℤ u.batch.time = omega (arith, ints) in
    more (u.batch ∷ h) (ends_before h from u.batch.time first ends, rising) here (freed_by to u is)
joined_next u us h from last to false is rising ends within first more =
    let after : from ≤ℤ u.batch.time = omega (arith, ints) in
    more h rising (ends_later h from u.batch.time after ends) within

pub joined_rises : (us : List Unreleased) (from last to : ℤ) → RiseFrom from last us → JoinsWell from last to us
joined_rises [] from last to above h rising ends within = record { rising = rising; ends = within }
joined_rises (u ∷ us) from last to above h rising ends within = joined_next u us h from last to (is_freed to u) refl rising ends within above.0 (joined_rises us u.batch.time last to above.1)

pub history_released : (p : Past) → HistoryRises p → UnreleasedRise p → HistoryRises (past_released p)
history_released p rises above =
    let to = free_to p.last p.unreleased in
    joined_rises p.unreleased p.released p.last to above p.history rises.rising rises.ends (ends_later p.history p.released to (free_above p.unreleased p.released p.last above) rises.ends)
