-- Commits that go into the versions one after another.
use Rattle.std.proofs.Common.{◌≡◌, ℕ, ◌+◌, ◌≤◌, ℤ, ◌≤ℤ◌, ◌<ℤ◌, List, [], ◌∷◌, get_or, Option, Some, None, refl, sym, ap, ◌∙◌, subst, arith}
use Rattle.std.specs.Prelude.{is_some, cond}
use Rattle.std.specs.FinMap.{find}
use Rattle.std.specs.Int.Signed.{≤ℤ_refl}
use Rattle.std.proofs.lemmas.Int.{ints}
use Rattle.fs_path.specs.NameOrder.{name_cmp}
use Rattle.fs_time.proofs.Tests.{through}
use Rattle.fs_write.specs.Batch.{AreChanges, changes_by_name}
use Rattle.fs_write.specs.declared.change.Change.{Change}
use Rattle.fs_write.specs.declared.timed_change.TimedChange.{TimedChange}
use Rattle.fs_history.specs.History.{EndsBy, whole}
use Rattle.fs_history.specs.declared.batch.Batch.{Batch}
use Rattle.fs_versions.specs.Chains.{Chains, installed}
use Rattle.fs_versions.specs.Room.{HasRoom, Room, TakesRoom, room_after, room_of}
use Rattle.fs_versions.specs.Shows.{EndsAt, Shows as VersionsShow}
use Rattle.fs_versions.proofs.TreeLaws.{found_itself}
use Rattle.fs_history.specs.Brings.{Brings}
use Rattle.fs_store.specs.Stored.{all_installed}
use Rattle.fs_store.specs.Fits.{AreNext, TimesRise}
use Rattle.fs_store.specs.Held.{CanInstall}
use Rattle.fs_store.specs.Room.{HasRoomFor, times_changed}

-- ---- times

below : (a b t : ℤ) → a ≤ℤ b → b <ℤ t → a <ℤ t
below a b t first second = omega (arith, ints)

low : (a b : ℤ) → a <ℤ b → a ≤ℤ b
low a b h = omega (arith, ints)

pub from_to : (from to : ℤ) (cs : List TimedChange) → TimesRise from to cs → from ≤ℤ to
from_to from to [] rise = rise
from_to from to (c ∷ cs) rise = through from c.time to (low from c.time rise.0) (from_to c.time to cs rise.1)

pub floor_all : (v : Chains) (cs : List TimedChange) → (all_installed v cs).floor ≡ v.floor
floor_all v [] = refl
floor_all v (c ∷ cs) = floor_all (installed v c.changes c.time) cs

pub last_by : (v : Chains) (from to : ℤ) (cs : List TimedChange) → v.last ≤ℤ from → TimesRise from to cs → (all_installed v cs).last ≤ℤ to
last_by v from to [] by rise = through v.last from to by rise
last_by v from to (c ∷ cs) by rise = last_by (installed v c.changes c.time) c.time to cs (≤ℤ_refl c.time) rise.1

pub ends_by : (h : List Batch) (last to : ℤ) → EndsAt h last → last ≤ℤ to → EndsBy h to
ends_by [] last to ends by = tt
ends_by (b ∷ h) last to ends by = subst (λ t. t ≤ℤ to) (sym ends) by

-- ---- commits that fit can be installed

pub can_install : (v : Chains) (from to : ℤ) (cs : List TimedChange) → v.floor ≤ℤ from → v.last ≤ℤ from → TimesRise from to cs → AreNext v cs → CanInstall v cs
can_install v from to [] floor last rise next = tt
can_install v from to (c ∷ cs) floor last rise next = (
  below v.floor from c.time floor rise.0,
  below v.last from c.time last rise.0,
  next.0.rise,
  can_install (installed v c.changes c.time) c.time to cs (low v.floor c.time (below v.floor from c.time floor rise.0)) (≤ℤ_refl c.time) rise.1 next.1,
)

-- ---- the commits that are still to go in

pub record AreLeft (old now : Chains) (free : Room) (all rest : List TimedChange) : Type 0 where
  pub can : CanInstall now rest
  pub room : HasRoomFor free rest
  pub value : all_installed now rest ≡ all_installed old all
  -- the history that is shown, and what the others bring it
  pub shows : (h k : List Batch) → VersionsShow h old → Brings h all k → (g : List Batch) × VersionsShow g now × Brings g rest k

-- ---- there is room for the first, and for the others behind it

is_changed : (o : Option Change) (c : Change) (n : ℕ) → o ≡ Some c → 1 ≤ cond (is_some o) 1 0 + n
is_changed None c n is = absurd (cc)
is_changed (Some d) c n is = omega arith

left_of_room : (o : Option Change) (n r : ℕ) → cond (is_some o) 1 0 + n ≤ r → n ≤ room_after o r
left_of_room None n r has = omega arith
left_of_room (Some c) n r has = omega arith

module _ (old now : Chains) (free : Room) (all : List TimedChange) (c : TimedChange) (rest : List TimedChange) (left : AreLeft old now free all (c ∷ rest)) where
  pub room_first : HasRoom free 1 c.changes
  room_first k d within =
      let found = found_itself c.changes k d left.can.2 within in
      let has = left.room (get_or c.changes k d).name in
      let one = is_changed _ _ (times_changed (get_or c.changes k d).name rest) found in
      omega arith

  pub left_next : (new : Chains) (then : Room) → new ≡ installed now c.changes c.time → TakesRoom free then c.changes
      → ((g : List Batch) (b : Batch) → VersionsShow g now → b.time ≡ c.time → AreChanges (whole g) (whole (b ∷ g)) c.changes → VersionsShow (b ∷ g) new) → AreLeft old new then all rest
  left_next new then is takes shows = record {
    can = subst (λ v. CanInstall v rest) (sym is) left.can.3;
    room = λ q. subst (λ n. times_changed q rest ≤ n) (sym (takes q)) (left_of_room (find name_cmp q (changes_by_name c.changes)) (times_changed q rest) (room_of free q) (left.room q));
    value = ap (λ v. all_installed v rest) is ∙ left.value;
    shows = λ h k shown brings.
        let so = left.shows h k shown brings in
        let b = so.2.0 in
        (b ∷ so.0, shows so.0 b so.1 so.2.1.time so.2.1.changes, so.2.2);
  }
