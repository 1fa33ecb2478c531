-- A store holds together: its times are in order, and its documents bear their names.
use Rattle.std.proofs.Common.{◌≡◌, ℤ, ◌≤ℤ◌, ◌<ℤ◌, true, cond, List, [], ◌∷◌, ◌++◌, refl, sym, ap, ◌∙◌, subst, arith}
use Rattle.std.specs.Prelude.{int_lt}
use Rattle.std.proofs.lemmas.Int.{ints}
use Rattle.std.specs.FinMap.{empty}
use Rattle.std.specs.Int.Signed.{≤ℤ_refl}
use Rattle.fs_time.proofs.Tests.{through}
use Rattle.fs_history.specs.declared.batch.Batch.{Batch}
use Rattle.fs_versions.specs.Chains.{Chains, Compacts}
use Rattle.fs_versions.specs.Shows.{Shows as VersionsShow}
use Rattle.fs_write.specs.declared.timed_change.TimedChange.{TimedChange}
use Rattle.fs_history.specs.Brings.{Brings, after}
use Rattle.fs_history.proofs.Brought.{brings-append}
use Rattle.fs_path.specs.Scope.{AreShards}
use Rattle.fs_store.specs.Logs.{with_all_noted}
use Rattle.fs_store.specs.Noted.{all_noted}
use Rattle.fs_store.specs.Stored.{Stored, all_installed, absorbed}
use Rattle.fs_store.specs.Fits.{Fits, TimesRise}
use Rattle.fs_store.specs.Shows.{AreOf, Shows}
use Rattle.fs_store.specs.Held.{IsHeld, CanInstall}
use Rattle.fs_store.specs.declared.release.Release.{Release}
use Rattle.fs_store.proofs.Absorbing.{from_to, floor_all, last_by, ends_by, can_install}
use Rattle.fs_store.proofs.Logging.{are_more}
use Rattle.fs_store.proofs.Named.{named_all, named_cut, named_empty}

pub held_empty : (v : Chains) (floor : ℤ) → v.by_name ≡ empty → v.floor ≡ floor → v.last ≡ floor → IsHeld v floor
held_empty v floor none first last = record {
  floor = subst (λ t. t ≤ℤ floor) (sym first) (≤ℤ_refl floor);
  last = subst (λ t. t ≤ℤ floor) (sym last) (≤ℤ_refl floor);
  named = named_empty v none;
}

pub held_cut : (old new : Chains) (floor time : ℤ) → IsHeld old time → Compacts old new floor → floor ≤ℤ time → IsHeld new time
held_cut old new floor time held done by = record {
  floor = subst (λ t. t ≤ℤ time) (sym done.to) by;
  last = subst (λ t. t ≤ℤ time) (sym done.last) held.last;
  named = named_cut old new floor done held.named;
}

-- commits whose times rise from a floor on are all behind it
late : (floor from u : ℤ) → floor ≤ℤ from → from <ℤ u → int_lt floor u ≡ true
late floor from u low above = grind (arith, ints)

next_low : (floor from u : ℤ) → floor ≤ℤ from → from <ℤ u → floor ≤ℤ u
next_low floor from u low above = omega (arith, ints)

all_after : (floor from to : ℤ) (cs : List TimedChange) → floor ≤ℤ from → TimesRise from to cs → after floor cs ≡ cs
all_after floor from to [] low rise = refl
all_after floor from to (c ∷ cs) low rise =
    ap (λ b. cond b (c ∷ after floor cs) (after floor cs)) (late floor from c.time low rise.0)
    ∙ ap (λ ds. c ∷ ds) (all_after floor c.time to cs (next_low floor from c.time low rise.0) rise.1)

module _ (s : Stored) (release : Release) (held : IsHeld s.chains s.absorbed) (fits : Fits s release) where
  from : (t : ℤ) → t ≤ℤ s.absorbed → t ≤ℤ release.from
  from t by = subst (λ u. t ≤ℤ u) (sym fits.begins) by

  pub can_absorb : CanInstall s.chains release.changes
  can_absorb =
      can_install s.chains release.from release.to release.changes (from s.chains.floor held.floor) (from s.chains.last held.last) fits.times fits.next

  last_to : (all_installed s.chains release.changes).last ≤ℤ release.to
  last_to = last_by s.chains release.from release.to release.changes (from s.chains.last held.last) fits.times

  pub held_absorbed : IsHeld (all_installed s.chains release.changes) release.to
  held_absorbed = record {
    floor = subst (λ t. t ≤ℤ release.to) (sym (floor_all s.chains release.changes))
        (through s.chains.floor release.from release.to (from s.chains.floor held.floor) (from_to release.from release.to release.changes fits.times));
    last = last_to;
    named = named_all s.chains release.changes fits.next held.named;
  }

  -- a history that is shown, with the release's commits
  pub shows_absorbed : (h k : List Batch) → AreShards s.shards → Shows h s → Brings h release.changes k → VersionsShow k (all_installed s.chains release.changes) → Shows k (absorbed s release)
  shows_absorbed h k are shows brings versions = record {
    versions = versions;
    ends = ends_by k (all_installed s.chains release.changes).last release.to versions.last last_to;
    commits = shows.commits ++ release.changes;
    brought = brings-append [] shows.commits h release.changes k shows.brought brings;
    logs = subst (λ t. AreOf s.shards t (shows.commits ++ release.changes) (with_all_noted s.shards s.logs (all_noted release.changes)))
        (sym (floor_all s.chains release.changes))
        (are_more s.shards s.chains.floor shows.commits release.changes s.logs are (all_after s.chains.floor release.from release.to release.changes (from s.chains.floor held.floor) fits.times) shows.logs);
  }
