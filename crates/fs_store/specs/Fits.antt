-- Which releases a store takes: those that begin where the last one ended, and whose commits go on from what is in it.
--
--     a store with c/a {n: 1}, absorbed 8       a release from 8 to 12: at 9 c/a from {n: 1} to {n: 2}, at 11 c/a deleted    fits
--     one from 7 or from 9                                                                                                doesn't
--     one with a commit at 8 or at 13, or at 11 before 9                                                                  doesn't
--     one that changes c/a from {n: 5}, or from none                                                                      doesn't
use Rattle.std.specs.Prelude.{◌≡◌, ℤ, ◌<ℤ◌, ◌≤ℤ◌, ⊤, IsTrue, List, [], ◌∷◌}
use Rattle.std.specs.FinMap.{is_sorted}
use Rattle.std.specs.List.{All}
use Rattle.fs_path.specs.NameOrder.{name_cmp}
use Rattle.fs_write.specs.Batch.{IsNamed, changes_by_name}
use Rattle.fs_write.specs.declared.change.Change.{Change}
use Rattle.fs_write.specs.declared.timed_change.TimedChange.{TimedChange}
use Rattle.fs_versions.specs.Chain.{last_document}
use Rattle.fs_versions.specs.Chains.{Chains, chain_of, installed}
use Rattle.fs_store.specs.Stored.{Stored}
use Rattle.fs_store.specs.declared.release.Release.{Release}

-- a change begins with the newest document of its name, and its documents bear that name
pub record IsNext (v : Chains) (c : Change) : Type 0 where
  pub named : IsNamed c
  pub before : c.before ≡ last_document (chain_of v c.name)

-- the changes of a commit: in the order of their names, each the next of its name
pub record AreAllNext (v : Chains) (changes : List Change) : Type 0 where
  pub rise : IsTrue (is_sorted name_cmp (changes_by_name changes))
  pub next : All (IsNext v) changes

-- those of commits, each on what those before it leave
abbrev pub AreNext : Chains → List TimedChange → Type 0
AreNext v [] = ⊤
AreNext v (c ∷ cs) = AreAllNext v c.changes × AreNext (installed v c.changes c.time) cs

-- the commits' times are above a time, each above the one before it, and the last is at most another
abbrev pub TimesRise : ℤ → ℤ → List TimedChange → Type 0
TimesRise from to [] = from ≤ℤ to
TimesRise from to (c ∷ cs) = (from <ℤ c.time) × TimesRise c.time to cs

pub record Fits (s : Stored) (release : Release) : Type 0 where
  pub begins : release.from ≡ s.absorbed
  pub times : TimesRise release.from release.to release.changes
  pub next : AreNext s.chains release.changes
