-- Only the invariant of a store and private clauses cite this.
use Rattle.std.specs.Prelude.{ℕ, ℤ, ◌<ℤ◌, ◌≤ℤ◌, ⊤, IsTrue, List, [], ◌∷◌}
use Rattle.std.specs.FinMap.{is_sorted}
use Rattle.std.specs.List.{All}
use Rattle.fs_path.specs.NameOrder.{name_cmp}
use Rattle.fs_path.specs.declared.name.DocName.{DocName}
use Rattle.fs_write.specs.Batch.{Bears, changes_by_name}
use Rattle.fs_write.specs.declared.timed_change.TimedChange.{TimedChange}
use Rattle.fs_versions.specs.Chains.{Chains, chain_of, installed}
use Rattle.fs_path.specs.Scope.{AreShards}
use Rattle.fs_store.specs.Logs.{AllBy, Noticed}

-- each document bears the name of its chain
abbrev pub AreNamed : Chains → Type 0
AreNamed v = (name : DocName) → All (λ w. Bears w.after name) (chain_of v name)

pub record IsHeld (v : Chains) (absorbed : ℤ) : Type 0 where
  pub floor : v.floor ≤ℤ absorbed
  pub last : v.last ≤ℤ absorbed
  pub named : AreNamed v

-- there are some shards, and no change was noted behind the last version
pub record AreLogged (v : Chains) (shards : ℕ) (logs : Noticed) : Type 0 where
  pub are : AreShards shards
  pub by : AllBy logs v.last

-- the names of each commit's changes rise
abbrev pub NamesRise : List TimedChange → Type 0
NamesRise cs = All (λ c. IsTrue (is_sorted name_cmp (changes_by_name c.changes))) cs

-- commits that can be installed one after another
abbrev pub CanInstall : Chains → List TimedChange → Type 0
CanInstall v [] = ⊤
CanInstall v (c ∷ cs) =
    (v.floor <ℤ c.time) × (v.last <ℤ c.time) × IsTrue (is_sorted name_cmp (changes_by_name c.changes)) × CanInstall (installed v c.changes c.time) cs
