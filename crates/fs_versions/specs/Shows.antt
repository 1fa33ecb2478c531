-- Versions show a history from their floor on: each name's chain is that of the history, so what is newest in it at a time
-- is the document of that time.
use Rattle.std.specs.Prelude.{◌≡◌, ℤ, ◌≤ℤ◌, ⊤, List, [], ◌∷◌}
use Rattle.std.specs.FinMap.{get}
use Rattle.fs_path.specs.declared.name.DocName.{DocName}
use Rattle.fs_history.specs.History.{at, whole, IsRising}
use Rattle.fs_history.specs.Versions.{chain}
use Rattle.fs_history.specs.declared.batch.Batch.{Batch}
use Rattle.fs_versions.specs.Chain.{shown_at, last_document}
use Rattle.fs_versions.specs.Chains.{Chains, chain_of}

-- a history ends at a time, if it has a batch
abbrev pub EndsAt : List Batch → ℤ → Type 0
EndsAt [] time = ⊤
EndsAt (b ∷ h) time = b.time ≡ time

pub record Shows (h : List Batch) (v : Chains) : Type 0 where
  pub rising : IsRising h
  pub last : EndsAt h v.last
  pub chains : (name : DocName) → chain_of v name ≡ chain h v.floor name
  pub documents : (time : ℤ) (name : DocName) → v.floor ≤ℤ time → get (at h time) name ≡ shown_at time (chain_of v name)
  pub newest : (name : DocName) → get (whole h) name ≡ last_document (chain_of v name)
