-- A store shows a history: its versions do, no batch is later than what is in it, and the logs have what commits changed behind the floor,
-- by shard.
use Rattle.std.specs.Prelude.{◌≡◌, ℕ, ◌<◌, ℤ, List, [], length}
use Rattle.std.specs.List.{filter}
use Rattle.fs_path.specs.Scope.{in_shard, most_shards}
use Rattle.fs_write.specs.declared.timed_change.TimedChange.{TimedChange}
use Rattle.fs_history.specs.Brings.{Brings, after}
use Rattle.fs_history.specs.History.{EndsBy}
use Rattle.fs_history.specs.declared.batch.Batch.{Batch}
use Rattle.fs_versions.specs.Shows.{Shows as VersionsShow}
use Rattle.fs_store.specs.Logs.{Noticed, log_of}
use Rattle.fs_store.specs.Noted.{all_noted}
use Rattle.fs_store.specs.Stored.{Stored}

-- the logs have the changes of commits behind a floor
pub record AreOf (shards : ℕ) (floor : ℤ) (commits : List TimedChange) (logs : Noticed) : Type 0 where
  pub all : length logs ≡ most_shards
  pub each : (shard : ℕ) → shard < shards → log_of logs shard ≡ filter (λ n. in_shard shards shard n.name) (all_noted (after floor commits))

pub record Shows (h : List Batch) (s : Stored) : Type 0 where
  pub versions : VersionsShow h s.chains
  pub ends : EndsBy h s.absorbed
  pub commits : List TimedChange
  pub brought : Brings [] commits h
  pub logs : AreOf s.shards s.chains.floor commits s.logs
