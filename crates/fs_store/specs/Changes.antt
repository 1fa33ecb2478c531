-- What was changed in a shard behind a time, up to another: nothing of it is told up to the floor.
use Rattle.std.specs.Prelude.{ℕ, ℤ, int_le, List, if◌then◌else◌}
use Rattle.fs_write.specs.declared.timed_change.TimedChange.{TimedChange}
use Rattle.fs_store.specs.Logged.{noted_between}
use Rattle.fs_store.specs.Logs.{log_of}
use Rattle.fs_store.specs.Stored.{Stored}
use Rattle.fs_store.specs.Told.{told}

-- the later of two times
abbrev pub later : ℤ → ℤ → ℤ
later a b = if int_le a b then b else a

abbrev pub changes_in : Stored → ℕ → ℤ → ℤ → List TimedChange
changes_in s shard from to = told s.chains (noted_between (later from s.chains.floor) to (log_of s.logs shard))
