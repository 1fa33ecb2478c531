-- What a release brings: commits, each later than what was released, which make the history before it the one behind it.
use Rattle.std.specs.Prelude.{◌<ℤ◌, ◌≤ℤ◌, List, []}
use Rattle.std.specs.List.{AllByRecursion}
use Rattle.fs_write.specs.declared.timed_change.TimedChange.{TimedChange}
use Rattle.fs_history.specs.Brings.{Brings}
use Rattle.fs_history.specs.declared.batch.Batch.{Batch}
use Rattle.fs_machine.specs.Past.{Past}

-- all of a history was brought by commits
abbrev pub IsBrought : List Batch → Type 0
IsBrought h = (commits : List TimedChange) × Brings [] commits h

pub record BringsMore (old new : Past) : Type 0 where
  pub commits : List TimedChange
  pub brought : Brings old.history commits new.history
  pub later : AllByRecursion (λ (c : TimedChange). old.released <ℤ c.time) commits
  pub released : old.released ≤ℤ new.released
