-- Only the invariant of a journal cites this: its batches' times rise, and their sizes are counted.
use Rattle.std.specs.Prelude.{◌≡◌, ℕ, ◌-◌, ◌^◌, min, List}
use Rattle.fs_history.specs.Bytes.{history_size}
use Rattle.fs_history.specs.History.{IsRising}
use Rattle.fs_history.specs.declared.batch.Batch.{Batch}

pub record IsKept (h : List Batch) (bytes : ℕ) : Type 0 where
  pub rising : IsRising h
  pub counted : bytes ≡ min (history_size h) (2 ^ 128 - 1)
