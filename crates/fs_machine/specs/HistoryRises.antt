-- Always: the times of the history rise, and none is later than what is released.
use Rattle.std.specs.Prelude.{ℤ, List}
use Rattle.fs_history.specs.History.{EndsBy, IsRising}
use Rattle.fs_history.specs.declared.batch.Batch.{Batch}
use Rattle.fs_machine.specs.Past.{Past}

pub record RisesUpTo (h : List Batch) (released : ℤ) : Type 0 where
  pub rising : IsRising h
  pub ends : EndsBy h released

abbrev pub HistoryRises : Past → Type 0
HistoryRises p = RisesUpTo p.history p.released
