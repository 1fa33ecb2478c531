-- Only private clauses cite this: the numbers of the batches later than a time that touch what was read.
use Rattle.std.specs.Prelude.{ℕ, ℤ, int_lt, Bool, ◌&&◌, List, Option, Some, None, map, if◌then◌else◌}
use Rattle.std.specs.List.{filter}
use Rattle.fs_history.specs.Touches.{some_touched}
use Rattle.fs_history.specs.declared.batch.Batch.{Batch}
use Rattle.fs_history.specs.declared.read.Read.{Read}

abbrev pub touches_since : ℤ → List Read → Batch → Bool
touches_since time rs b = int_lt time b.time && some_touched b.writes rs

abbrev pub numbers_since : ℤ → List Read → List Batch → List ℕ
numbers_since time rs bs = map (λ b. b.id) (filter (touches_since time rs) bs)

-- that of one, if it does
abbrev pub number_since : ℤ → List Read → Batch → Option ℕ
number_since time rs b = if touches_since time rs b then Some b.id else None
