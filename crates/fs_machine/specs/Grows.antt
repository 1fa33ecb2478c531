-- What comes later goes on from what was there: the history has the same batches, and those that are new stand in front of them, each
-- later than all that was released. So what stood at a released time stands there for good.
--
--     before    history 7, 5           released 8
--     after     history 12, 9, 7, 5    released 12      the documents at 5 to 8 are the same
use Rattle.std.specs.Prelude.{◌≡◌, ℤ, ◌<ℤ◌, ◌≤ℤ◌, List, ◌++◌}
use Rattle.std.specs.List.{AllByRecursion}
use Rattle.fs_history.specs.declared.batch.Batch.{Batch}
use Rattle.fs_machine.specs.Past.{Past}

abbrev pub AreLater : ℤ → List Batch → Type 0
AreLater t bs = AllByRecursion (λ b. t <ℤ b.time) bs

pub record Grows (old new : Past) : Type 0 where
  pub released : old.released ≤ℤ new.released
  -- the batches that are new
  pub more : List Batch
  pub later : AreLater old.released more
  pub history : new.history ≡ more ++ old.history
