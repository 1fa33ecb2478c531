-- What holds of each commit that isn't released, once one comes or is dropped.
use Rattle.std.proofs.Common.{ℕ, Bool, true, false, cond, List, [], ◌∷◌, ◌++◌}
use Rattle.std.specs.List.{AllByRecursion}
use Rattle.fs_history.specs.declared.batch.Batch.{Batch}
use Rattle.fs_machine.specs.Past.{batches}
use Rattle.fs_machine.specs.Settle.{dropped_from, is_it}
use Rattle.fs_machine.specs.declared.unreleased.Unreleased.{Unreleased}

-- one comes behind the others
pub all_more : (P : Batch → Type 0) (us : List Unreleased) (u : Unreleased) → AllByRecursion P (batches us) → P u.batch → AllByRecursion P (batches (us ++ u ∷ []))
all_more P [] u all is = (is, tt)
all_more P (v ∷ us) u all is = (all.0, all_more P us u all.1 is)

-- one is dropped
dropped_next : (P : Batch → Type 0) (v : Unreleased) (us : List Unreleased) (id : ℕ) (b : Bool) → P v.batch → AllByRecursion P (batches us) → AllByRecursion P (batches (dropped_from id us))
    → AllByRecursion P (batches (cond b us (v ∷ dropped_from id us)))
dropped_next P v us id true here all more = all
dropped_next P v us id false here all more = (here, more)

pub all_dropped : (P : Batch → Type 0) (us : List Unreleased) (id : ℕ) → AllByRecursion P (batches us) → AllByRecursion P (batches (dropped_from id us))
all_dropped P [] id all = tt
all_dropped P (v ∷ us) id all = dropped_next P v us id (is_it id v) all.0 all.1 (all_dropped P us id all.1)
