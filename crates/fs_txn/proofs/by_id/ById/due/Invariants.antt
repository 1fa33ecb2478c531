use Rattle.std.proofs.Common.{ℤ, ◌≤ℤ◌}
use Rattle.fs_txn.specs.Kept.{IsQuiet, txns}
use Rattle.fs_txn.proofs.by_id.ById.due.Given as goal

-- where none of the rest expires before a moment, and none of those before them, none of all does
abbrev pub invariant-loop-txn : goal.invariant-loop-txn
invariant-loop-txn l = (z : ℤ) → z ≤ℤ l.due → IsQuiet z (txns l.txn-iterator) → IsQuiet z (txns l.initial.txn-iterator)
