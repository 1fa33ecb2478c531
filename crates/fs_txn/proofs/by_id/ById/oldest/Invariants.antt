use Rattle.std.proofs.Common.{◌≡◌}
use Rattle.fs_txn.specs.Kept.{txns}
use Rattle.fs_txn.specs.Reading.{oldest}
use Rattle.fs_txn.proofs.Times.{joined}
use Rattle.fs_txn.proofs.by_id.ById.oldest.Given as goal

-- the least time so far, and that of the rest, is the least of all
abbrev pub invariant-loop-txn : goal.invariant-loop-txn
invariant-loop-txn l = joined (oldest (txns l.txn-iterator)) l.oldest ≡ oldest (txns l.initial.txn-iterator)
