use Rattle.std.proofs.Common.{◌≡◌, ◌+◌, ◌<◌, ◌^◌}
use Rattle.fs_txn.specs.Expiry.{over}
use Rattle.fs_txn.specs.Kept.{txns}
use Rattle.fs_txn.specs.Reading.{shown_to_all}
use Rattle.fs_txn.proofs.by_id.ById.shown_over.Given as goal

-- what is counted, and what those of the rest were shown, is the whole
abbrev pub invariant-loop-txn : goal.invariant-loop-txn
invariant-loop-txn l =
    (l.bytes + shown_to_all (over l.now (txns l.txn-iterator)) ≡ shown_to_all (over l.now (txns l.initial.txn-iterator)))
    × (shown_to_all (over l.now (txns l.initial.txn-iterator)) < 2 ^ 128)
