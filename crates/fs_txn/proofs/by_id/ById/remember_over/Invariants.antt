use Rattle.std.proofs.Common.{◌≡◌, ◌+◌, ◌≤◌, ◌++◌, length, map}
use Rattle.std.specs.Vec.{vec_len, vec_capacity}
use Rattle.fs_txn.specs.Expiry.{gone, over}
use Rattle.fs_txn.specs.Kept.{txns}
use Rattle.fs_txn.proofs.by_id.ById.remember_over.Given as goal

-- what is remembered, and then those of the rest that expire, is the whole
abbrev pub invariant-loop-txn : goal.invariant-loop-txn
invariant-loop-txn l = record {
  items : l.expired.items ++ map (gone l.now) (over l.now (txns l.txn-iterator)) ≡ l.initial.expired.items ++ map (gone l.now) (over l.now (txns l.initial.txn-iterator));
  len : vec_len l.expired + length (over l.now (txns l.txn-iterator)) ≡ vec_len l.initial.expired + length (over l.now (txns l.initial.txn-iterator));
  room : length l.txn-iterator + vec_len l.expired ≤ vec_capacity l.expired;
  capacity : vec_capacity l.expired ≡ vec_capacity l.initial.expired;
}
