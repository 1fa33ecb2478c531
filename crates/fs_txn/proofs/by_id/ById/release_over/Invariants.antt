use Rattle.std.proofs.Common.{◌≡◌, ℕ}
use Rattle.std.specs.Prelude.{◌&&◌, not}
use Rattle.fs_locks.specs.Shares.{is_shared}
use Rattle.fs_path.specs.declared.name.DocName.{DocName}
use Rattle.fs_txn.specs.Kept.{txns, is_one_over}
use Rattle.fs_txn.proofs.by_id.ById.release_over.Given as goal

-- what is held, without those of the rest that expire, is what is held at last
abbrev pub invariant-loop-id : goal.invariant-loop-id
invariant-loop-id l = (i : ℕ) (n : DocName) →
    (not (is_one_over l.now (txns l.id-iterator) i) && is_shared l.holds.shared i n) ≡ (not (is_one_over l.now (txns l.initial.id-iterator) i) && is_shared l.initial.holds.shared i n)
