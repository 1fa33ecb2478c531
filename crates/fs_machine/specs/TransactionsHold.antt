-- Always: what an open read-write transaction has read still holds where it has to, so that it may commit. In pessimistic mode it is
-- what is released, and no commit that isn't released touches it. In optimistic mode it is what stood at the time at which the
-- transaction reads. That time can be read, also for one that only reads.
--
--     pessimistic      1 has read c/a as {n: 1}       c/a is {n: 1} as long as 1 is open
--     optimistic       1 reads at 5, and has read     c/a was {n: 1} at 5, whatever it is now
--                      c/a as {n: 1}
use Rattle.std.specs.Prelude.{◌≤ℤ◌, ◌≡◌, true, ⊤, List}
use Rattle.std.specs.List.{AllByRecursion}
use Rattle.fs_history.specs.History.{at, whole}
use Rattle.fs_history.specs.Serial.{AreShown}
use Rattle.fs_txn.specs.Transactions.{is_read_write}
use Rattle.fs_txn.specs.declared.txn.Txn.{Txn}
use Rattle.fs_write.specs.Batch.{Docs}
use Rattle.fs_machine.specs.Past.{Past, batches}
use Rattle.fs_machine.specs.ReadsHold.{Spares}
use Rattle.fs_machine.specs.declared.config.Mode.{Mode}
use Rattle.fs_machine.specs.declared.config.Mode.TheVariants.{Pessimistic, Optimistic}

-- the documents that a read-write one reads
abbrev pub docs_read : Mode → Past → Txn → Docs
docs_read Pessimistic p t = whole p.history
docs_read Optimistic p t = at p.history t.read_time

-- and whom its reads keep waiting
abbrev pub AreSparedIn : Mode → Past → Txn → Type 0
AreSparedIn Pessimistic p t = AllByRecursion (Spares t.reads) (batches p.unreleased)
AreSparedIn Optimistic p t = ⊤

abbrev pub AreReadStill : Mode → Past → Txn → Type 0
AreReadStill mode p t = AreShown (docs_read mode p t) t.reads × AreSparedIn mode p t

pub record IsOpen (mode : Mode) (p : Past) (t : Txn) : Type 0 where
  pub floor : p.floor ≤ℤ t.read_time
  pub released : t.read_time ≤ℤ p.released
  pub reads : is_read_write t.kind ≡ true → AreReadStill mode p t

abbrev pub TransactionsHold : Mode → Past → List Txn → Type 0
TransactionsHold mode p ts = AllByRecursion (IsOpen mode p) ts
