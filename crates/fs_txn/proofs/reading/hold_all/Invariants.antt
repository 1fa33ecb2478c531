use Rattle.std.proofs.Common.{◌≡◌, take}
use Rattle.fs_txn.specs.Kept.{without_lasts}
use Rattle.fs_txn.proofs.Several.{HoldsMore}
use Rattle.fs_txn.proofs.reading.hold_all.Given as goal

-- what is held for the reads so far is what comes back where so many are taken back
abbrev pub invariant-loop-count : goal.invariant-loop-count
invariant-loop-count l = record {
  more : HoldsMore l.initial.holds.shared l.holds.shared l.id (take l.count l.reads);
  back : without_lasts l.count l.holds.shared l.id ≡ l.initial.holds.shared;
}
