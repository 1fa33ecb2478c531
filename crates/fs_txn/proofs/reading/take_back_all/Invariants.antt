use Rattle.std.proofs.Common.{◌≡◌}
use Rattle.fs_txn.specs.Kept.{without_lasts}
use Rattle.fs_txn.proofs.reading.take_back_all.Given as goal

-- so many are taken back
abbrev pub invariant-loop-done : goal.invariant-loop-done
invariant-loop-done l = l.holds.shared ≡ without_lasts l._done l.initial.holds.shared l.id
