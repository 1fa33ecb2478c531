use Rattle.std.proofs.Common.{◌≡◌, length, take}
use Rattle.std.specs.List.{sum_by}
use Rattle.fs_past.proofs.release.count_of.Given as goal

-- those so far are counted
abbrev pub invariant-loop-commit : goal.invariant-loop-commit
invariant-loop-commit l = l.count ≡ sum_by (λ r. length r.1.now.change.changes) (take l.commit-index l.ready)
