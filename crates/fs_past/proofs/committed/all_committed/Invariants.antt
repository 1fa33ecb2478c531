use Rattle.std.proofs.Common.{◌≡◌, Some, map, take}
use Rattle.fs_machine.specs.Release.{as_committed}
use Rattle.fs_past.proofs.committed.all_committed.Given as goal

-- those of the commits so far
abbrev pub invariant-loop-commit : goal.invariant-loop-commit
invariant-loop-commit l = l.all.items ≡ map (λ r. as_committed (record r.0.now { results = Some r.1.now.results })) (take l.commit-index l.commit-items)
