use Rattle.std.proofs.Common.{◌≡◌, take}
use Rattle.fs_store.specs.Room.{change_count}
use Rattle.fs_store.proofs.absorb.count_changes.Given as goal

-- those so far are counted
abbrev pub invariant-loop-commit : goal.invariant-loop-commit
invariant-loop-commit l = l.count ≡ change_count (take l.commit-index l.commits)
