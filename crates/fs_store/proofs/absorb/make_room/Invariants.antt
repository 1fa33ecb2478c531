use Rattle.std.proofs.Common.{◌≡◌, length, take}
use Rattle.std.specs.List.{All}
use Rattle.fs_versions.specs.Room.{HasRoom}
use Rattle.fs_store.proofs.absorb.make_room.Given as goal

-- there is room for those so far
abbrev pub invariant-loop-commit : goal.invariant-loop-commit
invariant-loop-commit l =
    record {
      same : l.versions.chains ≡ l.initial.versions.chains;
      room : All (λ c. HasRoom l.versions.room (length l.commits) c.changes) (take l.commit-index l.commits);
    }
