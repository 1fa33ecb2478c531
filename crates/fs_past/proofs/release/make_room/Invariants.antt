use Rattle.std.proofs.Common.{◌≡◌, take}
use Rattle.std.specs.List.{All}
use Rattle.fs_versions.specs.Room.{HasRoom}
use Rattle.fs_past.proofs.release.make_room.Given as goal

-- there is room for those so far
abbrev pub invariant-loop-commit : goal.invariant-loop-commit
invariant-loop-commit l =
    record {
      same : l.store.stored ≡ l.initial.store.stored;
      room : All (λ r. HasRoom l.store.room 1 r.1.now.change.changes) (take l.commit-index l.commit-items);
    }
