use Rattle.std.proofs.Common.{◌≤◌, take}
use Rattle.std.specs.List.{All}
use Rattle.fs_versions.specs.Sound.{NoLess, SameChains, room_in}
use Rattle.fs_versions.proofs.install.make_room.Given as goal

-- those so far have room
abbrev pub invariant-loop-change : goal.invariant-loop-change
invariant-loop-change l =
    record {
      same : SameChains l.initial.chains.entries l.chains.entries;
      kept : NoLess l.initial.chains.entries l.chains.entries;
      room : All (λ c. l.fn.more ≤ room_in c.name l.chains.entries) (take l.change-index l.changes);
    }
