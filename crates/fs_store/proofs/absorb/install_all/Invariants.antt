use Rattle.std.proofs.Common.{◌≡◌, length}
use Rattle.std.specs.Vec.Iter.{into_iter_items, into_iter_len}
use Rattle.fs_store.proofs.Absorbing.{AreLeft}
use Rattle.fs_store.proofs.Noting.{StillToNote}
use Rattle.fs_store.proofs.absorb.install_all.Given as goal

-- those that are still to go in, and to be noted
abbrev pub invariant-loop-commit : goal.invariant-loop-commit
invariant-loop-commit l =
    record {
      left : AreLeft l.initial.versions.chains l.versions.chains l.versions.room (into_iter_items l.initial.commit-iterator) (into_iter_items l.commit-iterator);
      still : StillToNote l.initial.logs.shards l.initial.logs.logs l.logs.logs l.logs.rooms l.versions.chains.last (into_iter_items l.initial.commit-iterator) (into_iter_items l.commit-iterator);
      shards : l.logs.shards ≡ l.initial.logs.shards;
      count : into_iter_len l.commit-iterator ≡ length (into_iter_items l.commit-iterator);
    }
