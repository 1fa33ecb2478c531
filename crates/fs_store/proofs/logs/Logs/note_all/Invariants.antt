use Rattle.std.proofs.Common.{◌≡◌, ◌+◌, ℕ, length}
use Rattle.std.specs.Vec.Iter.{into_iter_items, into_iter_len}
use Rattle.fs_store.specs.Logs.{AllBy, HavePlaces, with_all_noted}
use Rattle.fs_store.specs.Noted.{names_of, noted_names}
use Rattle.fs_store.proofs.logs.Logs.note_all.Given as goal

-- those that are still to be noted
abbrev pub invariant-loop-change : goal.invariant-loop-change
invariant-loop-change l =
    record {
      shards : l.self.shards ≡ l.initial.self.shards;
      by : AllBy l.self.logs l.time;
      noted : with_all_noted l.initial.self.shards l.self.logs (noted_names l.time l.id (names_of (into_iter_items l.change-iterator)))
          ≡ with_all_noted l.initial.self.shards l.initial.self.logs (noted_names l.time l.id (names_of (into_iter_items l.initial.change-iterator)));
      places : (n : ℕ) → HavePlaces l.initial.self.shards l.initial.self.rooms (length (into_iter_items l.initial.change-iterator) + n)
          → HavePlaces l.initial.self.shards l.self.rooms (length (into_iter_items l.change-iterator) + n);
      count : into_iter_len l.change-iterator ≡ length (into_iter_items l.change-iterator);
    }
