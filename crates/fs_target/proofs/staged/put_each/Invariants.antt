use Rattle.std.proofs.Common.{◌≡◌, ◌+◌, ◌≤◌, ◌++◌, length, vec_len, vec_capacity}
use Rattle.std.specs.Prelude.{reverse}
use Rattle.std.specs.Vec.Iter.{into_iter_items, into_iter_len}
use Rattle.fs_target.specs.Room.{AreInOrder}
use Rattle.fs_target.specs.Staged.{put_events}
use Rattle.fs_target.proofs.staged.put_each.Given as goal

-- those that are still to be put, and the room for them
abbrev pub invariant-loop-event : goal.invariant-loop-event
invariant-loop-event l = record {
  put : put_events (into_iter_items l.event-iterator) (l.staged.items ++ reverse l.aside.items)
      ≡ put_events (into_iter_items l.initial.event-iterator) (l.initial.staged.items ++ reverse l.initial.aside.items);
  room : vec_len l.staged + vec_len l.aside + length (into_iter_items l.event-iterator) ≤ vec_capacity l.staged;
  order : AreInOrder (l.staged.items ++ reverse l.aside.items);
  count : into_iter_len l.event-iterator ≡ length (into_iter_items l.event-iterator);
}
