use Rattle.std.proofs.Common.{◌≡◌, map, length}
use Rattle.std.specs.Vec.Iter.{into_iter_items, into_iter_len}
use Rattle.fs_value.specs.View.{view}
use Rattle.fs_edit.proofs.ValueSets.{Gaining}
use Rattle.fs_edit.proofs.closing.add_to.Given as goal

abbrev pub invariant-loop-value : goal.invariant-loop-value
invariant-loop-value l = record {
  gaining : Gaining l.initial.set l.set (map view (into_iter_items l.initial.value-iterator)) (map view (into_iter_items l.value-iterator));
  left : into_iter_len l.value-iterator ≡ length (into_iter_items l.value-iterator);
}
