use Rattle.std.proofs.Common.{◌≡◌, ◌++◌, map, length}
use Rattle.std.specs.Vec.Iter.{into_iter_items, into_iter_len}
use Rattle.fs_value.specs.View.{field_view}
use Rattle.fs_edit.proofs.open_fields.OpenFields.open.Given as goal

-- those that are opened, and then those that are left, are the whole
abbrev pub invariant-loop-key : goal.invariant-loop-key
invariant-loop-key l = record {
  moved : l.opened ++ map field_view (into_iter_items l.key-iterator) ≡ map field_view (into_iter_items l.initial.key-iterator);
  left : into_iter_len l.key-iterator ≡ length (into_iter_items l.key-iterator);
}
