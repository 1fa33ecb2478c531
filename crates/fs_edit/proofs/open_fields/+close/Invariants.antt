use Rattle.std.proofs.Common.{◌≡◌, ◌++◌, map}
use Rattle.fs_value.specs.View.{field_view}
use Rattle.fs_edit.specs.OpenView.{entry_view}
use Rattle.fs_edit.proofs.open_fields.+close.Given as goal

-- those that are closed, and then those that are left, are the whole
abbrev pub invariant-OpenFields::close-loop-key : goal.invariant-OpenFields::close-loop-key
invariant-OpenFields::close-loop-key l = map field_view l.items.items ++ map entry_view l.key-iterator ≡ map entry_view l.initial.key-iterator
