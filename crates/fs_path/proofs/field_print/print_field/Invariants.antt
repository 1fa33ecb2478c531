use Rattle.std.proofs.Common.{◌≡◌, take, string_bytes}
use Rattle.fs_path.specs.Field.{field_text}
use Rattle.fs_path.proofs.field_print.print_field.Given as goal

-- the names so far are written
abbrev pub invariant-loop-i : goal.invariant-loop-i
invariant-loop-i l = string_bytes l.text ≡ field_text (take l.i l.names)
