use Rattle.std.proofs.Common.{◌≡◌, ◌-◌, ◌≤◌, ◌++◌, drop, take, string_bytes}
use Rattle.std.specs.Str.{IsCharBoundary}
use Rattle.fs_path.specs.FieldReader.{field_from, read_of}
use Rattle.fs_path.proofs.field.read_names.Given as goal

-- what is read and what is left make the whole
abbrev pub invariant-loop-at : goal.invariant-loop-at
invariant-loop-at l = record {
  rest : field_from (record { stage = l.stage; names = l.names; name = string_bytes l.name ++ take (l.at - l.from) (drop l.from l.text) }) l.at (drop l.at l.text) ≡ read_of l.text;
  from : l.from ≤ l.at;
  cut : IsCharBoundary l.text l.from;
}
