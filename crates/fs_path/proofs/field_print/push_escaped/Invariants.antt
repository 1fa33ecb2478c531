use Rattle.std.proofs.Common.{◌≡◌, ◌-◌, ◌≤◌, ◌++◌, drop, take, string_bytes}
use Rattle.std.specs.List.{flat_map}
use Rattle.std.specs.Str.{IsCharBoundary}
use Rattle.fs_path.specs.Field.{escaped}
use Rattle.fs_path.proofs.field_print.push_escaped.Given as goal

-- what is written, and the name from there on, are the name so far
abbrev pub invariant-loop-at : goal.invariant-loop-at
invariant-loop-at l = record {
  so_far : string_bytes l.text ++ take (l.at - l.from) (drop l.from l.name) ≡ string_bytes l.fn.text ++ flat_map escaped (take l.at l.name);
  from : l.from ≤ l.at;
  cut : IsCharBoundary l.name l.from;
}
