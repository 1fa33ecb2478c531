use Rattle.std.proofs.Common.{◌≡◌, map, take}
use Rattle.std.specs.List.{AllByRecursion}
use Rattle.serde_json.specs.View.{view as json}
use Rattle.fs_queryjson.specs.Field.{field_json}
use Rattle.fs_json.specs.Paths.{IsPathHeld}
use Rattle.fs_queryjson.proofs.write_parts.write_items.Given as goal

-- the fields so far are written
abbrev pub invariant-loop-path : goal.invariant-loop-path
invariant-loop-path l = record {
  written : map json l.items.items ≡ map field_json (take l.path-index l.paths);
  held : AllByRecursion IsPathHeld (take l.path-index l.paths);
}
