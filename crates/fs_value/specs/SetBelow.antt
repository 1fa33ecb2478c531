-- Only private clauses cite this: what a value becomes, or none, when one is set at the rest of a path.
use Rattle.std.specs.Prelude.{ℕ, List, [], ◌∷◌, Option}
use Rattle.fs_value.specs.Data.{Data}
use Rattle.fs_value.specs.FieldPaths.{map_of, fields_below, set_fields}

-- the value itself where no name is left, and else a map
abbrev pub set_below : List (List ℕ) → Data → Option Data → Data
set_below [] v there = v
set_below (k ∷ ks) v there = map_of (set_fields (k ∷ ks) v (fields_below there))
