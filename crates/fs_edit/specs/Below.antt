-- Only private clauses cite this: the value at the rest of a path, from a value on the way.
use Rattle.std.specs.Prelude.{ℕ, List, [], ◌∷◌, Option, Some}
use Rattle.fs_value.specs.Data.{Data}
use Rattle.fs_value.specs.FieldPaths.{fields_below, get_fields}

-- the value itself where no name is left
abbrev pub value_below : List (List ℕ) → Data → Option Data
value_below [] d = Some d
value_below (k ∷ ks) d = get_fields (k ∷ ks) (fields_below (Some d))
