-- Only private clauses cite this: the value that a change makes of a field, from the value that is there or none.
use Rattle.std.specs.Prelude.{ℕ, List, [], ◌∷◌, Option}
use Rattle.fs_value.specs.Data.{Data, array, items_of}
use Rattle.fs_value.specs.FieldPaths.{map_of, fields_below, get_fields, set_fields}
use Rattle.fs_value.specs.View.{view}
use Rattle.fs_edit.specs.Arrays.{elements_in}
use Rattle.fs_edit.specs.ArrayChanges.{elements_after}
use Rattle.fs_edit.specs.declared.field_change.FieldChange.{FieldChange}
use Rattle.fs_edit.specs.declared.field_change.FieldChange.TheVariants.{Set, Elements}

abbrev pub value_made : FieldChange → Option Data → Data
value_made (Set v) there = view v
value_made (Elements c) there = array (items_of (elements_after c (elements_in there)))

-- the same at the rest of a path: the value itself where no name is left, and else a map
abbrev pub value_changed : List (List ℕ) → FieldChange → Option Data → Data
value_changed [] c there = value_made c there
value_changed (k ∷ ks) c there = map_of (set_fields (k ∷ ks) (value_made c (get_fields (k ∷ ks) (fields_below there))) (fields_below there))
