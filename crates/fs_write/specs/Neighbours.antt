-- Only private clauses cite this: paths in an order, of which two neighbours overlap.
use Rattle.std.specs.Prelude.{Bool, List}
use Rattle.fs_path.specs.Related.{neighbours_related}
use Rattle.fs_path.specs.declared.field.FieldPath.{FieldPath}
use Rattle.fs_write.specs.Rules.{overlap}

abbrev pub neighbours_overlap : List FieldPath → Bool
neighbours_overlap = neighbours_related overlap
