-- The fields of a document that filters and orders speak of: a field path leads to one, and the path `__name__` to the
-- document's name, as a reference. (Cloud Firestore documentation, "Query operators": "Sort and filter on document ID".)
use Rattle.std.specs.Prelude.{ℕ, Bool, List, [], ◌∷◌, Option, Some, codes, if◌then◌else◌}
use Rattle.std.proofs.Common.{lit<}
use Rattle.fs_path.specs.TextOrder.{ids_eq}
use Rattle.fs_path.specs.declared.field.FieldPath.{FieldPath}
use Rattle.fs_value.specs.Data.{Data, reference}
use Rattle.fs_value.specs.FieldPaths.{get_fields}
use Rattle.fs_value.specs.declared.document.Document.{Document}

abbrev pub name_parts : List (List ℕ)
name_parts = codes "__name__" ∷ []

abbrev pub name_path : FieldPath
name_path = record { parts = name_parts; some = lit< tt }

-- it is `__name__`
abbrev pub is_name : FieldPath → Bool
is_name p = ids_eq p.parts name_parts

-- the value at a path of a document, or none: the field is absent
abbrev pub value_at : FieldPath → Document → Option Data
value_at p d = if is_name p then Some (reference d.name) else get_fields p.parts d.fields
