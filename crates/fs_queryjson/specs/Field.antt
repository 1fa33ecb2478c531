-- The JSON of a field that a query names. (v1 reference, "StructuredQuery.FieldReference".)
--
--     the field city of the map address     {"fieldPath":"address.city"}
--     the document's name                   {"fieldPath":"__name__"}
use Rattle.std.specs.Prelude.{ℕ, List, [], ◌∷◌, Result, codes}
use Rattle.fs_path.specs.Place.{member_place}
use Rattle.fs_path.specs.declared.field.FieldPath.{FieldPath}
use Rattle.serde_json.specs.Data as json
use Rattle.fs_json.specs.Answer.{◌>>=◌}
use Rattle.fs_json.specs.Members.{only_at, required_at, with_one}
use Rattle.fs_json.specs.Paths.{field_path_at, path_json}
use Rattle.fs_json.specs.declared.bad.Bad.{Bad}

abbrev pub field_members : List (List ℕ)
field_members = codes "fieldPath" ∷ []

-- an object of its path, which has to be there
abbrev pub field_at : json.Data → List ℕ → Result FieldPath Bad
field_at d place =
    only_at field_members d place >>= λ _. required_at (codes "fieldPath") d place >>= λ path. field_path_at path (member_place place (codes "fieldPath"))

-- the field of an order or a filter, which has to be there
abbrev pub field_in : json.Data → List ℕ → Result FieldPath Bad
field_in d place = required_at (codes "field") d place >>= λ field. field_at field (member_place place (codes "field"))

-- as it is written
abbrev pub field_json : FieldPath → json.Data
field_json p = with_one (codes "fieldPath") (path_json p)
