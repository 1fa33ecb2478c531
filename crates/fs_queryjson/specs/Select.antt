-- The JSON of what is kept of each document. Whole documents are, where no fields are given. The path `__name__` is no
-- field's, so it alone keeps no field. (v1 reference, "StructuredQuery.Projection".)
--
--     absent, {}, {"fields":[]}                 all fields
--     {"fields":[{"fieldPath":"__name__"}]}     no field
--     {"fields":[{"fieldPath":"a"}]}            the field a
use Rattle.std.specs.Prelude.{ℕ, List, [], ◌∷◌, map, Option, Some, None, Result, codes}
use Rattle.fs_path.specs.declared.field.FieldPath.{FieldPath}
use Rattle.serde_json.specs.Data as json
use Rattle.serde_json.specs.View.{items_of}
use Rattle.fs_json.specs.Answer.{◌>>=◌, made}
use Rattle.fs_json.specs.Members.{only_at, with_one, member_or}
use Rattle.fs_json.specs.Walk.{all_at}
use Rattle.fs_json.specs.declared.bad.Bad.{Bad}
use Rattle.fs_query.specs.Field.{name_path}
use Rattle.fs_queryjson.specs.Field.{field_at, field_json}

abbrev pub select_members : List (List ℕ)
select_members = codes "fields" ∷ []

abbrev pub fields_at : json.Data → List ℕ → Result (List FieldPath) Bad
fields_at d place = all_at field_at d place

abbrev pub fields_in : json.Data → List ℕ → Result (List FieldPath) Bad
fields_in d place = member_or [] fields_at (codes "fields") d place

-- an empty list selects all
abbrev pub selection_of : List FieldPath → Option (List FieldPath)
selection_of [] = None
selection_of (p ∷ ps) = Some (p ∷ ps)

abbrev pub select_at : json.Data → List ℕ → Result (Option (List FieldPath)) Bad
select_at d place = only_at select_members d place >>= λ _. made selection_of (fields_in d place)

abbrev pub select_in : json.Data → List ℕ → Result (Option (List FieldPath)) Bad
select_in d place = member_or None select_at (codes "select") d place

-- ---- writing

-- an empty selection keeps no field
abbrev pub written_paths : List FieldPath → List FieldPath
written_paths [] = name_path ∷ []
written_paths (p ∷ ps) = p ∷ ps

abbrev pub fields_json : List FieldPath → json.Items
fields_json ps = items_of (map field_json ps)

abbrev pub select_json : List FieldPath → json.Data
select_json ps = with_one (codes "fields") (json.array (fields_json (written_paths ps)))
