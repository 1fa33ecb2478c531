-- The JSON of a mask: the field paths that an update changes, or a read shows. (v1 reference, "DocumentMask".)
use Rattle.std.specs.Prelude.{ℕ, List, [], ◌∷◌, map, Result, codes}
use Rattle.fs_path.specs.declared.field.FieldPath.{FieldPath}
use Rattle.serde_json.specs.Data as json
use Rattle.serde_json.specs.View.{items_of}
use Rattle.fs_json.specs.Answer.{◌>>=◌}
use Rattle.fs_json.specs.Members.{member_or, only_at}
use Rattle.fs_json.specs.Paths.{field_path_at, path_json}
use Rattle.fs_json.specs.declared.bad.Bad.{Bad}
use Rattle.fs_json.specs.Walk.{all_at}

-- ---- reading

abbrev pub mask_members : List (List ℕ)
mask_members = codes "fieldPaths" ∷ []

-- the field paths of a mask, which has none where the list is absent
abbrev pub paths_in : json.Data → List ℕ → Result (List FieldPath) Bad
paths_in d place = member_or [] (all_at field_path_at) (codes "fieldPaths") d place

-- an object with no other member than those
abbrev pub mask_at : json.Data → List ℕ → Result (List FieldPath) Bad
mask_at d place = only_at mask_members d place >>= λ _. paths_in d place

-- ---- writing

abbrev pub paths_json : List FieldPath → json.Items
paths_json ps = items_of (map path_json ps)

-- a list without paths is left out
abbrev pub paths_member : List FieldPath → json.Members
paths_member [] = json.no_members
paths_member (p ∷ ps) = json.member (codes "fieldPaths") (json.array (paths_json (p ∷ ps))) json.no_members

abbrev pub mask_json : List FieldPath → json.Data
mask_json ps = json.object (paths_member ps)
