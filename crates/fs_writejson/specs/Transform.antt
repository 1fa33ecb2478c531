-- The JSON of transforms. (v1 reference, "DocumentTransform.FieldTransform".)
use Rattle.std.specs.Prelude.{ℕ, ℤ, pos, Bool, true, false, List, [], ◌∷◌, map, Option, Some, None, Result, Ok, codes, if◌then◌else◌}
use Rattle.std.specs.List.{list_all}
use Rattle.std.specs.Option.{option_map_or}
use Rattle.std.specs.Str.{bytes_eq}
use Rattle.fs_path.specs.Place.{member_place}
use Rattle.fs_path.specs.declared.place.Rule.TheVariants.{G}
use Rattle.serde_json.specs.Data as json
use Rattle.serde_json.specs.View.{items_of}
use Rattle.fs_value.specs.Data.{Data, integer}
use Rattle.fs_json.specs.Answer.{or_fault, ◌>>=◌, made}
use Rattle.fs_json.specs.Members.{member_at, one_of_at, only_at, required_at}
use Rattle.fs_json.specs.Paths.{field_path_at, path_json}
use Rattle.fs_json.specs.declared.bad.Bad.{Bad}
use Rattle.fs_valjson.specs.Reading.{array_at, value_at}
use Rattle.fs_valjson.specs.Writing.{array_json, value_json}
use Rattle.fs_write.specs.declared.transform.Operation.{Operation}
use Rattle.fs_write.specs.declared.transform.Operation.TheVariants.{RequestTime, Increment, Maximum, Minimum, AppendMissing, RemoveAll}
use Rattle.fs_write.specs.declared.transform.Transform.{Transform}
use Rattle.fs_json.specs.Walk.{all_at}

-- the operations of which a transform has just one
abbrev pub operations : List (List ℕ)
operations = codes "setToServerValue" ∷ codes "increment" ∷ codes "maximum" ∷ codes "minimum" ∷ codes "appendMissingElements" ∷ codes "removeAllFromArray" ∷ []

abbrev pub transform_members : List (List ℕ)
transform_members = codes "fieldPath" ∷ operations

-- ---- reading: an operation or a transform, and whether it is given an integer where it wants one

-- the one value that the server sets is the time of the request
abbrev pub server_value : json.Data → Option Operation
server_value (json.string s) = if bytes_eq s (codes "REQUEST_TIME") then Some RequestTime else None
server_value _ = None

-- an operation on a number
abbrev pub on_number : List ℕ → ℤ → Operation
on_number name n =
    if bytes_eq name (codes "increment") then Increment n
    else if bytes_eq name (codes "maximum") then Maximum n
    else Minimum n

-- with 0 where the operand is no integer
abbrev pub number_of : List ℕ → Data → Operation × Bool
number_of name (integer n) = (on_number name n, true)
number_of name _ = (on_number name (pos 0), false)

unfoldable pub operation_at : List ℕ → json.Data → List ℕ → Result (Operation × Bool) Bad
operation_at name d place =
    if bytes_eq name (codes "setToServerValue") then made (λ o. (o, true)) (or_fault G place (server_value d))
    else if bytes_eq name (codes "appendMissingElements") then made (λ ds. (AppendMissing ds, true)) (array_at d place)
    else if bytes_eq name (codes "removeAllFromArray") then made (λ ds. (RemoveAll ds, true)) (array_at d place)
    else made (number_of name) (value_at d place)

-- the one operation that is there
abbrev pub operation_in : json.Data → List ℕ → Result (Operation × Bool) Bad
operation_in d place = one_of_at operations d place >>= λ one. operation_at one.0 one.1 (member_place place one.0)

-- the path comes before the operation
unfoldable pub transform_at : json.Data → List ℕ → Result (Transform × Bool) Bad
transform_at d place = do
  _ ← only_at transform_members d place
  text ← required_at (codes "fieldPath") d place
  path ← field_path_at text (member_place place (codes "fieldPath"))
  operation ← operation_in d place
  Ok (record { path = path; operation = operation.0 }, operation.1)

-- all of them, and whether each has an integer where it wants one
abbrev pub together : List (Transform × Bool) → List Transform × Bool
together ts = (map (λ t. t.0) ts, list_all (λ t. t.1) ts)

-- a list of transforms
unfoldable pub transforms_at : json.Data → List ℕ → Result (List Transform × Bool) Bad
transforms_at d place = made together (all_at transform_at d place)

-- the transforms of a write, which may be absent
abbrev pub transforms_in : json.Data → List ℕ → Result (List Transform × Bool) Bad
transforms_in d place = member_at (codes "updateTransforms") d place >>= λ found.
    option_map_or (λ x. transforms_at x (member_place place (codes "updateTransforms"))) found (Ok ([], true))

-- ---- writing

abbrev pub operation_name : Operation → List ℕ
operation_name RequestTime = codes "setToServerValue"
operation_name (Increment n) = codes "increment"
operation_name (Maximum n) = codes "maximum"
operation_name (Minimum n) = codes "minimum"
operation_name (AppendMissing ds) = codes "appendMissingElements"
operation_name (RemoveAll ds) = codes "removeAllFromArray"

-- what an operation is given
abbrev pub operation_json : Operation → json.Data
operation_json RequestTime = json.string (codes "REQUEST_TIME")
operation_json (Increment n) = value_json (integer n)
operation_json (Maximum n) = value_json (integer n)
operation_json (Minimum n) = value_json (integer n)
operation_json (AppendMissing ds) = array_json ds
operation_json (RemoveAll ds) = array_json ds

-- the operation is put in its place among the members, which rise
abbrev pub transform_json : Transform → json.Data
transform_json t =
    json.object (json.put (operation_name t.operation) (operation_json t.operation) (json.member (codes "fieldPath") (path_json t.path) json.no_members))

abbrev pub transforms_json : List Transform → json.Items
transforms_json ts = items_of (map transform_json ts)
