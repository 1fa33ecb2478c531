-- Which value a JSON value is, and where it is none: the first place in the walk.
-- (v1 reference, "Value", "ArrayValue" and "MapValue".)
use Rattle.std.specs.Prelude.{ℕ, ◌+◌, List, [], ◌∷◌, ◌++◌, Option, Some, None, Result, Ok, Err, codes, if◌then◌else◌}
use Rattle.std.specs.Str.{bytes_eq}
use Rattle.fs_path.specs.Place.{member_place, item_place}
use Rattle.fs_path.specs.declared.place.Rule.TheVariants.{G}
use Rattle.serde_json.specs.Data as json
use Rattle.fs_value.specs.Data.{Data, null, boolean, integer, timestamp, string, bytes, reference, array, items_of}
use Rattle.fs_value.specs.FieldPaths.{map_of}
use Rattle.fs_json.specs.Answer.{made, or_fault, ◌>>=◌}
use Rattle.fs_json.specs.Base64.{bytes_of}
use Rattle.fs_json.specs.Members.{if_chosen, only_at, the_one}
use Rattle.fs_json.specs.Paths.{reference_at}
use Rattle.fs_json.specs.Scalars.{integer_at, text_at, truth_at}
use Rattle.fs_json.specs.Time.{time_at}
use Rattle.fs_json.specs.declared.bad.Bad.{Bad}
use Rattle.fs_json.specs.declared.bad.Bad.TheVariants.{At}

-- the members of which a value has just one
abbrev pub kinds : List (List ℕ)
kinds = codes "nullValue" ∷ codes "booleanValue" ∷ codes "integerValue" ∷ codes "timestampValue" ∷ codes "stringValue" ∷ codes "bytesValue" ∷ codes "referenceValue" ∷ codes "arrayValue" ∷ codes "mapValue" ∷ []

-- the member that an array may have, and that of a map
abbrev pub array_members : List (List ℕ)
array_members = codes "values" ∷ []

abbrev pub map_members : List (List ℕ)
map_members = codes "fields" ∷ []

abbrev pub array_of : List Data → Data
array_of ds = array (items_of ds)

-- null, or the name of the one value of `google.protobuf.NullValue`
abbrev pub null_of : json.Data → Option Data
null_of json.null = Some null
null_of (json.string s) = if bytes_eq s (codes "NULL_VALUE") then Some null else None
null_of _ = None

-- the content of a member that holds no values
abbrev pub plain_at : List ℕ → json.Data → List ℕ → Result Data Bad
plain_at name d place =
    if bytes_eq name (codes "nullValue") then or_fault G place (null_of d)
    else if bytes_eq name (codes "booleanValue") then made boolean (truth_at d place)
    else if bytes_eq name (codes "integerValue") then made integer (integer_at d place)
    else if bytes_eq name (codes "timestampValue") then made timestamp (time_at d place)
    else if bytes_eq name (codes "stringValue") then made string (text_at d place)
    else if bytes_eq name (codes "bytesValue") then made bytes (or_fault G place (bytes_of d))
    else if bytes_eq name (codes "referenceValue") then made reference (reference_at d place)
    else Err (At G place)

-- the content of an array or a map: no member is there but this, and what is read of it, or nothing where it is absent
abbrev pub content_at : {A : Type 0} → List (List ℕ) → json.Data → List ℕ → List (Result (List A) Bad) → Result (List A) Bad
content_at names d place readings = only_at names d place >>= λ _. the_one place (Ok []) readings

abbrev mutual
  -- a value: an object of just one of the kinds
  pub value_at : json.Data → List ℕ → Result Data Bad
  value_at (json.object ms) place = only_at kinds (json.object ms) place >>= λ _. the_one place (Err (At G place)) (kinds_in ms place)
  value_at _ place = Err (At G place)

  -- the contents of the kinds that are there
  pub kinds_in : json.Members → List ℕ → List (Result Data Bad)
  kinds_in json.no_members place = []
  kinds_in (json.member k d ms) place = if_chosen kinds (λ name. kind_at d name (member_place place name)) k d ++ kinds_in ms place

  -- the content of a member of this name
  pub kind_at : json.Data → List ℕ → List ℕ → Result Data Bad
  kind_at (json.object ms) name place =
      if bytes_eq name (codes "arrayValue") then made array_of (content_at array_members (json.object ms) place (lists_in ms place))
      else if bytes_eq name (codes "mapValue") then made map_of (content_at map_members (json.object ms) place (maps_in ms place))
      else plain_at name (json.object ms) place
  kind_at d name place = plain_at name d place

  -- the values of an array, if they are there
  pub lists_in : json.Members → List ℕ → List (Result (List Data) Bad)
  lists_in json.no_members place = []
  lists_in (json.member k d ms) place = if_chosen array_members (λ name. list_at d (member_place place name)) k d ++ lists_in ms place

  pub list_at : json.Data → List ℕ → Result (List Data) Bad
  list_at (json.array ds) place = items_at ds 0 place
  list_at _ place = Err (At G place)

  -- the items from this number on
  pub items_at : json.Items → ℕ → List ℕ → Result (List Data) Bad
  items_at json.no_items i place = Ok []
  items_at (json.item d ds) i place = value_at d (item_place place i) >>= λ x. items_at ds (i + 1) place >>= λ xs. Ok (x ∷ xs)

  -- the fields of a map, if they are there
  pub maps_in : json.Members → List ℕ → List (Result (List (List ℕ × Data)) Bad)
  maps_in json.no_members place = []
  maps_in (json.member k d ms) place = if_chosen map_members (λ name. fields_at d (member_place place name)) k d ++ maps_in ms place

  pub fields_at : json.Data → List ℕ → Result (List (List ℕ × Data)) Bad
  fields_at (json.object ms) place = entries_at ms place
  fields_at _ place = Err (At G place)

  -- each key stands in the place as it is
  pub entries_at : json.Members → List ℕ → Result (List (List ℕ × Data)) Bad
  entries_at json.no_members place = Ok []
  entries_at (json.member k d ms) place = value_at d (member_place place k) >>= λ x. entries_at ms place >>= λ xs. Ok ((k, x) ∷ xs)

-- the content of an array
abbrev pub array_at : json.Data → List ℕ → Result (List Data) Bad
array_at (json.object ms) place = content_at array_members (json.object ms) place (lists_in ms place)
array_at _ place = Err (At G place)

-- the content of a map
abbrev pub map_at : json.Data → List ℕ → Result (List (List ℕ × Data)) Bad
map_at (json.object ms) place = content_at map_members (json.object ms) place (maps_in ms place)
map_at _ place = Err (At G place)
