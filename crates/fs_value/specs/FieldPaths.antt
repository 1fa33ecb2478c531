-- What a field path leads to among the fields of a document, and what they are after a value is set or taken out there:
-- `address.city` is the field `city` of the map at `address`.
-- (Cloud Firestore documentation, "Update fields in nested objects"; v1 reference, "DocumentMask".)
--
--     {address: {city: "Rome", zip: 1}, age: 3}        address.city is "Rome", age.years isn't there
--     after address.city is set to "Paris"             {address: {city: "Paris", zip: 1}, age: 3}
--     after age.years is set to 4                      {address: {city: "Rome", zip: 1}, age: {years: 4}}
--     after address.city and address.zip are unset     {address: {}, age: 3}
use Rattle.std.specs.Prelude.{ℕ, IsTrue, not, List, [], ◌∷◌, Option, Some, None, option_and_then, unwrap_or}
use Rattle.std.specs.Option.{option_map_or}
use Rattle.std.specs.List.{starts_with}
use Rattle.std.specs.Ordering.{eq_by_cmp}
use Rattle.std.specs.FinMap.{find, put}
use Rattle.std.specs.FinMap.Entries.{where_key}
use Rattle.fs_path.specs.TextOrder.{text_cmp, text_eq}
use Rattle.fs_value.specs.Data.{Data, object, members_of, fields_of}

-- the map that has these fields
abbrev pub map_of : List (List ℕ × Data) → Data
map_of fs = object (members_of fs)

-- the fields of a value that is a map
abbrev pub map_fields : Data → Option (List (List ℕ × Data))
map_fields (object ms) = Some (fields_of ms)
map_fields d = None

-- the fields of the map at a key, if there is one
abbrev pub fields_under : List ℕ → List (List ℕ × Data) → Option (List (List ℕ × Data))
fields_under k fs = option_and_then map_fields (find text_cmp k fs)

-- the fields below a value: none where it isn't there or is no map
abbrev pub fields_below : Option Data → List (List ℕ × Data)
fields_below o = unwrap_or (option_and_then map_fields o) []

-- the value at a path
abbrev pub get_fields : List (List ℕ) → List (List ℕ × Data) → Option Data
get_fields [] fs = None
get_fields (k ∷ []) fs = find text_cmp k fs
get_fields (k ∷ l ∷ ks) fs = get_fields (l ∷ ks) (fields_below (find text_cmp k fs))

-- the fields with a value set at a path. On the way there is a map at each name, which keeps its other fields if it was
-- there before; a value that is no map gives way to one
abbrev pub set_fields : List (List ℕ) → Data → List (List ℕ × Data) → List (List ℕ × Data)
set_fields [] v fs = fs
set_fields (k ∷ []) v fs = put text_cmp k v fs
set_fields (k ∷ l ∷ ks) v fs = put text_cmp k (map_of (set_fields (l ∷ ks) v (fields_below (find text_cmp k fs)))) fs

-- the fields without a key
abbrev pub without : List ℕ → List (List ℕ × Data) → List (List ℕ × Data)
without k = where_key text_cmp (λ x. not (eq_by_cmp text_cmp k x))

-- the fields without what is at a path. The maps on the way stay, even if they have no fields left; where a value on the
-- way isn't there, or is no map, nothing is taken out
abbrev pub unset_fields : List (List ℕ) → List (List ℕ × Data) → List (List ℕ × Data)
unset_fields [] fs = fs
unset_fields (k ∷ []) fs = without k fs
unset_fields (k ∷ l ∷ ks) fs = option_map_or (λ ms. put text_cmp k (map_of (unset_fields (l ∷ ks) ms)) fs) (fields_under k fs) fs

-- a map without what is at a path in it. A value that is no map stays
abbrev pub unset_below : List (List ℕ) → Data → Data
unset_below ks d = option_map_or (λ ms. map_of (unset_fields ks ms)) (map_fields d) d

-- neither of two paths begins the other: so are `address.city` and `address.zip`, and not `address` and `address.city`
abbrev pub IsApart : List (List ℕ) → List (List ℕ) → Type 0
IsApart p q = ¬ IsTrue (starts_with text_eq p q) × ¬ IsTrue (starts_with text_eq q p)
