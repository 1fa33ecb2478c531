-- The references in what is read are names of documents, and a document is one of the root's. Each crate that reads values may cite it.
use Rattle.std.proofs.Common.{ℕ, ◌+◌, List, [], ◌∷◌, Ok, Err, IfOk, codes, bytes_eq}
use Rattle.std.specs.List.{AllByRecursion}
use Rattle.fs_path.specs.Document.{IsDocumentOf}
use Rattle.fs_path.specs.Place.{member_place, item_place}
use Rattle.fs_path.specs.declared.name.Root.{Root}
use Rattle.fs_path.specs.declared.place.Rule.TheVariants.{G}
use Rattle.serde_json.specs.Data as json
use Rattle.fs_value.specs.Data.{Data, items_of, members_of}
use Rattle.fs_value.specs.FieldPaths.{map_of}
use Rattle.fs_json.specs.Members.{only_at, required_at}
use Rattle.fs_json.specs.Paths.{document_name_at}
use Rattle.fs_json.specs.declared.bad.Bad.TheVariants.{At}
use Rattle.fs_json.proofs.Readings.{at_last_holds, both_hold, either, in_turn_holds, member_holds, of_made}
use Rattle.fs_json.proofs.Choices.{each_chosen, only_one_of}
use Rattle.fs_json.proofs.Named.{document_name_is}
use Rattle.fs_valjson.specs.Document.{content_at, document_at, document_members, fields_in, time_in}
use Rattle.fs_valjson.specs.Reading.{kinds, array_members, map_members, array_of, array_at, content_at as list_content_at, entries_at, fields_at, items_at, kind_at, kinds_in, list_at, lists_in, maps_in, plain_at, value_at}
use Rattle.fs_valjson.specs.Valid.{IsValid}
use Rattle.fs_valjson.proofs.Plain.{plain_holds}
use Rattle.fs_valjson.specs.Writing.{HasNames, ItemsHaveNames, MembersHaveNames}

-- the references in a list of values, and in fields
abbrev NamesIn : List Data → Type 0
NamesIn ds = ItemsHaveNames (items_of ds)

abbrev NamesAmong : List (List ℕ × Data) → Type 0
NamesAmong fs = MembersHaveNames (members_of fs)

-- ---- values

plain_names : (name : List ℕ) (d : json.Data) (place : List ℕ) → IfOk (plain_at name d place) HasNames
plain_names = plain_holds HasNames tt (λ b. tt) (λ n. tt) (λ t. tt) (λ s. tt) (λ b. tt) (λ n is. is)

mutual
  pub value_names : (d : json.Data) (place : List ℕ) → IfOk (value_at d place) HasNames
  value_names json.null place = record {}
  value_names (json.boolean b) place = record {}
  value_names (json.number n) place = record {}
  value_names (json.string s) place = record {}
  value_names (json.array ds) place = record {}
  value_names (json.object ms) place =
      only_one_of HasNames kinds (json.object ms) place (Err (At G place)) (kinds_in ms place) (record {}) (kinds_names ms place)

  kinds_names : (ms : json.Members) (place : List ℕ) → AllByRecursion (λ r. IfOk r HasNames) (kinds_in ms place)
  kinds_names json.no_members place = tt
  kinds_names (json.member k d ms) place =
      each_chosen (λ r. IfOk r HasNames) kinds (λ name. kind_at d name (member_place place name)) k d (kinds_in ms place)
      (λ name. kind_names d name (member_place place name)) (kinds_names ms place)

  kind_names : (d : json.Data) (name place : List ℕ) → IfOk (kind_at d name place) HasNames
  kind_names json.null name place = plain_names name json.null place
  kind_names (json.boolean b) name place = plain_names name (json.boolean b) place
  kind_names (json.number n) name place = plain_names name (json.number n) place
  kind_names (json.string s) name place = plain_names name (json.string s) place
  kind_names (json.array ds) name place = plain_names name (json.array ds) place
  kind_names (json.object ms) name place =
      either HasNames (bytes_eq name (codes "arrayValue")) _ _
      (of_made NamesIn HasNames array_of (list_content_at array_members (json.object ms) place (lists_in ms place))
      (only_one_of NamesIn array_members (json.object ms) place (Ok []) (lists_in ms place) tt (lists_names ms place)) (λ ds are. are))
      (either HasNames (bytes_eq name (codes "mapValue")) _ _
      (of_made NamesAmong HasNames map_of (list_content_at map_members (json.object ms) place (maps_in ms place))
      (only_one_of NamesAmong map_members (json.object ms) place (Ok []) (maps_in ms place) tt (maps_names ms place)) (λ fs are. are))
      (plain_names name (json.object ms) place))

  lists_names : (ms : json.Members) (place : List ℕ) → AllByRecursion (λ r. IfOk r NamesIn) (lists_in ms place)
  lists_names json.no_members place = tt
  lists_names (json.member k d ms) place =
      each_chosen (λ r. IfOk r NamesIn) array_members (λ name. list_at d (member_place place name)) k d (lists_in ms place)
      (λ name. list_names d (member_place place name)) (lists_names ms place)

  pub list_names : (d : json.Data) (place : List ℕ) → IfOk (list_at d place) NamesIn
  list_names json.null place = record {}
  list_names (json.boolean b) place = record {}
  list_names (json.number n) place = record {}
  list_names (json.string s) place = record {}
  list_names (json.array ds) place = items_names ds 0 place
  list_names (json.object ms) place = record {}

  items_names : (ds : json.Items) (i : ℕ) (place : List ℕ) → IfOk (items_at ds i place) NamesIn
  items_names json.no_items i place = tt
  items_names (json.item d ds) i place =
      both_hold HasNames NamesIn NamesIn (λ x xs. x ∷ xs) (value_at d (item_place place i)) (items_at ds (i + 1) place)
      (value_names d (item_place place i)) (items_names ds (i + 1) place) (λ x xs is are. (is, are))

  maps_names : (ms : json.Members) (place : List ℕ) → AllByRecursion (λ r. IfOk r NamesAmong) (maps_in ms place)
  maps_names json.no_members place = tt
  maps_names (json.member k d ms) place =
      each_chosen (λ r. IfOk r NamesAmong) map_members (λ name. fields_at d (member_place place name)) k d (maps_in ms place)
      (λ name. fields_names d (member_place place name)) (maps_names ms place)

  fields_names : (d : json.Data) (place : List ℕ) → IfOk (fields_at d place) NamesAmong
  fields_names json.null place = record {}
  fields_names (json.boolean b) place = record {}
  fields_names (json.number n) place = record {}
  fields_names (json.string s) place = record {}
  fields_names (json.array ds) place = record {}
  fields_names (json.object ms) place = entries_names ms place

  entries_names : (ms : json.Members) (place : List ℕ) → IfOk (entries_at ms place) NamesAmong
  entries_names json.no_members place = tt
  entries_names (json.member k d ms) place =
      both_hold HasNames NamesAmong NamesAmong (λ x fs. (k, x) ∷ fs) (value_at d (member_place place k)) (entries_at ms place)
      (value_names d (member_place place k)) (entries_names ms place) (λ x fs is are. (is, are))

-- the content of an array
pub array_names : (d : json.Data) (place : List ℕ) → IfOk (array_at d place) NamesIn
array_names json.null place = record {}
array_names (json.boolean b) place = record {}
array_names (json.number n) place = record {}
array_names (json.string s) place = record {}
array_names (json.array ds) place = record {}
array_names (json.object ms) place =
    only_one_of NamesIn array_members (json.object ms) place (Ok []) (lists_in ms place) tt (lists_names ms place)

-- ---- documents

fields_in_names : (d : json.Data) (place : List ℕ) → IfOk (fields_in d place) NamesAmong
fields_in_names d place =
    member_holds NamesAmong [] fields_at (codes "fields") d place fields_names tt

content_names : (d : json.Data) (place : List ℕ) → IfOk (content_at d place) (λ c. NamesAmong c.fields)
content_names d place =
    in_turn_holds NamesAmong (λ c. NamesAmong c.fields) (fields_in d place) _ (fields_in_names d place)
    (λ fields are. at_last_holds (λ c. NamesAmong c.fields) (time_in (codes "createTime") d place) _
    (λ created. at_last_holds (λ c. NamesAmong c.fields) (time_in (codes "updateTime") d place) _ (λ updated. are)))

pub document_valid : (root : Root) (d : json.Data) (place : List ℕ) → IfOk (document_at root d place) (IsValid root)
unfolding document_at
document_valid root d place =
    at_last_holds (IsValid root) (only_at document_members d place) _
    (λ u. at_last_holds (IsValid root) (required_at (codes "name") d place) _
    (λ name. in_turn_holds (IsDocumentOf root) (IsValid root) (document_name_at root name (member_place place (codes "name"))) _ (document_name_is root name (member_place place (codes "name")))
    (λ n named. in_turn_holds (λ c. NamesAmong c.fields) (IsValid root) (content_at d place) _ (content_names d place) (λ c names. record { named = named; names = names }))))
