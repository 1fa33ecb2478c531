-- What is written of what was read nests no deeper than what was read. Each crate that reads values may cite it.
use Rattle.std.proofs.Common.{ℕ, suc, ◌+◌, ◌≤◌, ◌<◌, List, [], ◌∷◌, Ok, Err, IfOk, codes, bytes_eq, arith}
use Rattle.std.proofs.lemmas.Result.{IfOk-weaker}
use Rattle.std.specs.List.{AllByRecursion}
use Rattle.fs_path.specs.Place.{member_place, item_place}
use Rattle.fs_path.specs.declared.name.Root.{Root}
use Rattle.fs_path.specs.declared.place.Rule.TheVariants.{G}
use Rattle.serde_json.specs.Data as json
use Rattle.serde_json.specs.Data.{depth, items_depth, members_depth}
use Rattle.fs_value.specs.Data.{Data, items_of, members_of}
use Rattle.fs_value.specs.FieldPaths.{map_of}
use Rattle.fs_value.specs.declared.document.Document.{Document}
use Rattle.fs_json.proofs.Choices.{each_chosen, only_one_of}
use Rattle.fs_json.proofs.Depths.{inside, inside_or}
use Rattle.fs_json.proofs.Readings.{at_last_holds, both_hold, either, in_turn_holds, of_made}
use Rattle.fs_json.specs.Members.{only_at}
use Rattle.fs_json.specs.Paths.{document_name_at}
use Rattle.fs_json.specs.Time.{time_json}
use Rattle.fs_json.specs.declared.bad.Bad.TheVariants.{At}
use Rattle.fs_path.specs.Document.{document_text}
use Rattle.fs_valjson.specs.Document.{content_at, document_at, document_json, document_members, fields_in, time_in, update_json, with_fields}
use Rattle.fs_valjson.specs.Reading.{kinds, array_members, map_members, array_of, array_at, content_at as list_content_at, entries_at, fields_at, items_at, kind_at, kinds_in, list_at, lists_in, maps_in, plain_at, value_at}
use Rattle.fs_valjson.proofs.Plain.{plain_holds}
use Rattle.fs_valjson.specs.Writing.{array_json, fields_content, items_json, list_content, list_json, members_json, value_json}

-- ---- values

-- what is written of a value, of the content of an array and of a map
abbrev IsWithin : ℕ → Data → Type 0
IsWithin n x = depth (value_json x) ≤ n

abbrev AreWithin : ℕ → List Data → Type 0
AreWithin n ds = depth (array_json ds) ≤ n

abbrev AreFieldsWithin : ℕ → List (List ℕ × Data) → Type 0
AreFieldsWithin n fs = depth (fields_content (members_json (members_of fs))) ≤ n

list_fits : (ds : json.Items) (n : ℕ) → depth (json.array ds) < n → depth (list_content ds) ≤ n
list_fits json.no_items n h = omega (arith, h)
list_fits (json.item d ds) n h = omega (arith, h)

fields_fit : (ms : json.Members) (n : ℕ) → depth (json.object ms) < n → depth (fields_content ms) ≤ n
fields_fit json.no_members n h = omega (arith, h)
fields_fit (json.member k d ms) n h = omega (arith, h)

plain_within : (name : List ℕ) (d : json.Data) (place : List ℕ) (n : ℕ) → 0 < n → IfOk (plain_at name d place) (IsWithin n)
plain_within name d place n h =
    let flat : 1 ≤ n = h in
    plain_holds (IsWithin n) flat (λ b. flat) (λ z. flat) (λ t. flat) (λ s. flat) (λ b. flat) (λ r is. flat) name d place

mutual
  pub value_within : (d : json.Data) (place : List ℕ) → IfOk (value_at d place) (λ x. depth (value_json x) ≤ depth d)
  value_within json.null place = record {}
  value_within (json.boolean b) place = record {}
  value_within (json.number n) place = record {}
  value_within (json.string s) place = record {}
  value_within (json.array ds) place = record {}
  value_within (json.object ms) place =
      let n = suc (members_depth ms) in
      only_one_of (IsWithin n) kinds (json.object ms) place (Err (At G place)) (kinds_in ms place) (record {}) (kinds_within ms place n (omega arith))

  kinds_within : (ms : json.Members) (place : List ℕ) (n : ℕ) → members_depth ms < n → AllByRecursion (λ r. IfOk r (IsWithin n)) (kinds_in ms place)
  kinds_within json.no_members place n h = tt
  kinds_within (json.member k d ms) place n h =
      each_chosen (λ r. IfOk r (IsWithin n)) kinds (λ name. kind_at d name (member_place place name)) k d (kinds_in ms place)
      (λ name. kind_within d name (member_place place name) n (omega (arith, h))) (kinds_within ms place n (omega (arith, h)))

  kind_within : (d : json.Data) (name place : List ℕ) (n : ℕ) → depth d < n → IfOk (kind_at d name place) (IsWithin n)
  kind_within json.null name place n h = plain_within name json.null place n (omega (arith, h))
  kind_within (json.boolean b) name place n h = plain_within name (json.boolean b) place n (omega (arith, h))
  kind_within (json.number m) name place n h = plain_within name (json.number m) place n (omega (arith, h))
  kind_within (json.string s) name place n h = plain_within name (json.string s) place n (omega (arith, h))
  kind_within (json.array ds) name place n h = plain_within name (json.array ds) place n (omega (arith, h))
  kind_within (json.object ms) name place n h =
      let m = suc (members_depth ms) in
      either (IsWithin n) (bytes_eq name (codes "arrayValue")) _ _
      (of_made (AreWithin m) (IsWithin n) array_of (list_content_at array_members (json.object ms) place (lists_in ms place))
      (only_one_of (AreWithin m) array_members (json.object ms) place (Ok []) (lists_in ms place) (omega arith) (lists_within ms place m (omega arith)))
      (λ ds are. omega (arith, are, h)))
      (either (IsWithin n) (bytes_eq name (codes "mapValue")) _ _
      (of_made (AreFieldsWithin m) (IsWithin n) map_of (list_content_at map_members (json.object ms) place (maps_in ms place))
      (only_one_of (AreFieldsWithin m) map_members (json.object ms) place (Ok []) (maps_in ms place) (omega arith) (maps_within ms place m (omega arith)))
      (λ fs are. omega (arith, are, h)))
      (plain_within name (json.object ms) place n (omega (arith, h))))

  lists_within : (ms : json.Members) (place : List ℕ) (n : ℕ) → members_depth ms < n → AllByRecursion (λ r. IfOk r (AreWithin n)) (lists_in ms place)
  lists_within json.no_members place n h = tt
  lists_within (json.member k d ms) place n h =
      each_chosen (λ r. IfOk r (AreWithin n)) array_members (λ name. list_at d (member_place place name)) k d (lists_in ms place)
      (λ name. IfOk-weaker (list_at d (member_place place name)) (λ ds. depth (list_json ds) ≤ depth d) (AreWithin n)
      (λ ds are. list_fits (items_json (items_of ds)) n (omega (arith, are, h))) (list_within d (member_place place name))) (lists_within ms place n (omega (arith, h)))

  pub list_within : (d : json.Data) (place : List ℕ) → IfOk (list_at d place) (λ ds. depth (list_json ds) ≤ depth d)
  list_within json.null place = record {}
  list_within (json.boolean b) place = record {}
  list_within (json.number n) place = record {}
  list_within (json.string s) place = record {}
  list_within (json.array ds) place =
      IfOk-weaker (items_at ds 0 place) (λ xs. items_depth (items_json (items_of xs)) ≤ items_depth ds) (λ xs. depth (list_json xs) ≤ suc (items_depth ds)) (λ xs are. omega (arith, are)) (items_within ds 0 place)
  list_within (json.object ms) place = record {}

  items_within : (ds : json.Items) (i : ℕ) (place : List ℕ) → IfOk (items_at ds i place) (λ xs. items_depth (items_json (items_of xs)) ≤ items_depth ds)
  items_within json.no_items i place = omega arith
  items_within (json.item d ds) i place =
      both_hold (IsWithin (depth d)) (λ xs. items_depth (items_json (items_of xs)) ≤ items_depth ds) (λ xs. items_depth (items_json (items_of xs)) ≤ items_depth (json.item d ds)) (λ x xs. x ∷ xs)
      (value_at d (item_place place i)) (items_at ds (i + 1) place) (value_within d (item_place place i)) (items_within ds (i + 1) place) (λ x xs is are. omega (arith, is, are))

  maps_within : (ms : json.Members) (place : List ℕ) (n : ℕ) → members_depth ms < n → AllByRecursion (λ r. IfOk r (AreFieldsWithin n)) (maps_in ms place)
  maps_within json.no_members place n h = tt
  maps_within (json.member k d ms) place n h =
      each_chosen (λ r. IfOk r (AreFieldsWithin n)) map_members (λ name. fields_at d (member_place place name)) k d (maps_in ms place)
      (λ name. IfOk-weaker (fields_at d (member_place place name)) (λ fs. depth (json.object (members_json (members_of fs))) ≤ depth d) (AreFieldsWithin n)
      (λ fs are. fields_fit (members_json (members_of fs)) n (omega (arith, are, h))) (fields_within d (member_place place name))) (maps_within ms place n (omega (arith, h)))

  fields_within : (d : json.Data) (place : List ℕ) → IfOk (fields_at d place) (λ fs. depth (json.object (members_json (members_of fs))) ≤ depth d)
  fields_within json.null place = record {}
  fields_within (json.boolean b) place = record {}
  fields_within (json.number n) place = record {}
  fields_within (json.string s) place = record {}
  fields_within (json.array ds) place = record {}
  fields_within (json.object ms) place =
      IfOk-weaker (entries_at ms place) (λ fs. members_depth (members_json (members_of fs)) ≤ members_depth ms) (λ fs. depth (json.object (members_json (members_of fs))) ≤ suc (members_depth ms))
      (λ fs are. omega (arith, are)) (entries_within ms place)

  entries_within : (ms : json.Members) (place : List ℕ) → IfOk (entries_at ms place) (λ fs. members_depth (members_json (members_of fs)) ≤ members_depth ms)
  entries_within json.no_members place = omega arith
  entries_within (json.member k d ms) place =
      both_hold (IsWithin (depth d)) (λ fs. members_depth (members_json (members_of fs)) ≤ members_depth ms) (λ fs. members_depth (members_json (members_of fs)) ≤ members_depth (json.member k d ms)) (λ x fs. (k, x) ∷ fs)
      (value_at d (member_place place k)) (entries_at ms place) (value_within d (member_place place k)) (entries_within ms place) (λ x fs is are. omega (arith, is, are))

-- the content of an array
pub array_within : (d : json.Data) (place : List ℕ) → IfOk (array_at d place) (λ ds. depth (array_json ds) ≤ depth d)
array_within json.null place = record {}
array_within (json.boolean b) place = record {}
array_within (json.number n) place = record {}
array_within (json.string s) place = record {}
array_within (json.array ds) place = record {}
array_within (json.object ms) place =
    let m = suc (members_depth ms) in
    only_one_of (AreWithin m) array_members (json.object ms) place (Ok []) (lists_in ms place) (omega arith) (lists_within ms place m (omega arith))

-- ---- documents

-- fields as the one member of an object, where there are some, nest less deep than this
abbrev pub FieldsBelow : ℕ → List (List ℕ × Data) → Type 0
FieldsBelow n fs = members_depth (with_fields (members_json (members_of fs)) json.no_members) < n

member_fits : (ms : json.Members) (n : ℕ) → depth (json.object ms) < n → members_depth (with_fields ms json.no_members) < n
member_fits json.no_members n h = omega (arith, h)
member_fits (json.member k d ms) n h = omega (arith, h)

beside : (ms rest : json.Members) (n : ℕ) → members_depth (with_fields ms json.no_members) < n → members_depth rest < n → members_depth (with_fields ms rest) < n
beside json.no_members rest n one more = more
beside (json.member k d ms) rest n one more = omega (arith, one, more)

content_within : (d : json.Data) (place : List ℕ) → 0 < depth d → IfOk (content_at d place) (λ c. FieldsBelow (depth d) c.fields)
content_within d place h =
    in_turn_holds (FieldsBelow (depth d)) (λ c. FieldsBelow (depth d) c.fields) (fields_in d place) _
    (inside_or (FieldsBelow (depth d)) (codes "fields") d place (λ x. fields_at x (member_place place (codes "fields"))) (Ok [])
    (λ x falls. IfOk-weaker (fields_at x (member_place place (codes "fields"))) (λ fs. depth (json.object (members_json (members_of fs))) ≤ depth x) (FieldsBelow (depth d))
    (λ fs are. member_fits (members_json (members_of fs)) (depth d) (omega (arith, are, falls))) (fields_within x (member_place place (codes "fields")))) h)
    (λ fs are. at_last_holds (λ c. FieldsBelow (depth d) c.fields) (time_in (codes "createTime") d place) _
    (λ created. at_last_holds (λ c. FieldsBelow (depth d) c.fields) (time_in (codes "updateTime") d place) _ (λ updated. are)))

-- the fields of a document that is read
pub document_fields_within : (root : Root) (d : json.Data) (place : List ℕ) → IfOk (document_at root d place) (λ x. FieldsBelow (depth d) x.fields)
unfolding document_at
document_fields_within root d place =
    let P : Document → Type 0 = λ x. FieldsBelow (depth d) x.fields in
    at_last_holds P (only_at document_members d place) _
    (λ u. inside P (codes "name") d place _
    (λ name falls. at_last_holds P (document_name_at root name (member_place place (codes "name"))) _
    (λ named. in_turn_holds (λ c. FieldsBelow (depth d) c.fields) P (content_at d place) _ (content_within d place (omega (arith, falls))) (λ c are. are))))

-- what is written of a document with these fields, and of an update with them
pub document_fits : (x : Document) (n : ℕ) → FieldsBelow n x.fields → depth (document_json x) ≤ n
unfolding document_json
document_fits x n are =
    let rest = json.member (codes "name") (json.string (document_text x.name)) (json.member (codes "updateTime") (time_json x.updated) json.no_members) in
    let all : members_depth (with_fields (members_json (members_of x.fields)) rest) < n = beside (members_json (members_of x.fields)) rest n are (omega (arith, are)) in
    omega (arith, all)

pub update_fits : (x : Document) (n : ℕ) → FieldsBelow n x.fields → depth (update_json x.name x.fields) ≤ n
unfolding update_json
update_fits x n are =
    let rest = json.member (codes "name") (json.string (document_text x.name)) json.no_members in
    let all : members_depth (with_fields (members_json (members_of x.fields)) rest) < n = beside (members_json (members_of x.fields)) rest n are (omega (arith, are)) in
    omega (arith, all)

pub document_within : (root : Root) (d : json.Data) (place : List ℕ) → IfOk (document_at root d place) (λ x. depth (document_json x) ≤ depth d)
document_within root d place =
    IfOk-weaker (document_at root d place) (λ x. FieldsBelow (depth d) x.fields) (λ x. depth (document_json x) ≤ depth d) (λ x are. document_fits x (depth d) are) (document_fields_within root d place)
