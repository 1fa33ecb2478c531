-- The JSON of a value. (proto3 JSON of the v1 reference, "Value": 64-bit integers and bytes are strings.)
use Rattle.std.specs.Prelude.{List, codes}
use Rattle.fs_path.specs.Document.{document_text, IsDocument}
use Rattle.serde_json.specs.Data as json
use Rattle.fs_value.specs.Data.{Data, null, boolean, integer, timestamp, string, bytes, reference, array, object, Items, no_items, item, Members, no_members, member, items_of}
use Rattle.fs_json.specs.Base64.{bytes_json}
use Rattle.fs_json.specs.Integer.{integer_json}
use Rattle.fs_json.specs.Members.{with_one}
use Rattle.fs_json.specs.Time.{time_json}

-- an empty list of values or of fields is left out
abbrev pub list_content : json.Items → json.Data
list_content json.no_items = json.object json.no_members
list_content (json.item d ds) = with_one (codes "values") (json.array (json.item d ds))

abbrev pub fields_content : json.Members → json.Data
fields_content json.no_members = json.object json.no_members
fields_content (json.member k d ms) = with_one (codes "fields") (json.object (json.member k d ms))

abbrev mutual
  pub value_json : Data → json.Data
  value_json null = with_one (codes "nullValue") json.null
  value_json (boolean b) = with_one (codes "booleanValue") (json.boolean b)
  value_json (integer n) = with_one (codes "integerValue") (integer_json n)
  value_json (timestamp t) = with_one (codes "timestampValue") (time_json t)
  value_json (string s) = with_one (codes "stringValue") (json.string s)
  value_json (bytes b) = with_one (codes "bytesValue") (bytes_json b)
  value_json (reference n) = with_one (codes "referenceValue") (json.string (document_text n))
  value_json (array ds) = with_one (codes "arrayValue") (list_content (items_json ds))
  value_json (object ms) = with_one (codes "mapValue") (fields_content (members_json ms))

  pub items_json : Items → json.Items
  items_json no_items = json.no_items
  items_json (item d ds) = json.item (value_json d) (items_json ds)

  pub members_json : Members → json.Members
  members_json no_members = json.no_members
  members_json (member k d ms) = json.member k (value_json d) (members_json ms)

-- the content of an array, and a list of values
abbrev pub array_json : List Data → json.Data
array_json ds = list_content (items_json (items_of ds))

abbrev pub list_json : List Data → json.Data
list_json ds = json.array (items_json (items_of ds))

-- ---- what is read back

-- the names inside are names of documents
abbrev mutual
  pub HasNames : Data → Type 0
  HasNames (reference n) = IsDocument n
  HasNames (array ds) = ItemsHaveNames ds
  HasNames (object ms) = MembersHaveNames ms
  HasNames _ = Unit {0}

  pub ItemsHaveNames : Items → Type 0
  ItemsHaveNames no_items = Unit {0}
  ItemsHaveNames (item d ds) = HasNames d × ItemsHaveNames ds

  pub MembersHaveNames : Members → Type 0
  MembersHaveNames no_members = Unit {0}
  MembersHaveNames (member k d ms) = HasNames d × MembersHaveNames ms
