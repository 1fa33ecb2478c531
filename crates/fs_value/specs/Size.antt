-- The counted size of documents, in bytes. The document `c/a {n: 1}` counts 62: its name 16 + 2 + 2, the key 2, the
-- number 8, and 32.
-- (Cloud Firestore documentation, "Calculate storage size".)
use Rattle.std.specs.Prelude.{ℕ, ◌+◌, List, length, sum_by}
use Rattle.fs_path.specs.declared.name.DocName.{DocName}
use Rattle.fs_value.specs.Data.{Data, null, boolean, integer, timestamp, string, bytes, reference, array, object, Items, no_items, item, Members, no_members, member, members_of}
use Rattle.fs_value.specs.declared.document.Document.{Document}

-- "additional bytes" of a document, and of a name
abbrev pub document_extra : ℕ
document_extra = 32

abbrev pub name_extra : ℕ
name_extra = 16

-- a text: its bytes in UTF-8, and 1
abbrev pub text_size : List ℕ → ℕ
text_size s = length s + 1

-- null and booleans
abbrev pub flag_size : ℕ
flag_size = 1

-- integers and timestamps
abbrev pub number_size : ℕ
number_size = 8

-- a name: the size of each id, and the additional bytes
abbrev pub name_size : DocName → ℕ
name_size n = name_extra + sum_by text_size n.ids

-- an array has the sum of its elements' sizes, and a map that of its keys' and values'
abbrev mutual
  pub value_size : Data → ℕ
  value_size null = flag_size
  value_size (boolean b) = flag_size
  value_size (integer n) = number_size
  value_size (timestamp t) = number_size
  value_size (string s) = text_size s
  value_size (bytes s) = length s
  value_size (reference n) = name_size n
  value_size (array ds) = items_size ds
  value_size (object ms) = members_size ms

  pub items_size : Items → ℕ
  items_size no_items = 0
  items_size (item d ds) = value_size d + items_size ds

  pub members_size : Members → ℕ
  members_size no_members = 0
  members_size (member k d ms) = text_size k + value_size d + members_size ms

-- a document: its name, its fields, and the additional bytes
abbrev pub named_size : DocName → List (List ℕ × Data) → ℕ
named_size name fields = document_extra + name_size name + members_size (members_of fields)

abbrev pub document_size : Document → ℕ
document_size d = named_size d.name d.fields
