-- The order of values. Values of unlike kinds go by kind: null, booleans, integers, timestamps, strings, bytes,
-- references, arrays, maps. Among values of one kind
--   false comes before true;
--   integers go as numbers, and timestamps by time;
--   strings and bytes go byte by byte, references segment by segment, arrays element by element;
--   maps go field by field in the order of their keys: first the key, then its value;
--   and where one of these begins another, the shorter comes first.
-- So null, true, 2, "10", "9", [1], [1, 2], {a: 1}, {a: 1, b: 0}, {a: 2}, {aa: 1} stand in order.
-- (Cloud Firestore documentation, "Data types": "Value type ordering", "Map ordering".)
use Rattle.std.specs.Prelude.{ℕ}
use Rattle.std.specs.Ordering.{bool_cmp, nat_cmp, int_cmp, ordering_then}
use Rattle.std.specs.declared.cmp.Ordering.{Ordering}
use Rattle.std.specs.declared.cmp.Ordering.TheVariants.{Less, Equal, Greater}
use Rattle.fs_path.specs.TextOrder.{text_cmp}
use Rattle.fs_path.specs.NameOrder.{name_cmp}
use Rattle.fs_value.specs.Data.{Data, null, boolean, integer, timestamp, string, bytes, reference, array, object, Items, no_items, item, Members, no_members, member}

-- the place of a value's kind among the kinds
abbrev pub kind : Data → ℕ
kind null = 0
kind (boolean b) = 1
kind (integer n) = 2
kind (timestamp t) = 3
kind (string s) = 4
kind (bytes s) = 5
kind (reference n) = 6
kind (array ds) = 7
kind (object ms) = 8

abbrev mutual
  pub value_cmp : Data → Data → Ordering
  value_cmp null null = Equal
  value_cmp (boolean a) (boolean b) = bool_cmp a b
  value_cmp (integer a) (integer b) = int_cmp a b
  value_cmp (timestamp a) (timestamp b) = int_cmp a b
  value_cmp (string a) (string b) = text_cmp a b
  value_cmp (bytes a) (bytes b) = text_cmp a b
  value_cmp (reference a) (reference b) = name_cmp a b
  value_cmp (array a) (array b) = items_cmp a b
  value_cmp (object a) (object b) = members_cmp a b
  value_cmp a b = nat_cmp (kind a) (kind b)

  -- element by element
  pub items_cmp : Items → Items → Ordering
  items_cmp no_items no_items = Equal
  items_cmp no_items (item b ys) = Less
  items_cmp (item a xs) no_items = Greater
  items_cmp (item a xs) (item b ys) = ordering_then (value_cmp a b) (items_cmp xs ys)

  -- field by field: the key, then its value
  pub members_cmp : Members → Members → Ordering
  members_cmp no_members no_members = Equal
  members_cmp no_members (member l b ys) = Less
  members_cmp (member k a xs) no_members = Greater
  members_cmp (member k a xs) (member l b ys) = ordering_then (text_cmp k l) (ordering_then (value_cmp a b) (members_cmp xs ys))
