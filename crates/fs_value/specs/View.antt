-- What a value is. The lists inside it are seen as data already, so this goes down one level.
use Rattle.std.specs.Prelude.{ℕ, List}
use Rattle.fs_value.specs.Data.{Data, null, boolean, integer, timestamp, string, bytes, reference, array, object, items_of, members_of}
use Rattle.fs_value.specs.declared.fields.Field.{Field}
use Rattle.fs_value.specs.declared.value.Value.{Value}
use Rattle.fs_value.specs.declared.value.Value.TheVariants.{Null, Boolean, Integer, Timestamp, String, Bytes, Reference, Array, Map}

abbrev pub view : Value → Data
view Null = null
view (Boolean b) = boolean b
view (Integer n) = integer n
view (Timestamp t) = timestamp t
view (String s) = string s
view (Bytes s) = bytes s
view (Reference n) = reference n
view (Array vs) = array (items_of vs)
view (Map fs) = object (members_of fs)

abbrev pub field_view : Field → List ℕ × Data
field_view f = (f.key, view f.value)
