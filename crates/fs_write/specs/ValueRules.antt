-- Rules of values in a write: no map has a field of a name that Firestore keeps for itself or that is too long, and no array
-- directly holds an array. (Cloud Firestore documentation, "Usage and limits" and "Supported data types".)
use Rattle.std.specs.Prelude.{Bool, true, false, ◌||◌}
use Rattle.fs_path.specs.FieldName.{is_bad_name}
use Rattle.fs_value.specs.Data.{Data, array, object, Items, no_items, item, Members, no_members, member}

abbrev mutual
  -- whether some map in a value has a field of a bad name
  pub has_bad_name : Data → Bool
  has_bad_name (array ds) = items_have_bad_name ds
  has_bad_name (object ms) = members_have_bad_name ms
  has_bad_name _ = false

  pub items_have_bad_name : Items → Bool
  items_have_bad_name no_items = false
  items_have_bad_name (item d ds) = has_bad_name d || items_have_bad_name ds

  pub members_have_bad_name : Members → Bool
  members_have_bad_name no_members = false
  members_have_bad_name (member k d ms) = is_bad_name k || (has_bad_name d || members_have_bad_name ms)

abbrev pub is_array : Data → Bool
is_array (array ds) = true
is_array _ = false

abbrev mutual
  -- whether some array in a value directly holds an array
  pub has_array_in_array : Data → Bool
  has_array_in_array (array ds) = items_have_arrays ds
  has_array_in_array (object ms) = members_have_array_in_array ms
  has_array_in_array _ = false

  -- whether an array of these elements would, or some array in one of them does
  pub items_have_arrays : Items → Bool
  items_have_arrays no_items = false
  items_have_arrays (item d ds) = is_array d || (has_array_in_array d || items_have_arrays ds)

  pub members_have_array_in_array : Members → Bool
  members_have_array_in_array no_members = false
  members_have_array_in_array (member k d ms) = has_array_in_array d || members_have_array_in_array ms
