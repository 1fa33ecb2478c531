-- The keys of each map in a value rise, byte by byte, at every level. So no map has a key twice.
use Rattle.std.specs.Prelude.{Bool, true, ◌&&◌}
use Rattle.std.specs.FinMap.{is_sorted}
use Rattle.fs_path.specs.TextOrder.{text_cmp}
use Rattle.fs_value.specs.Data.{Data, null, boolean, integer, timestamp, string, bytes, reference, array, object, Items, no_items, item, Members, no_members, member, fields_of}

abbrev mutual
  pub is_ordered : Data → Bool
  is_ordered null = true
  is_ordered (boolean b) = true
  is_ordered (integer n) = true
  is_ordered (timestamp t) = true
  is_ordered (string s) = true
  is_ordered (bytes s) = true
  is_ordered (reference n) = true
  is_ordered (array ds) = items_ordered ds
  is_ordered (object ms) = is_sorted text_cmp (fields_of ms) && members_ordered ms

  pub items_ordered : Items → Bool
  items_ordered no_items = true
  items_ordered (item d ds) = is_ordered d && items_ordered ds

  pub members_ordered : Members → Bool
  members_ordered no_members = true
  members_ordered (member k d ms) = is_ordered d && members_ordered ms
