-- What only private clauses cite: that the integers, times, bytes and names in a value, as they are written, are read back, and that the
-- keys of its maps rise. The types of a value hold no others.
use Rattle.std.specs.Prelude.{◌≡◌, true, Some, Ok}
use Rattle.std.specs.FinMap.Entries.{below_all}
use Rattle.fs_path.specs.Document.{document_text, reference_of, IsDocument}
use Rattle.fs_path.specs.TextOrder.{text_cmp}
use Rattle.fs_value.specs.Data.{Data, integer, timestamp, bytes, reference, array, object, Items, no_items, item, Members, no_members, member, fields_of}
use Rattle.fs_json.specs.Base64.{bytes_json, bytes_of}
use Rattle.fs_json.specs.Integer.{integer_json, integer_of}
use Rattle.fs_json.specs.Time.{IsTimeHeld}

-- the integers, times, bytes and names inside are those that a value's types hold, so their texts are read back, and each key stands before
-- those behind it
abbrev mutual
  pub IsHeld : Data → Type 0
  IsHeld (integer n) = integer_of (integer_json n) ≡ Some n
  IsHeld (timestamp t) = IsTimeHeld t
  IsHeld (bytes b) = bytes_of (bytes_json b) ≡ Some b
  IsHeld (reference n) = IsDocument n → reference_of (document_text n) ≡ Ok n
  IsHeld (array ds) = ItemsAreHeld ds
  IsHeld (object ms) = MembersAreHeld ms
  IsHeld _ = Unit {0}

  pub ItemsAreHeld : Items → Type 0
  ItemsAreHeld no_items = Unit {0}
  ItemsAreHeld (item d ds) = IsHeld d × ItemsAreHeld ds

  pub MembersAreHeld : Members → Type 0
  MembersAreHeld no_members = Unit {0}
  MembersAreHeld (member k d ms) = IsHeld d × (below_all text_cmp k (fields_of ms) ≡ true) × MembersAreHeld ms
