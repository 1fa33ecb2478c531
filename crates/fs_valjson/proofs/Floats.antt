-- Laws that other crates cite: what is written of values and documents has no float, so its text is told byte for byte.
use Rattle.std.proofs.Common.{◌≡◌, ℕ, List, [], ◌∷◌, false, refl}
use Rattle.serde_json.specs.Written.{has_float, items_have_float, members_have_float}
use Rattle.fs_path.specs.declared.name.DocName.{DocName}
use Rattle.fs_value.specs.Data.{Data, null, boolean, integer, timestamp, string, bytes, reference, array, object, Items, no_items, item, Members, no_members, member, items_of, members_of}
use Rattle.fs_valjson.specs.Document.{update_json}
use Rattle.fs_valjson.specs.Writing.{value_json, items_json, members_json, array_json, list_json}

mutual
  pub value_float : (d : Data) → has_float (value_json d) ≡ false
  value_float null = refl
  value_float (boolean b) = refl
  value_float (integer n) = refl
  value_float (timestamp t) = refl
  value_float (string s) = refl
  value_float (bytes b) = refl
  value_float (reference n) = refl
  value_float (array no_items) = refl
  value_float (array (item d ds)) = rw (value_float d, items_float ds) refl
  value_float (object no_members) = refl
  value_float (object (member k d ms)) = rw (value_float d, members_float ms) refl

  pub items_float : (ds : Items) → items_have_float (items_json ds) ≡ false
  items_float no_items = refl
  items_float (item d ds) = rw (value_float d, items_float ds) refl

  pub members_float : (ms : Members) → members_have_float (members_json ms) ≡ false
  members_float no_members = refl
  members_float (member k d ms) = rw (value_float d, members_float ms) refl

pub update_float : (name : DocName) (fields : List (List ℕ × Data)) → has_float (update_json name fields) ≡ false
unfolding update_json
update_float name [] = refl
update_float name (f ∷ fs) = rw (value_float f.1, members_float (members_of fs)) refl

pub array_float : (ds : List Data) → has_float (array_json ds) ≡ false
array_float [] = refl
array_float (d ∷ ds) = rw (value_float d, items_float (items_of ds)) refl

pub list_float : (ds : List Data) → has_float (list_json ds) ≡ false
list_float ds = items_float (items_of ds)
