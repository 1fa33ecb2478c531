-- What a value is, whatever memory it stands in. Contracts speak of a value's `Data`, and two values are the same exactly
-- where their `Data` is equal. An array's elements are `Items`; a map's fields are `Members`, in the order of their keys.
-- So `{a: [1, true]}` is `object (member "a" (array (item (integer 1) (item (boolean true) no_items))) no_members)`.
-- (Cloud Firestore documentation, "Data types".)
use Rattle.std.specs.Prelude.{ℕ, suc, ◌+◌, max, Bool, ℤ, List, [], ◌∷◌}
use Rattle.fs_path.specs.declared.name.DocName.{DocName}

-- integers are numbers; a timestamp is a number of microseconds since 1970; strings and bytes are lists of bytes
mutual
  pub data Data : Type 0 where
    null : Data
    boolean : Bool → Data
    integer : ℤ → Data
    timestamp : ℤ → Data
    string : List ℕ → Data
    bytes : List ℕ → Data
    reference : DocName → Data
    array : Items → Data
    object : Members → Data

  pub data Items : Type 0 where
    no_items : Items
    item : Data → Items → Items

  pub data Members : Type 0 where
    no_members : Members
    member : List ℕ → Data → Members → Members

-- ---- elements and fields as lists, and back

abbrev pub items_of : List Data → Items
items_of [] = no_items
items_of (d ∷ ds) = item d (items_of ds)

abbrev pub list_of : Items → List Data
list_of no_items = []
list_of (item d ds) = d ∷ list_of ds

abbrev pub members_of : List (List ℕ × Data) → Members
members_of [] = no_members
members_of (f ∷ fs) = member f.0 f.1 (members_of fs)

abbrev pub fields_of : Members → List (List ℕ × Data)
fields_of no_members = []
fields_of (member k d ms) = (k, d) ∷ fields_of ms

-- ---- depth

-- how deep arrays and maps nest: a value that is neither has depth 1, and so has an empty array or map
abbrev mutual
  pub depth : Data → ℕ
  depth null = 1
  depth (boolean b) = 1
  depth (integer n) = 1
  depth (timestamp t) = 1
  depth (string s) = 1
  depth (bytes s) = 1
  depth (reference n) = 1
  depth (array ds) = suc (items_depth ds)
  depth (object ms) = suc (members_depth ms)

  -- the greatest depth among the elements, or 0 where there are none
  pub items_depth : Items → ℕ
  items_depth no_items = 0
  items_depth (item d ds) = max (depth d) (items_depth ds)

  -- the greatest depth among the fields' values, or 0 where there are none
  pub members_depth : Members → ℕ
  members_depth no_members = 0
  members_depth (member k d ms) = max (depth d) (members_depth ms)

-- ---- the measure of recursions over values

-- each value and the end of each list count 1
abbrev mutual
  pub weight : Data → ℕ
  weight null = 1
  weight (boolean b) = 1
  weight (integer n) = 1
  weight (timestamp t) = 1
  weight (string s) = 1
  weight (bytes s) = 1
  weight (reference n) = 1
  weight (array ds) = suc (items_weight ds)
  weight (object ms) = suc (members_weight ms)

  pub items_weight : Items → ℕ
  items_weight no_items = 1
  items_weight (item d ds) = weight d + items_weight ds

  pub members_weight : Members → ℕ
  members_weight no_members = 1
  members_weight (member k d ms) = weight d + members_weight ms
