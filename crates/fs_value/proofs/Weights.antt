-- An element weighs less than its list, and a field's value less than its fields.
use Rattle.std.proofs.Common.{ℕ, zero, suc, ◌<◌, List, [], ◌∷◌, map, length, get_or, arith}
use Rattle.fs_value.specs.Data.{Data, null, boolean, integer, timestamp, string, bytes, reference, array, object, weight, items_weight, members_weight, items_of, members_of}
use Rattle.fs_value.specs.View.{view, field_view}
use Rattle.fs_value.specs.declared.value.Value.{Value}
use Rattle.fs_value.specs.declared.fields.Field.{Field}

weight_some : (d : Data) → 0 < weight d
weight_some null = omega arith
weight_some (boolean b) = omega arith
weight_some (integer n) = omega arith
weight_some (timestamp t) = omega arith
weight_some (string s) = omega arith
weight_some (bytes s) = omega arith
weight_some (reference n) = omega arith
weight_some (array ds) = omega arith
weight_some (object ms) = omega arith

items_weight_some : (ds : List Data) → 0 < items_weight (items_of ds)
items_weight_some [] = omega arith
items_weight_some (d ∷ ds) = omega (arith, weight_some d)

members_weight_some : (fs : List (List ℕ × Data)) → 0 < members_weight (members_of fs)
members_weight_some [] = omega arith
members_weight_some (f ∷ fs) = omega (arith, weight_some f.1)

pub item_lighter : (vs : List Value) (k : ℕ) (v : Value) → k < length vs → weight (view (get_or vs k v)) < items_weight (items_of (map view vs))
item_lighter [] k v h = absurd (omega arith)
item_lighter (w ∷ vs) zero v h = omega (arith, items_weight_some (map view vs))
item_lighter (w ∷ vs) (suc k) v h = omega (arith, item_lighter vs k v (omega arith))

pub field_lighter : (fs : List Field) (k : ℕ) (f : Field) → k < length fs → weight (view (get_or fs k f).value) < members_weight (members_of (map field_view fs))
field_lighter [] k f h = absurd (omega arith)
field_lighter (g ∷ fs) zero f h = omega (arith, members_weight_some (map field_view fs))
field_lighter (g ∷ fs) (suc k) f h = omega (arith, field_lighter fs k f (omega arith))
