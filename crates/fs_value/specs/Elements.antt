-- The elements of arrays, and which values an array contains. (v1 reference, "StructuredQuery.FieldFilter.Operator",
-- `ARRAY_CONTAINS`; "DocumentTransform.FieldTransform".)
use Rattle.std.specs.Prelude.{Bool, List, []}
use Rattle.std.specs.List.{list_any}
use Rattle.std.specs.Ordering.{eq_by_cmp}
use Rattle.fs_value.specs.Data.{Data, array, list_of}
use Rattle.fs_value.specs.ValueOrder.{value_cmp}

-- the elements of an array. What is no array has none
abbrev pub elements : Data → List Data
elements (array ds) = list_of ds
elements d = []

-- two values are the same where they compare equal: the order tells different values apart
abbrev pub same : Data → Data → Bool
same = eq_by_cmp value_cmp

-- an array of these elements contains a value: [1, 2] contains 2
abbrev pub array_contains : List Data → Data → Bool
array_contains ds d = list_any (same d) ds
