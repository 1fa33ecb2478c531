use Rattle.std.proofs.Common.{◌≡◌, map, drop}
use Rattle.fs_value.specs.Data.{items_of, members_of}
use Rattle.fs_value.specs.View.{view, field_view}
use Rattle.fs_write.specs.ValueRules.{items_have_arrays, members_have_array_in_array}
use Rattle.fs_write.proofs.value_rules.+array_in_array.Given as goal

abbrev pub invariant-items_have_arrays-loop-value : goal.invariant-items_have_arrays-loop-value
invariant-items_have_arrays-loop-value l =
    items_have_arrays (items_of (map view l.value-items)) ≡ items_have_arrays (items_of (map view (drop l.value-index l.value-items)))

abbrev pub invariant-fields_have_array_in_array-loop-field : goal.invariant-fields_have_array_in_array-loop-field
invariant-fields_have_array_in_array-loop-field l =
    members_have_array_in_array (members_of (map field_view l.field-items)) ≡ members_have_array_in_array (members_of (map field_view (drop l.field-index l.field-items)))
