use Rattle.std.proofs.Common.{◌≡◌, map, drop}
use Rattle.fs_value.specs.Data.{items_of, members_of}
use Rattle.fs_value.specs.View.{view, field_view}
use Rattle.fs_write.specs.ValueRules.{items_have_bad_name, members_have_bad_name}
use Rattle.fs_write.proofs.value_rules.+bad_name.Given as goal

abbrev pub invariant-items_have_bad_name-loop-value : goal.invariant-items_have_bad_name-loop-value
invariant-items_have_bad_name-loop-value l =
    items_have_bad_name (items_of (map view l.value-items)) ≡ items_have_bad_name (items_of (map view (drop l.value-index l.value-items)))

abbrev pub invariant-fields_have_bad_name-loop-field : goal.invariant-fields_have_bad_name-loop-field
invariant-fields_have_bad_name-loop-field l =
    members_have_bad_name (members_of (map field_view l.field-items)) ≡ members_have_bad_name (members_of (map field_view (drop l.field-index l.field-items)))
