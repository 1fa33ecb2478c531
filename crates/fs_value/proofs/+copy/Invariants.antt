use Rattle.std.proofs.Common.{◌≡◌, map, take}
use Rattle.fs_value.specs.View.{view, field_view}
use Rattle.fs_value.proofs.+copy.Given as goal

-- the fields so far are copied
abbrev pub invariant-fields::Fields::copy-loop-field : goal.invariant-fields::Fields::copy-loop-field
invariant-fields::Fields::copy-loop-field l =
    map field_view l.items.items ≡ map field_view (take l.field-index l.field-items)

-- the values so far are copied
abbrev pub invariant-values::Values::copy-loop-value : goal.invariant-values::Values::copy-loop-value
invariant-values::Values::copy-loop-value l =
    map view l.items.items ≡ map view (take l.value-index l.value-items)
