use Rattle.std.proofs.Common.{◌≡◌, map, take}
use Rattle.std.specs.Prelude.{min}
use Rattle.fs_value.specs.Data.{items_of, members_of, weight, items_weight, members_weight}
use Rattle.fs_value.specs.Size.{items_size, members_size}
use Rattle.fs_value.specs.View.{view, field_view}
use Rattle.fs_value.proofs.counted.+size.Given as goal

abbrev pub decreases-value_size : goal.decreases-value_size
decreases-value_size l = weight (view l.v.now)

abbrev pub decreases-items_size : goal.decreases-items_size
decreases-items_size l = items_weight (items_of l.values.now)

abbrev pub decreases-fields_size : goal.decreases-fields_size
decreases-fields_size l = members_weight (members_of l.fields.now)

-- the size so far
abbrev pub invariant-items_size-loop-value : goal.invariant-items_size-loop-value
invariant-items_size-loop-value l =
    l.size ≡ min (items_size (items_of (map view (take l.value-index l.value-items)))) 340282366920938463463374607431768211455

abbrev pub invariant-fields_size-loop-field : goal.invariant-fields_size-loop-field
invariant-fields_size-loop-field l =
    l.size ≡ min (members_size (members_of (map field_view (take l.field-index l.field-items)))) 340282366920938463463374607431768211455
