use Rattle.std.proofs.Common.{◌≡◌, map, take}
use Rattle.std.specs.Prelude.{min}
use Rattle.fs_value.specs.Data.{items_of, members_of, weight, items_weight, members_weight, items_depth, members_depth}
use Rattle.fs_value.specs.View.{view, field_view}
use Rattle.fs_value.proofs.nesting.+depth.Given as goal

abbrev pub decreases-depth : goal.decreases-depth
decreases-depth l = weight (view l.v.now)

abbrev pub decreases-items_depth : goal.decreases-items_depth
decreases-items_depth l = items_weight (items_of l.values.now)

abbrev pub decreases-fields_depth : goal.decreases-fields_depth
decreases-fields_depth l = members_weight (members_of l.fields.now)

-- the greatest depth so far
abbrev pub invariant-items_depth-loop-value : goal.invariant-items_depth-loop-value
invariant-items_depth-loop-value l =
    l.deepest ≡ min (items_depth (items_of (map view (take l.value-index l.value-items)))) 4294967295

abbrev pub invariant-fields_depth-loop-field : goal.invariant-fields_depth-loop-field
invariant-fields_depth-loop-field l =
    l.deepest ≡ min (members_depth (members_of (map field_view (take l.field-index l.field-items)))) 4294967295
