use Rattle.std.proofs.Common.{◌≡◌, ◌+◌, ◌*◌, map, take}
use Rattle.serde_json.specs.View.{items_view, members_view}
use Rattle.fs_value.specs.Data.{items_of, members_of, weight, items_weight, members_weight}
use Rattle.fs_value.specs.View.{view, field_view}
use Rattle.fs_valjson.specs.Held.{ItemsAreHeld, MembersAreHeld}
use Rattle.fs_valjson.specs.Writing.{items_json, members_json}
use Rattle.fs_valjson.proofs.write.+write.Given as goal

abbrev pub decreases-write : goal.decreases-write
decreases-write l = 2 * weight (view l.v.now)

abbrev pub decreases-write_content : goal.decreases-write_content
decreases-write_content l = 2 * items_weight (items_of l.values.now) + 1

abbrev pub decreases-write_items : goal.decreases-write_items
decreases-write_items l = 2 * items_weight (items_of l.values.now)

abbrev pub decreases-write_map : goal.decreases-write_map
decreases-write_map l = 2 * members_weight (members_of l.fields.now) + 1

abbrev pub decreases-write_members : goal.decreases-write_members
decreases-write_members l = 2 * members_weight (members_of l.fields.now)

-- the values so far are written
abbrev pub invariant-write_items-loop-value : goal.invariant-write_items-loop-value
invariant-write_items-loop-value l = record {
  written : items_view l.items.items ≡ items_json (items_of (map view (take l.value-index l.value-items)));
  held : ItemsAreHeld (items_of (map view (take l.value-index l.value-items)));
}

-- the fields so far are written
abbrev pub invariant-write_members-loop-field : goal.invariant-write_members-loop-field
invariant-write_members-loop-field l = record {
  written : members_view l.members.entries ≡ members_json (members_of (map field_view (take l.field-index l.field-items)));
  held : MembersAreHeld (members_of (map field_view (take l.field-index l.field-items)));
}
