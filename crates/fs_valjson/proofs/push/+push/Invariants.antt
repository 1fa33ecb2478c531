use Rattle.std.proofs.Common.{◌≡◌, ◌+◌, ◌*◌, ◌++◌, map, drop, take}
use Rattle.json.specs.Tree.{items_tokens, members_tokens}
use Rattle.serde_json.specs.Written.{items_outline, members_outline}
use Rattle.fs_value.specs.Data.{items_of, members_of, weight, items_weight, members_weight}
use Rattle.fs_value.specs.View.{view, field_view}
use Rattle.fs_valjson.specs.Held.{ItemsAreHeld, MembersAreHeld}
use Rattle.fs_valjson.specs.Tokens.{tokens_of}
use Rattle.fs_valjson.specs.Writing.{items_json, list_json, members_json}
use Rattle.serde_json.specs.Data.{object}
use Rattle.fs_valjson.proofs.push.+push.Given as goal

abbrev pub decreases-push_value : goal.decreases-push_value
decreases-push_value l = 4 * weight (view l.v.now)

abbrev pub decreases-push_array : goal.decreases-push_array
decreases-push_array l = 4 * items_weight (items_of l.values.now) + 3

abbrev pub decreases-push_content : goal.decreases-push_content
decreases-push_content l = 4 * items_weight (items_of l.values.now) + 2

abbrev pub decreases-push_values : goal.decreases-push_values
decreases-push_values l = 4 * items_weight (items_of l.values.now) + 1

abbrev pub decreases-push_items : goal.decreases-push_items
decreases-push_items l = 4 * items_weight (items_of l.values.now)

abbrev pub decreases-push_map : goal.decreases-push_map
decreases-push_map l = 4 * members_weight (members_of l.fields.now) + 3

abbrev pub decreases-push_fields_content : goal.decreases-push_fields_content
decreases-push_fields_content l = 4 * members_weight (members_of l.fields.now) + 2

abbrev pub decreases-push_fields : goal.decreases-push_fields
decreases-push_fields l = 4 * members_weight (members_of l.fields.now) + 1

abbrev pub decreases-push_members : goal.decreases-push_members
decreases-push_members l = 4 * members_weight (members_of l.fields.now)

-- what is written so far, and the tokens of the values that are left with their bracket, are the list; and those so far are held
abbrev pub invariant-push_items-loop-value : goal.invariant-push_items-loop-value
invariant-push_items-loop-value l = record {
  whole : l.line.tokens ++ items_tokens (items_outline (items_json (items_of (map view (drop l.value-index l.value-items))))) ≡ l.fn.line.tokens ++ tokens_of (list_json l.fn.values);
  before : l.line.before ≡ l.fn.line.before;
  held : ItemsAreHeld (items_of (map view (take l.value-index l.value-items)));
}

-- the same of fields
abbrev pub invariant-push_members-loop-field : goal.invariant-push_members-loop-field
invariant-push_members-loop-field l = record {
  whole : l.line.tokens ++ members_tokens (members_outline (members_json (members_of (map field_view (drop l.field-index l.field-items))))) ≡ l.fn.line.tokens ++ tokens_of (object (members_json (members_of l.fn.fields)));
  before : l.line.before ≡ l.fn.line.before;
  held : MembersAreHeld (members_of (map field_view (take l.field-index l.field-items)));
}
