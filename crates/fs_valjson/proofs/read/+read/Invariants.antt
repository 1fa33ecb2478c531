use Rattle.std.proofs.Common.{◌≡◌, ◌+◌, ◌*◌, List, ◌++◌, map, drop, string_bytes}
use Rattle.serde_json.specs.Data.{depth, items_depth, members_depth}
use Rattle.serde_json.specs.View.{view as json, items_view, members_view}
use Rattle.serde_json.proofs.Views.{Entry}
use Rattle.fs_path.specs.Way.{place_of}
use Rattle.fs_valjson.specs.Reading.{items_at, entries_at}
use Rattle.fs_json.proofs.Walks.{behind}
use Rattle.fs_valjson.proofs.read.+read.Given as goal

abbrev pub decreases-read_value : goal.decreases-read_value
decreases-read_value l = 2 * depth (json l.v.now)

abbrev pub decreases-read_kind : goal.decreases-read_kind
decreases-read_kind l = 2 * depth (json l.v.now) + 1

abbrev pub decreases-read_array : goal.decreases-read_array
decreases-read_array l = 2 * depth (json l.v.now)

abbrev pub decreases-read_map : goal.decreases-read_map
decreases-read_map l = 2 * depth (json l.v.now)

abbrev pub decreases-read_list : goal.decreases-read_list
decreases-read_list l = 2 * depth (json l.v.now)

abbrev pub decreases-read_fields : goal.decreases-read_fields
decreases-read_fields l = 2 * depth (json l.v.now)

abbrev pub decreases-read_items : goal.decreases-read_items
decreases-read_items l = 2 * items_depth (items_view l.items.now) + 1

abbrev pub decreases-read_entries : goal.decreases-read_entries
decreases-read_entries l = 2 * members_depth (members_view l.members.now.entries) + 1

-- the values so far, and the reading of the rest
abbrev pub invariant-read_items-loop-i : goal.invariant-read_items-loop-i
invariant-read_items-loop-i l =
    behind l.values (items_at (items_view (drop l.i l.items)) l.i (place_of l.way)) ≡ items_at (items_view l.items) 0 (place_of l.way)

-- the fields so far are those of the first members, and the reading of the rest comes behind them
abbrev pub invariant-read_entries-loop-key : goal.invariant-read_entries-loop-key
invariant-read_entries-loop-key l = record {
  done : List Entry;
  whole : l.members.entries ≡ done ++ l.key-iterator;
  keys : map (λ f. f.0) l.fields ≡ map (λ e. string_bytes e.0) done;
  reading : behind l.fields (entries_at (members_view l.key-iterator) (place_of l.way)) ≡ entries_at (members_view l.members.entries) (place_of l.way);
}
