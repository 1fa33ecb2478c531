use Rattle.std.proofs.Common.{◌≡◌, ◌+◌, ◌*◌, drop}
use Rattle.serde_json.specs.Data.{depth, items_depth}
use Rattle.serde_json.specs.View.{view as json, items_view}
use Rattle.fs_path.specs.Way.{place_of}
use Rattle.fs_json.proofs.Walks.{behind}
use Rattle.fs_queryjson.specs.Filter.{each_filter_at}
use Rattle.fs_queryjson.proofs.filter.+filter.Given as goal

abbrev pub decreases-read_filter : goal.decreases-read_filter
decreases-read_filter l = 3 * depth (json l.v.now)

abbrev pub decreases-read_kind : goal.decreases-read_kind
decreases-read_kind l = 3 * depth (json l.v.now) + 2

abbrev pub decreases-read_composite : goal.decreases-read_composite
decreases-read_composite l = 3 * depth (json l.v.now) + 1

abbrev pub decreases-read_inner : goal.decreases-read_inner
decreases-read_inner l = 3 * depth (json l.v.now)

abbrev pub decreases-read_filters : goal.decreases-read_filters
decreases-read_filters l = 3 * depth (json l.v.now)

abbrev pub decreases-read_items : goal.decreases-read_items
decreases-read_items l = 3 * items_depth (items_view l.items.now) + 1

-- the filters so far, and the reading of the rest
abbrev pub invariant-read_items-loop-i : goal.invariant-read_items-loop-i
invariant-read_items-loop-i l =
    behind l.filters (each_filter_at (items_view (drop l.i l.items)) l.i (place_of l.way)) ≡ each_filter_at (items_view l.items) 0 (place_of l.way)
