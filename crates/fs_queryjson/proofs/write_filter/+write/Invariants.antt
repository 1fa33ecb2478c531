use Rattle.std.proofs.Common.{◌≡◌, ◌+◌, ◌*◌, map, take}
use Rattle.serde_json.specs.View.{items_view}
use Rattle.fs_query.specs.Condition.{conditions_of, conditions_weight, weight}
use Rattle.fs_query.specs.View.{view}
use Rattle.fs_queryjson.specs.Held.{AreHeld}
use Rattle.fs_queryjson.specs.Written.{filters_json}
use Rattle.fs_queryjson.proofs.write_filter.+write.Given as goal

abbrev pub decreases-write_filter : goal.decreases-write_filter
decreases-write_filter l = 2 * weight (view l.filter.now)

abbrev pub decreases-write_composite : goal.decreases-write_composite
decreases-write_composite l = 2 * conditions_weight (conditions_of l.filters.now) + 1

abbrev pub decreases-write_items : goal.decreases-write_items
decreases-write_items l = 2 * conditions_weight (conditions_of l.filters.now)

-- the filters so far are written
abbrev pub invariant-write_items-loop-filter : goal.invariant-write_items-loop-filter
invariant-write_items-loop-filter l = record {
  written : items_view l.items.items ≡ filters_json (conditions_of (map view (take l.filter-index l.filter-items)));
  held : AreHeld (conditions_of (map view (take l.filter-index l.filter-items)));
}
