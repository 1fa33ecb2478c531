use Rattle.std.proofs.Common.{◌≡◌, map, drop}
use Rattle.std.specs.Prelude.{nat_lt}
use Rattle.fs_value.specs.Data.{items_of, items_depth}
use Rattle.fs_value.specs.Limits.{deepest_value}
use Rattle.fs_value.specs.View.{view}
use Rattle.fs_write.proofs.value_rules.are_items_deep.Given as goal

-- the elements so far are flat enough, so the rest decides
abbrev pub invariant-loop-value : goal.invariant-loop-value
invariant-loop-value l =
    nat_lt deepest_value (items_depth (items_of (map view l.value-items))) ≡ nat_lt deepest_value (items_depth (items_of (map view (drop l.value-index l.value-items))))
