use Rattle.fs_value.specs.Data.{items_of, members_of, weight, items_weight, members_weight}
use Rattle.fs_value.specs.View.{view}
use Rattle.fs_value.proofs.Comparing.{ItemsFrom, MembersFrom}
use Rattle.fs_value.proofs.order.+compare.Given as goal

abbrev pub decreases-compare : goal.decreases-compare
decreases-compare l = weight (view l.a.now)

abbrev pub decreases-compare_items : goal.decreases-compare_items
decreases-compare_items l = items_weight (items_of l.a.now)

abbrev pub decreases-compare_fields : goal.decreases-compare_fields
decreases-compare_fields l = members_weight (members_of l.x.now)

-- the elements before i are the same, so the rest decides
abbrev pub invariant-compare_items-loop-i : goal.invariant-compare_items-loop-i
invariant-compare_items-loop-i l = ItemsFrom l.a l.b l.i

-- the fields before i are the same, so the rest decides
abbrev pub invariant-compare_fields-loop-i : goal.invariant-compare_fields-loop-i
invariant-compare_fields-loop-i l = MembersFrom l.x l.y l.i
