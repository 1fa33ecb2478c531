use Rattle.std.proofs.Common.{◌≡◌, length}
use Rattle.fs_path.specs.PathOrder.{path_cmp}
use Rattle.fs_path.proofs.order.past_alike.Given as goal

-- what is left compares as the whole
abbrev pub invariant-loop-x : goal.invariant-loop-x
invariant-loop-x l = path_cmp l.left l.right ≡ path_cmp l.fn.a l.fn.b

abbrev pub decreases-loop-x : goal.decreases-loop-x
decreases-loop-x l = length l.left
