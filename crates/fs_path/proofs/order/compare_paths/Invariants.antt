use Rattle.std.proofs.Common.{◌≡◌, length}
use Rattle.fs_path.specs.PathOrder.{path_cmp}
use Rattle.fs_path.proofs.order.compare_paths.Given as goal

-- what is left compares as the whole
abbrev pub invariant-loop-left : goal.invariant-loop-left
invariant-loop-left l = path_cmp l.left l.right ≡ path_cmp l.fn.a l.fn.b

abbrev pub decreases-loop-left : goal.decreases-loop-left
decreases-loop-left l = length l.left
