use Rattle.std.proofs.Common.{rules, ◌∙◌}
use Rattle.fs_path.proofs.PathOrder.{goes_on_last}
use Rattle.fs_path.proofs.order.compare_paths.Goals as goal

pub returns-in-len1-up-empty : goal.returns-in-len1-up-empty
returns-in-len1-up-empty c = goes_on_last c.loop-left.left.now c.loop-left.right.now (search rules) (search rules) ∙ c.loop-left.invariant
