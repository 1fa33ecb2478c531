use Rattle.std.proofs.Common.{◌-◌, drop, sym, ◌∙◌, arith, length-drop}
use Rattle.fs_path.proofs.FieldOrder.{few_apart}
use Rattle.fs_query.specs.SortedPaths.{same_path}
use Rattle.fs_query.proofs.joining.neighbours_same.Goals as goal

pub returns : goal.returns
returns c = sym (c.loop-i.invariant ∙ few_apart (λ p q. same_path q p) (drop (c.loop-i.i - 1) c.args.paths.now) (simp length-drop (omega arith)))
