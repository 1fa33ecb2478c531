use Rattle.std.proofs.Common.{◌-◌, drop, sym, ◌∙◌, arith, length-drop}
use Rattle.fs_path.proofs.FieldOrder.{few_apart}
use Rattle.fs_write.specs.Rules.{overlap}
use Rattle.fs_write.proofs.overlap.neighbours_overlap.Goals as goal

pub returns : goal.returns
returns c = sym (c.loop-i.invariant ∙ few_apart overlap (drop (c.loop-i.i - 1) c.args.paths.now) (simp length-drop (omega arith)))
