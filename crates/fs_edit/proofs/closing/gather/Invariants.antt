use Rattle.std.proofs.Common.{vec_len}
use Rattle.fs_edit.specs.Closing.{stacked}
use Rattle.fs_edit.proofs.Together.{Gathered}
use Rattle.fs_edit.proofs.closing.gather.Given as goal

abbrev pub invariant-loop-change : goal.invariant-loop-change
invariant-loop-change l = Gathered l.initial.changes.items l.changes.items l.gone (stacked l.stack.items)

abbrev pub decreases-loop-change : goal.decreases-loop-change
decreases-loop-change l = vec_len l.changes
