use Rattle.std.proofs.Common.{take}
use Rattle.fs_locks.specs.Marks.{helds}
use Rattle.fs_locks.specs.Spots.{IndexLess}
use Rattle.fs_locks.proofs.index.Index.take_all.Given as goal

-- what the id held of those so far is taken out
abbrev pub invariant-loop-noted : goal.invariant-loop-noted
invariant-loop-noted l = IndexLess l.fn.self l.self l.id (helds (take l.noted-index l.notes))
