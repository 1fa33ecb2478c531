use Rattle.std.proofs.Common.{map, take}
use Rattle.std.specs.List.{AllByRecursion}
use Rattle.fs_target.specs.Seen.{seen}
use Rattle.fs_target.specs.Still.{WillBe}
use Rattle.fs_target.proofs.still.all_will_be.Given as goal

abbrev pub invariant-loop-entry : goal.invariant-loop-entry
invariant-loop-entry l = AllByRecursion (WillBe l.time l.positions) (map seen (take l.entry-index l.entries))
