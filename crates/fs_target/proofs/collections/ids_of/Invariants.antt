use Rattle.std.proofs.Common.{take}
use Rattle.std.specs.List.{AllByRecursion}
use Rattle.fs_target.specs.Collections.{HasThoseOf}
use Rattle.fs_target.specs.declared.entry.Entry.{Entry}
use Rattle.fs_target.proofs.collections.ids_of.Given as goal

abbrev pub invariant-loop-entry : goal.invariant-loop-entry
invariant-loop-entry l = AllByRecursion (λ (e : Entry). HasThoseOf l.ids e.target) (take l.entry-index l.entries)
