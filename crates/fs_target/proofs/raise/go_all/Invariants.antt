use Rattle.fs_target.specs.Entries.{gone_to}
use Rattle.fs_target.specs.Seen.{seen}
use Rattle.fs_target.proofs.InPlace.{Changed}
use Rattle.fs_target.proofs.raise.go_all.Given as goal

-- those so far are at the time
abbrev pub invariant-loop-i : goal.invariant-loop-i
invariant-loop-i l = Changed seen (gone_to l.time) l.initial.entries l.entries l.i
