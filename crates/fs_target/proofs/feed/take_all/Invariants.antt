use Rattle.fs_target.specs.Entries.{taken}
use Rattle.fs_target.specs.Seen.{seen}
use Rattle.fs_target.proofs.InPlace.{Changed}
use Rattle.fs_target.proofs.feed.take_all.Given as goal

-- those so far have taken theirs in
abbrev pub invariant-loop-i : goal.invariant-loop-i
invariant-loop-i l = Changed seen (taken l.shard l.to) l.initial.entries l.entries l.i
