use Rattle.std.proofs.Common.{◌≡◌, drop, map}
use Rattle.fs_listen.specs.Cuts.{least, least_before}
use Rattle.fs_target.specs.Held.{position_of}
use Rattle.fs_target.specs.Seen.{Seen, seen}
use Rattle.fs_target.proofs.cuts.least_in.Given as goal

-- the least of all is that of those so far and of those that are left
abbrev pub invariant-loop-entry : goal.invariant-loop-entry
invariant-loop-entry l =
    least (map (λ (s : Seen). position_of l.shard s.listened.loaded) (map seen l.entries))
    ≡ least_before l.least (least (map (λ (s : Seen). position_of l.shard s.listened.loaded) (map seen (drop l.entry-index l.entries))))
