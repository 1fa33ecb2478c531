use Rattle.std.proofs.Common.{◌≡◌, drop, map}
use Rattle.std.specs.List.{flat_map}
use Rattle.fs_listen.specs.Cuts.{least, least_before, positions_of}
use Rattle.fs_target.specs.Seen.{Seen, seen}
use Rattle.fs_target.proofs.cuts.least_of_all.Given as goal

-- the least of all is that of those so far and of those that are left
abbrev pub invariant-loop-entry : goal.invariant-loop-entry
invariant-loop-entry l =
    least (flat_map (λ (s : Seen). positions_of s.listened.loaded) (map seen l.entries))
    ≡ least_before l.least (least (flat_map (λ (s : Seen). positions_of s.listened.loaded) (map seen (drop l.entry-index l.entries))))
