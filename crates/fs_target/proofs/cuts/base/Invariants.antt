use Rattle.std.proofs.Common.{◌≡◌, ◌∷◌, drop, map}
use Rattle.std.specs.List.{flat_map}
use Rattle.fs_listen.specs.Cuts.{greatest, greatest_before, times_of}
use Rattle.fs_target.specs.Seen.{Seen, seen}
use Rattle.fs_target.proofs.cuts.base.Given as goal

-- the greatest of all is that of those so far and of those that are left
abbrev pub invariant-loop-entry : goal.invariant-loop-entry
invariant-loop-entry l =
    greatest (l.fn.raised ∷ flat_map (λ (s : Seen). times_of s.listened) (map seen l.entries))
    ≡ greatest_before l.base (greatest (flat_map (λ (s : Seen). times_of s.listened) (map seen (drop l.entry-index l.entries))))
