use Rattle.std.proofs.Common.{◌≡◌, drop, map}
use Rattle.fs_target.specs.Seen.{seen}
use Rattle.fs_target.specs.Still.{all_joined, nones}
use Rattle.fs_target.proofs.still.all_joined.Given as goal

-- with those that are left they are those of all
abbrev pub invariant-loop-entry : goal.invariant-loop-entry
invariant-loop-entry l = all_joined l.positions.items (map seen (drop l.entry-index l.entries)) ≡ all_joined (nones l.positions.items) (map seen l.entries)
