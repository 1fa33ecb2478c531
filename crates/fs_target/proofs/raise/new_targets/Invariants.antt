use Rattle.std.proofs.Common.{◌≡◌, map, take}
use Rattle.fs_target.specs.Entries.{new_ids}
use Rattle.fs_target.specs.Seen.{listed_in, seen}
use Rattle.fs_target.proofs.raise.new_targets.Given as goal

-- those of the entries so far
abbrev pub invariant-loop-entry : goal.invariant-loop-entry
invariant-loop-entry l = l.ids ≡ new_ids (map listed_in (map seen (take l.entry-index l.entries)))
