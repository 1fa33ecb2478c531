use Rattle.std.proofs.Common.{◌≡◌, drop, map}
use Rattle.fs_listen.specs.Cuts.{first_loading}
use Rattle.fs_target.specs.Seen.{listed_in, seen}
use Rattle.fs_target.proofs.cuts.first_loading.Given as goal

-- the first is among those that are left
abbrev pub invariant-loop-entry : goal.invariant-loop-entry
invariant-loop-entry l = first_loading (map listed_in (map seen l.entries)) ≡ first_loading (map listed_in (map seen (drop l.entry-index l.entries)))
