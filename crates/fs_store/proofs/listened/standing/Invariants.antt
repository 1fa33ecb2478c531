use Rattle.std.proofs.Common.{◌≡◌, ◌++◌}
use Rattle.fs_versions.specs.Listed.{all_shown}
use Rattle.fs_path.proofs.NamesOnce.{names_at}
use Rattle.fs_store.proofs.Standing.{chains_at}
use Rattle.fs_store.proofs.listened.standing.Given as goal

-- the documents so far, and then those of the names that are left, are the whole
abbrev pub invariant-loop-name : goal.invariant-loop-name
invariant-loop-name l =
    l.documents ++ all_shown l.time (chains_at l.versions.chains (names_at l.name-iterator)) ≡ all_shown l.time (chains_at l.versions.chains (names_at l.initial.name-iterator))
