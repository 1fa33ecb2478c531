use Rattle.std.proofs.Common.{◌≡◌, drop}
use Rattle.fs_store.specs.Told.{told, told_behind}
use Rattle.fs_store.proofs.told.commits_told.Given as goal

-- with those that are left they are all
abbrev pub invariant-loop-entry : goal.invariant-loop-entry
invariant-loop-entry l = told_behind l.versions.chains l.commits.items (drop l.entry-index l.noted) ≡ told l.versions.chains l.noted
