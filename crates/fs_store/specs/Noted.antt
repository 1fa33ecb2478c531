-- What a store notes of a commit: for each of its changes the commit's time and number, and the name of the document.
use Rattle.std.specs.Prelude.{ℕ, ℤ, List, [], ◌∷◌, ◌++◌, map}
use Rattle.fs_path.specs.declared.name.DocName.{DocName}
use Rattle.fs_write.specs.declared.change.Change.{Change}
use Rattle.fs_write.specs.declared.timed_change.TimedChange.{TimedChange}
use Rattle.fs_store.specs.declared.noted.Noted.{Noted}

abbrev pub names_of : List Change → List DocName
names_of changes = map (λ d. d.name) changes

abbrev pub noted_names : ℤ → ℕ → List DocName → List Noted
noted_names time id names = map (λ name. record { time = time; id = id; name = name }) names

-- of commits, one after another
abbrev pub all_noted : List TimedChange → List Noted
all_noted [] = []
all_noted (c ∷ cs) = noted_names c.time c.id (names_of c.changes) ++ all_noted cs
