-- What a chain shows, and what becomes of it.
use Rattle.std.specs.Prelude.{ℤ, List, [], ◌∷◌, ◌++◌, reverse, Option, Some, None}
use Rattle.fs_value.specs.declared.document.Document.{Document}
use Rattle.fs_write.specs.declared.change.Change.{Change}
use Rattle.fs_history.specs.Versions.{newest, shown, kept}
use Rattle.fs_history.specs.declared.version.Version.{Version}

-- the document of the newest version at or before a time
abbrev pub shown_at : ℤ → List Version → Option Document
shown_at time chain = shown time (reverse chain)

-- that of the last version
abbrev pub last_document : List Version → Option Document
last_document chain = newest (reverse chain)

-- after a change at a time, if there is one
abbrev pub extended : ℤ → Option Change → List Version → List Version
extended time None chain = chain
extended time (Some c) chain = chain ++ record { time = time; after = c.after } ∷ []

-- from a floor on
abbrev pub cut : ℤ → List Version → List Version
cut floor chain = reverse (kept floor (reverse chain))
