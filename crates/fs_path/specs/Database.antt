-- The names of databases: `projects/{project}/databases/{database}`. (v1 reference, `CommitRequest`, `database`.)
use Rattle.std.specs.Prelude.{ℕ, not, List, [], ◌∷◌, Result, ⊤}
use Rattle.fs_path.specs.declared.error.PathError.{PathError}
use Rattle.fs_path.specs.declared.error.PathError.TheVariants.{WrongDatabase}
use Rattle.fs_path.specs.declared.name.Root.{Root}
pub use Rattle.fs_path.specs.Spelling.{database_text}
use Rattle.fs_path.specs.Spelling.{IsLabel, nothing, judged, is_of}

-- what a database may be called
pub record IsDatabase (r : Root) : Type 0 where
  pub project : IsLabel r.project
  pub database : IsLabel r.database

-- whether a text names the root's database, or the first reason why it doesn't
abbrev pub database_of : Root → List ℕ → Result ⊤ PathError
database_of root text = judged nothing (λ n. (not (is_of root n), WrongDatabase) ∷ []) (λ n. tt) text
