-- The name of a document, and the one text that holds it: `demo/(default)/c/a` has the project `demo`, the database
-- `(default)` and the ids `c` and `a`.
use Rattle.std.specs.Prelude.{ℕ, ◌<◌, List, [], ◌∷◌, length}
use Rattle.std.specs.List.{join_with_byte}
use Rattle.fs_path.specs.Segment.{segments}

-- a document's name
pub record Name : Type 0 where
  pub project : List ℕ
  pub database : List ℕ
  pub ids : List (List ℕ)

-- the name that the parts of its text make
abbrev pub named : List (List ℕ) → Name
named (project ∷ database ∷ ids) = record { project = project; database = database; ids = ids }
named _ = record { project = []; database = []; ids = [] }

abbrev pub name_in : List ℕ → Name
name_in path = named (segments path)

-- a text that holds a name: there is a project and a database
abbrev pub IsPath : List ℕ → Type 0
IsPath path = 1 < length (segments path)

-- the text that holds a name
abbrev pub path_of : Name → List ℕ
path_of n = join_with_byte 47 (n.project ∷ n.database ∷ n.ids)
