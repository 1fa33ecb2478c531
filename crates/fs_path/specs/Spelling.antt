-- How names are spelled: `projects/{project}/databases/{database}`, and behind it `documents` with the ids of a path, or
-- nothing. (v1 reference, "Document", `name`; `CommitRequest`, `database`.)
use Rattle.std.specs.Prelude.{◌≡◌, ℕ, Bool, false, not, ◌&&◌, List, [], ◌∷◌, ◌++◌, codes, Option, Some, None, Result, Err, if◌then◌else◌}
use Rattle.std.specs.List.{AllByRecursion, flat_map}
use Rattle.std.specs.Option.{option_map}
use Rattle.fs_path.specs.declared.error.PathError.{PathError}
use Rattle.fs_path.specs.declared.error.PathError.TheVariants.{BadPrefix}
use Rattle.fs_path.specs.declared.name.Root.{Root}
use Rattle.fs_path.specs.declared.name.DocName.{DocName}
use Rattle.fs_path.specs.TextOrder.{text_eq}
use Rattle.fs_path.specs.Refusal.{unless_refused}
use Rattle.fs_path.specs.Segment.{segments, has_slash, is_empty}

-- ---- how a name is written

-- an id after its slash
abbrev pub slashed : List ℕ → List ℕ
slashed id = 47 ∷ id

-- a name as it is printed
abbrev pub document_text : DocName → List ℕ
document_text n = codes "projects/" ++ (n.project ++ (codes "/databases/" ++ (n.database ++ (codes "/documents" ++ flat_map slashed n.ids))))

-- a database's name
abbrev pub database_text : Root → List ℕ
database_text r = codes "projects/" ++ (r.project ++ (codes "/databases/" ++ r.database))

-- what a project or a database may be called
pub record IsLabel (text : List ℕ) : Type 0 where
  pub some : is_empty text ≡ false
  pub whole : has_slash text ≡ false

-- a name whatever its ids are, so that its text is the documents of a database, alone or with a path behind a slash
pub record IsSpelled (n : DocName) : Type 0 where
  pub project : IsLabel n.project
  pub database : IsLabel n.database
  pub ids : AllByRecursion (λ id. has_slash id ≡ false) n.ids

-- ---- which name a text is, and why it is none

-- the ids of a path behind a database's documents
abbrev pub documents : List (List ℕ) → Option (List (List ℕ))
documents [] = None
documents (first ∷ ids) = if text_eq first (codes "documents") then Some ids else None

-- nothing behind a database
abbrev pub nothing : List (List ℕ) → Option (List (List ℕ))
nothing [] = Some []
nothing (first ∷ ids) = None

-- the name that the parts of a text spell, with one of these two behind its database
abbrev pub spelled : (List (List ℕ) → Option (List (List ℕ))) → List (List ℕ) → Option DocName
spelled below (a ∷ project ∷ b ∷ database ∷ rest) =
    if text_eq a (codes "projects") && text_eq b (codes "databases") && not (is_empty project) && not (is_empty database)
    then option_map (λ ids. record { project = project; database = database; ids = ids }) (below rest)
    else None
spelled below _ = None

-- what is taken of a name that is spelled, if no test refuses it
abbrev pub if_spelled : {A : Type 0} → (DocName → List (Bool × PathError)) → (DocName → A) → Option DocName → Result A PathError
if_spelled tests take None = Err BadPrefix
if_spelled tests take (Some n) = unless_refused (take n) (tests n)

-- the judgement on a text: what it spells, and then test by test what is wrong with it
abbrev pub judged : {A : Type 0} → (List (List ℕ) → Option (List (List ℕ))) → (DocName → List (Bool × PathError)) → (DocName → A) → List ℕ → Result A PathError
judged below tests take text = if_spelled tests take (spelled below (segments text))

-- whether a name is in the database of the root
abbrev pub is_of : Root → DocName → Bool
is_of root n = text_eq n.project root.project && text_eq n.database root.database
