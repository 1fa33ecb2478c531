-- The names of documents, and of what has collections. (v1 reference, "Document", `name`; "Value", `referenceValue`;
-- "projects.databases.documents", `parent`.)
use Rattle.std.specs.Prelude.{◌≡◌, ℕ, ◌<◌, ◌≤◌, ◌%◌, not, List, ◌∷◌, length, Result}
use Rattle.std.specs.List.{AllByRecursion}
use Rattle.fs_path.specs.declared.error.PathError.{PathError}
use Rattle.fs_path.specs.declared.error.PathError.TheVariants.{WrongDatabase}
use Rattle.fs_path.specs.declared.name.Root.{Root}
use Rattle.fs_path.specs.declared.name.DocName.{DocName}
use Rattle.fs_path.specs.Limits.{max_name, max_segments}
use Rattle.fs_path.specs.Segment.{IsId}
use Rattle.fs_path.specs.Findings.{findings, document_refusals, parent_refusals}
pub use Rattle.fs_path.specs.Spelling.{document_text, IsLabel, IsSpelled}
use Rattle.fs_path.specs.Spelling.{documents, judged, is_of}

-- ---- which names there are

-- the name of a document of some database
pub record IsDocument (n : DocName) : Type 0 where
  pub project : IsLabel n.project
  pub database : IsLabel n.database
  pub ids : AllByRecursion IsId n.ids
  pub some : 0 < length n.ids
  pub even : length n.ids % 2 ≡ 0
  pub deep : length n.ids ≤ max_segments
  pub long : length (document_text n) ≤ max_name

-- the name of a document of this root
pub record IsDocumentOf (root : Root) (n : DocName) : Type 0 where
  pub document : IsDocument n
  pub project : n.project ≡ root.project
  pub database : n.database ≡ root.database

-- a name in the root's database
abbrev pub under : Root → List (List ℕ) → DocName
under root ids = record { project = root.project; database = root.database; ids = ids }

-- what has collections: the root, or the path of a document
pub record IsParentOf (root : Root) (path : List (List ℕ)) : Type 0 where
  pub project : IsLabel root.project
  pub database : IsLabel root.database
  pub ids : AllByRecursion IsId path
  pub even : length path % 2 ≡ 0
  pub deep : length path ≤ max_segments
  pub long : length (document_text (under root path)) ≤ max_name

-- ---- which name a text is, or the first reason why it is none

-- the name of a document of any database
abbrev pub reference_of : List ℕ → Result DocName PathError
reference_of text = judged documents (λ n. document_refusals (findings n.ids) (length text)) (λ n. n) text

-- the name of a document of the root
abbrev pub document_of : Root → List ℕ → Result DocName PathError
document_of root text = judged documents (λ n. (not (is_of root n), WrongDatabase) ∷ document_refusals (findings n.ids) (length text)) (λ n. n) text

-- the ids of a parent in the root's database
abbrev pub parent_of : Root → List ℕ → Result (List (List ℕ)) PathError
parent_of root text = judged documents (λ n. (not (is_of root n), WrongDatabase) ∷ parent_refusals (findings n.ids) (length text)) (λ n. n.ids) text
