-- What is read as a name is one. Each crate that reads JSON may cite it.
use Rattle.std.proofs.Common.{◌≡◌, ℕ, List, Result, Ok, Err, IfOk, refl}
use Rattle.fs_path.specs.Database.{database_of, IsDatabase}
use Rattle.fs_path.specs.Document.{document_of, parent_of, reference_of, IsDocument, IsDocumentOf, IsParentOf}
use Rattle.fs_path.specs.declared.error.PathError.{PathError}
use Rattle.fs_path.specs.declared.name.Root.{Root}
use Rattle.fs_path.proofs.Databases.{database_taken}
use Rattle.fs_path.proofs.Documents.{document_found, parent_found, reference_found}
use Rattle.serde_json.specs.Data.{Data}
use Rattle.fs_json.specs.Paths.{document_name_at, path_at, reference_at}
use Rattle.fs_json.specs.Scalars.{text_at}
use Rattle.fs_json.proofs.Readings.{at_last_holds}

path_holds : {A : Type 0} (P : A → Type 0) (place : List ℕ) (read : Result A PathError) → ((x : A) → read ≡ Ok x → P x) → IfOk (path_at place read) P
path_holds P place (Ok x) is = is x refl
path_holds P place (Err e) is = record {}

-- the name of a document of any project and database
pub reference_is : (d : Data) (place : List ℕ) → IfOk (reference_at d place) IsDocument
reference_is d place =
    at_last_holds IsDocument (text_at d place) _ (λ text. path_holds IsDocument place (reference_of text) (λ n found. (reference_found text n found).0))

-- the name of a document of the root
pub document_name_is : (root : Root) (d : Data) (place : List ℕ) → IfOk (document_name_at root d place) (IsDocumentOf root)
document_name_is root d place =
    at_last_holds (IsDocumentOf root) (text_at d place) _
    (λ text. path_holds (IsDocumentOf root) place (document_of root text) (λ n found. (document_found root text n found).0))

-- the name of the root's database
pub database_is : (root : Root) (text place : List ℕ) → IfOk (path_at place (database_of root text)) (λ u. IsDatabase root)
database_is root text place = path_holds (λ u. IsDatabase root) place (database_of root text) (λ u found. ((database_taken root text).0 found).0)

-- what has collections: the root's documents, or one of them
pub parent_is : (root : Root) (text place : List ℕ) → IfOk (path_at place (parent_of root text)) (IsParentOf root)
parent_is root text place = path_holds (IsParentOf root) place (parent_of root text) (λ ids found. (parent_found root text ids found).0)
