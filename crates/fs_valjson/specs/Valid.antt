-- The documents that are read back from what is written of them, and those that are read; and lists of values.
use Rattle.std.specs.Prelude.{◌≡◌, ℕ, List, Ok}
use Rattle.fs_path.specs.Document.{IsDocumentOf}
use Rattle.fs_path.specs.declared.name.Root.{Root}
use Rattle.fs_value.specs.Data.{Data, items_of, members_of}
use Rattle.fs_value.specs.declared.document.Document.{Document}
use Rattle.fs_valjson.specs.Document.{document_at, document_json}
use Rattle.fs_valjson.specs.Reading.{list_at}
use Rattle.fs_valjson.specs.Tokens.{IsReadFromTokens}
use Rattle.fs_valjson.specs.Writing.{list_json, ItemsHaveNames, MembersHaveNames}

-- a document of the root, whose references are names of documents
pub record IsValid (root : Root) (d : Document) : Type 0 where
  pub named : IsDocumentOf root d.name
  pub names : MembersHaveNames (members_of d.fields)

-- ---- what is read back

-- what is written of a document, at any place, where it is one of the root and its references are names of documents; and from its tokens
pub record IsDocumentHeld (d : Document) : Type 0 where
  pub again : (root : Root) (place : List ℕ) → IsValid root d → document_at root (document_json d) place ≡ Ok d
  pub from_tokens : IsReadFromTokens (document_json d)

-- the same of a list of values
pub record IsListHeld (ds : List Data) : Type 0 where
  pub again : (place : List ℕ) → ItemsHaveNames (items_of ds) → list_at (list_json ds) place ≡ Ok ds
  pub from_tokens : IsReadFromTokens (list_json ds)
