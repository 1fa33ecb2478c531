-- Only private clauses cite this: the documents that are written so far, each with the one of before.
use Rattle.std.specs.Prelude.{◌≡◌, cond, ℤ, IsTrue, List, ◌∷◌, Option, Some, None, Ok}
use Rattle.std.specs.BTreeMap.{is_at}
use Rattle.std.specs.FinMap.{find, get, is_sorted}
use Rattle.std.specs.Map.{lookup}
use Rattle.fs_path.specs.NameOrder.{name_cmp}
use Rattle.fs_path.specs.declared.name.DocName.{DocName}
use Rattle.fs_value.specs.declared.document.Document.{Document}
use Rattle.fs_write.specs.Batch.{Docs, with_document, changes_by_name, change_of}
use Rattle.fs_write.specs.OneWrite.{one_write}
use Rattle.fs_write.specs.WrittenName.{written_name}
use Rattle.fs_write.specs.declared.batch.Staged.{Staged}
use Rattle.fs_write.specs.declared.change.Change.{Change}
use Rattle.fs_write.specs.declared.write.Write.{Write}
use Rattle.fs_write.specs.declared.write_result.WriteResult.{WriteResult}

abbrev pub staged_at : DocName → List (DocName × Staged) → Option Staged
staged_at name stage = lookup (is_at (name_cmp name)) stage

-- a name's document before and now. One that isn't written yet has the document that is there
abbrev pub both_of : Option Document → Option Staged → Option Document × Option Document
both_of there None = (there, there)
both_of there (Some s) = (s.before, s.now)

-- these are the documents of the stage, which began as those
abbrev pub IsStage : Docs → List (DocName × Staged) → Docs → Type 0
IsStage docs stage after = (name : DocName) → both_of (get docs name) (staged_at name stage) ≡ (get docs name, get after name)

abbrev pub now_at : Docs → List (DocName × Staged) → DocName → Option Document
now_at docs stage name = (both_of (get docs name) (staged_at name stage)).1

-- the stage without a name
abbrev pub IsTaken : List (DocName × Staged) → List (DocName × Staged) → DocName → Type 0
IsTaken old new name = (q : DocName) → staged_at q new ≡ cond (is_at (name_cmp name) q) None (staged_at q old)

-- the stage with a name's documents
abbrev pub IsPut : List (DocName × Staged) → List (DocName × Staged) → DocName → Staged → Type 0
IsPut old new name s = (q : DocName) → staged_at q new ≡ cond (is_at (name_cmp name) q) (Some s) (staged_at q old)

-- the stage after one more write, which had this result
pub record IsNext (docs : Docs) (old new : List (DocName × Staged)) (write : Write) (time : ℤ) (answer : WriteResult) (after : Docs) : Type 0 where
  pub done : one_write (get after (written_name write)) write time ≡ Ok (now_at docs new (written_name write), answer)
  pub stage : IsStage docs new (with_document after (written_name write) (now_at docs new (written_name write)))

-- the changes, and before them the change of one more name, if it has one
abbrev pub with_change : Option Change → List Change → List Change
with_change None changes = changes
with_change (Some c) changes = c ∷ changes

abbrev pub staged_change : DocName → Option Staged → Option Change
staged_change name None = None
staged_change name (Some s) = change_of name s.before s.now

-- the changes of a stage: in the order of names, and each name's is that of its documents
pub record AreStagedChanges (stage : List (DocName × Staged)) (changes : List Change) : Type 0 where
  pub rise : IsTrue (is_sorted name_cmp (changes_by_name changes))
  pub named_changes : (name : DocName) → find name_cmp name (changes_by_name changes) ≡ staged_change name (staged_at name stage)
