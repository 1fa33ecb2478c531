-- The writes and their results that are read back from what is written of them, and those that are read.
use Rattle.std.specs.Prelude.{◌≡◌, None}
use Rattle.std.specs.List.{AllByRecursion}
use Rattle.fs_path.specs.Document.{IsDocumentOf}
use Rattle.fs_path.specs.declared.name.Root.{Root}
use Rattle.fs_value.specs.Data.{items_of, members_of}
use Rattle.fs_valjson.specs.Writing.{ItemsHaveNames, MembersHaveNames}
use Rattle.fs_write.specs.Rules.{input, operand, rule_of_write}
use Rattle.fs_write.specs.WrittenName.{written_name}
use Rattle.fs_write.specs.declared.transform.Transform.{Transform}
use Rattle.fs_write.specs.declared.write.Write.{Write}
use Rattle.fs_write.specs.declared.write_result.WriteResult.{WriteResult}
use Rattle.fs_writejson.specs.declared.draft.Draft.{Draft}

-- the references in the elements of an array transform are names of documents
abbrev pub HasNames : Transform → Type 0
HasNames t = ItemsHaveNames (items_of (operand t.operation))

-- the references in the results of transforms are names of documents
abbrev pub ResultHasNames : WriteResult → Type 0
ResultHasNames r = ItemsHaveNames (items_of r.transforms)

-- a draft's write is of one of the root's documents, and its references are names of documents
pub record IsDraftOf (root : Root) (draft : Draft) : Type 0 where
  pub named : IsDocumentOf root (written_name draft.write)
  pub fields : MembersHaveNames (members_of (input draft.write.act))
  pub elements : AllByRecursion HasNames draft.write.transforms

-- a write of one of the root's documents, whose references are names of documents, and which breaks no rule
pub record IsWriteOf (root : Root) (w : Write) : Type 0 where
  pub named : IsDocumentOf root (written_name w)
  pub fields : MembersHaveNames (members_of (input w.act))
  pub elements : AllByRecursion HasNames w.transforms
  pub allowed : rule_of_write w ≡ None
