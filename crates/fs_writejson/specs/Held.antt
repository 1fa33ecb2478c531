-- What only private clauses cite: that the parts of a write, as they are written, are read back.
use Rattle.std.specs.Prelude.{◌≡◌, ℕ, true, List, Ok}
use Rattle.fs_path.specs.Document.{document_text, IsDocumentOf}
use Rattle.fs_path.specs.declared.field.FieldPath.{FieldPath}
use Rattle.fs_path.specs.declared.name.DocName.{DocName}
use Rattle.fs_path.specs.declared.name.Root.{Root}
use Rattle.serde_json.specs.Data.{string}
use Rattle.fs_value.specs.Data.{Data, items_of, members_of}
use Rattle.fs_json.specs.Paths.{document_name_at, IsPathHeld}
use Rattle.fs_json.specs.Time.{time_at, time_json}
use Rattle.fs_valjson.specs.Document.{document_at, untimed, update_json}
use Rattle.fs_valjson.specs.Writing.{ItemsHaveNames, MembersHaveNames}
use Rattle.fs_write.specs.Rules.{operand}
use Rattle.fs_write.specs.declared.transform.Operation.{Operation}
use Rattle.fs_write.specs.declared.transform.Transform.{Transform}
use Rattle.fs_write.specs.declared.write.Act.{Act}
use Rattle.fs_write.specs.declared.write.Act.TheVariants.{Set, Merge, Delete}
use Rattle.fs_write.specs.declared.write.Precondition.{Precondition}
use Rattle.fs_write.specs.declared.write.Precondition.TheVariants as condition
use Rattle.fs_writejson.specs.Mask.{mask_at, mask_json}
use Rattle.fs_writejson.specs.Transform.{operation_at, operation_json, operation_name}

abbrev pub IsOperationHeld : Operation → Type 0
IsOperationHeld o = (place : List ℕ) → ItemsHaveNames (items_of (operand o)) → operation_at (operation_name o) (operation_json o) place ≡ Ok (o, true)

abbrev pub IsTransformHeld : Transform → Type 0
IsTransformHeld t = IsPathHeld t.path × IsOperationHeld t.operation

abbrev pub IsUpdateHeld : DocName → List (List ℕ × Data) → Type 0
IsUpdateHeld name fields = (root : Root) (place : List ℕ) → IsDocumentOf root name → MembersHaveNames (members_of fields)
    → document_at root (update_json name fields) place ≡ Ok (untimed name fields)

abbrev pub IsMaskHeld : List FieldPath → Type 0
IsMaskHeld mask = (place : List ℕ) → mask_at (mask_json mask) place ≡ Ok mask

abbrev pub IsActHeld : Act → Type 0
IsActHeld (Set name fields) = IsUpdateHeld name fields
IsActHeld (Merge name fields mask) = IsUpdateHeld name fields × IsMaskHeld mask
IsActHeld (Delete name) = (root : Root) (place : List ℕ) → IsDocumentOf root name → document_name_at root (string (document_text name)) place ≡ Ok name

abbrev pub IsConditionHeld : Precondition → Type 0
IsConditionHeld (condition.UpdateTime time) = (place : List ℕ) → time_at (time_json time) place ≡ Ok time
IsConditionHeld _ = Unit {0}
