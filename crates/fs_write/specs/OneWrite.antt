-- One write, on the document of its name: from the document that is there or none, the write and the time of its commit,
-- the document afterwards or none and the write's result, or the fault for which the commit is refused.
--
--     {n: 1}, updated at 5     update to {n: 2} at 9              {n: 2}, updated at 9     its result is 9
--     {n: 1}, updated at 5     update to {n: 1} at 9              {n: 1}, updated at 5     its result is 5
--     {n: 1}, updated at 5     delete at 9                        none                     its result has no time
--     none                     update that wants a document       the fault `missing`
-- (v1 reference, "Write", "Precondition", "WriteResult"; Cloud Firestore documentation, "Usage and limits".)
use Rattle.std.specs.Prelude.{ℕ, ◌-◌, ◌^◌, min, Bool, true, false, ℤ, List, [], ◌∷◌, length, Option, Some, None, Result, Ok, Err, nat_lt, if◌then◌else◌}
use Rattle.std.specs.List.{list_any}
use Rattle.std.specs.Ordering.{is_eq, int_cmp}
use Rattle.fs_path.specs.declared.field.FieldPath.{FieldPath}
use Rattle.fs_path.specs.declared.name.DocName.{DocName}
use Rattle.fs_value.specs.Data.{Data, members_of, members_depth}
use Rattle.fs_value.specs.FieldPaths.{get_fields, set_fields, unset_fields}
use Rattle.fs_value.specs.Limits.{deepest_value, largest_document}
use Rattle.fs_value.specs.Size.{document_size}
use Rattle.fs_value.specs.Same.{same_fields}
use Rattle.fs_value.specs.declared.document.Document.{Document}
use Rattle.fs_write.specs.Limits.{longest_transform_path}
use Rattle.fs_write.specs.Transforms.{transformed, transform_results}
use Rattle.fs_write.specs.WrittenName.{written_name}
use Rattle.fs_write.specs.declared.transform.Transform.{Transform}
use Rattle.fs_write.specs.declared.write.Act.{Act}
use Rattle.fs_write.specs.declared.write.Act.TheVariants.{Set, Merge, Delete}
use Rattle.fs_write.specs.declared.write.Precondition.{Precondition}
use Rattle.fs_write.specs.declared.write.Precondition.TheVariants as condition
use Rattle.fs_write.specs.declared.write.Write.{Write}
use Rattle.fs_write.specs.declared.write_result.WriteResult.{WriteResult}

-- why a write is refused: its precondition isn't met, or its document would nest too deep or be too large
pub data Fault : Type 0 where
  missing : Fault
  exists : Fault
  other_time : Option ℤ → Fault
  deep : Fault
  large : ℕ → Fault

-- ---- the precondition

abbrev pub unmet : Precondition → Option Document → Option Fault
unmet condition.None before = None
unmet (condition.Exists true) None = Some missing
unmet (condition.Exists true) (Some d) = None
unmet (condition.Exists false) None = None
unmet (condition.Exists false) (Some d) = Some exists
unmet (condition.UpdateTime time) None = Some (other_time None)
unmet (condition.UpdateTime time) (Some d) = if is_eq (int_cmp d.updated time) then None else Some (other_time (Some d.updated))

-- ---- the act

-- a field becomes that of the input, or is deleted where the input hasn't it
abbrev pub with_field : List (List ℕ) → Option Data → List (List ℕ × Data) → List (List ℕ × Data)
with_field path (Some v) fields = set_fields path v fields
with_field path None fields = unset_fields path fields

-- the fields after an update with a mask, path by path
abbrev pub merged : List FieldPath → List (List ℕ × Data) → List (List ℕ × Data) → List (List ℕ × Data)
merged [] input fields = fields
merged (p ∷ ps) input fields = merged ps input (with_field p.parts (get_fields p.parts input) fields)

abbrev pub fields_there : Option Document → List (List ℕ × Data)
fields_there None = []
fields_there (Some d) = d.fields

-- the fields that an act leaves, or none where it leaves no document
abbrev pub fields_left : Act → Option Document → Option (List (List ℕ × Data))
fields_left (Set name fields) before = Some fields
fields_left (Merge name fields mask) before = Some (merged mask fields (fields_there before))
fields_left (Delete name) before = None

-- ---- the transforms

-- what it sets would nest deeper than a document may
abbrev pub has_long_path : Transform → Bool
has_long_path t = nat_lt longest_transform_path (length t.path.parts)

-- such a write is refused, also where a later transform would take away again what the path leads to
abbrev pub overlong : List Transform → Option Fault
overlong ts = if list_any has_long_path ts then Some deep else None

-- ---- the document that is left

-- One that had these fields stays as it was. Any other is updated now, and is created now where there was none.
abbrev pub document_left : Option Document → DocName → List (List ℕ × Data) → ℤ → Document
document_left None name fields time = record { name = name; fields = fields; created = time; updated = time }
document_left (Some before) name fields time =
    if same_fields before.fields fields then before
    else record { name = name; fields = fields; created = before.created; updated = time }

-- its size as it is counted: no number above 2^128 - 1
abbrev pub counted_size : Document → ℕ
counted_size d = min (document_size d) (2 ^ 128 - 1)

abbrev pub unfit : Document → Option Fault
unfit d =
    if nat_lt deepest_value (members_depth (members_of d.fields)) then Some deep
    else if nat_lt largest_document (document_size d) then Some (large (counted_size d))
    else None

-- ---- the write: its precondition, its act, its transforms in their order, and the depth and size of what is left

-- a fault ends the write
abbrev pub unless : {A : Type 0} → Option Fault → Result A Fault → Result A Fault
unless (Some fault) rest = Err fault
unless None rest = rest

abbrev pub written : Document → List Data → Result (Option Document × WriteResult) Fault
written d results = unless (unfit d) (Ok (Some d, record { updated = Some d.updated; transforms = results }))

abbrev pub carried_out : Option (List (List ℕ × Data)) → Option Document → Write → ℤ → Result (Option Document × WriteResult) Fault
carried_out None before write time = Ok (None, record { updated = None; transforms = [] })
carried_out (Some fields) before write time =
    unless (overlong write.transforms) (written (document_left before (written_name write) (transformed write.transforms time fields) time) (transform_results write.transforms time fields))

abbrev pub one_write : Option Document → Write → ℤ → Result (Option Document × WriteResult) Fault
one_write before write time = unless (unmet write.condition before) (carried_out (fields_left write.act before) before write time)
