-- The walk of a write: what it reads as, or the first place in it that is at fault. (v1 reference, "Write".)
--
-- Of the known members, `update` and `delete` come first, of which there is just one; then `transform` and `verify`, which
-- aren't built; then the mask, the transforms and the precondition. Where there is neither an update nor a delete, one of
-- those that aren't built is told as such, and else the write itself is at fault, which is rule 1 of writes.
use Rattle.std.specs.Prelude.{ℕ, Bool, List, [], ◌∷◌, Option, Some, None, Result, Ok, Err, codes}
use Rattle.std.specs.Option.{option_map_or}
use Rattle.fs_path.specs.Place.{member_place}
use Rattle.fs_path.specs.declared.field.FieldPath.{FieldPath}
use Rattle.fs_path.specs.declared.name.Root.{Root}
use Rattle.fs_path.specs.declared.place.Rule.TheVariants.{E}
use Rattle.serde_json.specs.Data.{Data}
use Rattle.fs_value.specs.declared.document.Document.{Document}
use Rattle.fs_json.specs.Answer.{◌>>=◌, made}
use Rattle.fs_json.specs.Members.{member_at, only_at, unbuilt_at}
use Rattle.fs_json.specs.Paths.{document_name_at}
use Rattle.fs_json.specs.declared.bad.Bad.{Bad}
use Rattle.fs_json.specs.declared.bad.Bad.TheVariants.{At}
use Rattle.fs_valjson.specs.Document.{document_at}
use Rattle.fs_write.specs.declared.write.Act.{Act}
use Rattle.fs_write.specs.declared.write.Act.TheVariants.{Set, Merge, Delete}
use Rattle.fs_write.specs.declared.write.Precondition.{Precondition}
use Rattle.fs_write.specs.declared.transform.Transform.{Transform}
use Rattle.fs_writejson.specs.Condition.{condition_in}
use Rattle.fs_writejson.specs.Mask.{mask_at}
use Rattle.fs_writejson.specs.Transform.{transforms_in}
use Rattle.fs_json.specs.Walk.{all_at}
use Rattle.fs_writejson.specs.declared.draft.Draft.{Draft}

-- the members that aren't built, and all that a write may have, in the order of the walk
abbrev pub unbuilt_members : List (List ℕ)
unbuilt_members = codes "transform" ∷ codes "verify" ∷ []

abbrev pub write_members : List (List ℕ)
write_members = codes "update" ∷ codes "delete" ∷ codes "transform" ∷ codes "verify" ∷ codes "updateMask" ∷ codes "updateTransforms" ∷ codes "currentDocument" ∷ []

-- of an update's document only the name and the fields count
abbrev pub set_of : Document → Act
set_of document = Set document.name document.fields

-- just one of an update and a delete
abbrev pub act_at : Root → Data → List ℕ → Option Data → Option Data → Result Act Bad
act_at root d place (Some update) None = made set_of (document_at root update (member_place place (codes "update")))
act_at root d place None (Some name) = made Delete (document_name_at root name (member_place place (codes "delete")))
act_at root d place None None = unbuilt_at unbuilt_members d place >>= λ _. Err (At (E 1) place)
act_at root d place (Some update) (Some name) = Err (At (E 1) place)

-- the mask of a write, which may be absent; one without paths isn't
abbrev pub mask_in : Data → List ℕ → Result (Option (List FieldPath)) Bad
mask_in d place = member_at (codes "updateMask") d place >>= λ found.
    option_map_or (λ x. made Some (mask_at x (member_place place (codes "updateMask")))) found (Ok None)

-- an update with its mask; one that a delete is given stands beside it
abbrev pub with_mask : Act → Option (List FieldPath) → Act × Option (List FieldPath)
with_mask (Set name fields) (Some mask) = (Merge name fields mask, None)
with_mask act mask = (act, mask)

abbrev pub draft_of : Act × Option (List FieldPath) → List Transform × Bool → Precondition → Draft
draft_of acted transforms condition = record {
  write = record { act = acted.0; transforms = transforms.0; condition = condition };
  idle_mask = acted.1;
  is_numeric = transforms.1;
}

-- what a write has beside its act: a mask or none, its transforms and whether their numbers are integers, its precondition
pub record Beside : Type 0 where
  pub mask : Option (List FieldPath)
  pub transforms : List Transform × Bool
  pub condition : Precondition

abbrev pub beside_at : Data → List ℕ → Result Beside Bad
beside_at d place = do
  _ ← unbuilt_at unbuilt_members d place
  mask ← mask_in d place
  transforms ← transforms_in d place
  condition ← condition_in d place
  Ok (record { mask = mask; transforms = transforms; condition = condition })

unfoldable pub draft_at : Root → Data → List ℕ → Result Draft Bad
draft_at root d place = do
  _ ← only_at write_members d place
  update ← member_at (codes "update") d place
  delete ← member_at (codes "delete") d place
  act ← act_at root d place update delete
  beside ← beside_at d place
  Ok (draft_of (with_mask act beside.mask) beside.transforms beside.condition)

-- a list of writes
abbrev pub drafts_at : Root → Data → List ℕ → Result (List Draft) Bad
drafts_at root d place = all_at (draft_at root) d place
