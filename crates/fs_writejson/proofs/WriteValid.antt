-- What is read as a write is one of the root's, whose references are names of documents.
use Rattle.std.proofs.Common.{ℕ, List, Option, Some, None, IfOk, codes}
use Rattle.std.specs.List.{AllByRecursion}
use Rattle.fs_path.specs.Document.{IsDocumentOf}
use Rattle.fs_path.specs.Place.{member_place}
use Rattle.fs_path.specs.declared.field.FieldPath.{FieldPath}
use Rattle.fs_path.specs.declared.name.Root.{Root}
use Rattle.serde_json.specs.Data as json
use Rattle.fs_value.specs.Data.{members_of}
use Rattle.fs_json.specs.Members.{member_at, only_at, unbuilt_at}
use Rattle.fs_json.specs.Paths.{document_name_at}
use Rattle.fs_json.proofs.Readings.{at_last_holds, in_turn_holds}
use Rattle.fs_json.proofs.Walks.{each_of_list}
use Rattle.fs_json.proofs.Named.{document_name_is}
use Rattle.fs_valjson.specs.Document.{document_at}
use Rattle.fs_valjson.specs.Valid.{IsValid}
use Rattle.fs_valjson.proofs.Valid.{document_valid}
use Rattle.fs_valjson.specs.Writing.{MembersHaveNames}
use Rattle.fs_write.specs.Rules.{input}
use Rattle.fs_write.specs.WrittenName.{act_name}
use Rattle.fs_write.specs.declared.write.Act.{Act}
use Rattle.fs_write.specs.declared.write.Act.TheVariants.{Set, Merge, Delete}
use Rattle.fs_writejson.specs.Condition.{condition_in}
use Rattle.fs_writejson.specs.Draft.{act_at, beside_at, draft_at, drafts_at, mask_in, unbuilt_members, with_mask, write_members}
use Rattle.fs_writejson.specs.Transform.{transforms_in}
use Rattle.fs_writejson.specs.Valid.{IsDraftOf}
use Rattle.fs_writejson.proofs.TransformValid.{transforms_names, AllNames}

-- ---- what a write does

-- of one of the root's documents, with references that are names of documents
record IsActOf (root : Root) (act : Act) : Type 0 where
  pub named : IsDocumentOf root (act_name act)
  pub fields : MembersHaveNames (members_of (input act))

act_valid : (root : Root) (d : json.Data) (place : List ℕ) (update delete : Option json.Data) → IfOk (act_at root d place update delete) (IsActOf root)
act_valid root d place (Some update) None =
    in_turn_holds (IsValid root) (IsActOf root) (document_at root update (member_place place (codes "update"))) _ (document_valid root update (member_place place (codes "update")))
    (λ x is. record { named = is.named; fields = is.names })
act_valid root d place None (Some name) =
    in_turn_holds (IsDocumentOf root) (IsActOf root) (document_name_at root name (member_place place (codes "delete"))) _ (document_name_is root name (member_place place (codes "delete")))
    (λ n is. record { named = is; fields = tt })
act_valid root d place None None = at_last_holds (IsActOf root) (unbuilt_at unbuilt_members d place) _ (λ u. record {})
act_valid root d place (Some update) (Some name) = record {}

masked_valid : (root : Root) (act : Act) (mask : Option (List FieldPath)) → IsActOf root act → IsActOf root (with_mask act mask).0
masked_valid root (Set name fields) None is = is
masked_valid root (Set name fields) (Some mask) is = record { named = is.named; fields = is.fields }
masked_valid root (Merge name fields paths) mask is = is
masked_valid root (Delete name) mask is = is

-- ---- drafts

pub draft_valid : (root : Root) (d : json.Data) (place : List ℕ) → IfOk (draft_at root d place) (IsDraftOf root)
unfolding draft_at
draft_valid root d place =
    at_last_holds (IsDraftOf root) (only_at write_members d place) _
    (λ u. at_last_holds (IsDraftOf root) (member_at (codes "update") d place) _
    (λ update. at_last_holds (IsDraftOf root) (member_at (codes "delete") d place) _
    (λ delete. in_turn_holds (IsActOf root) (IsDraftOf root) (act_at root d place update delete) _ (act_valid root d place update delete)
    (λ act is. in_turn_holds (λ b. AllNames b.transforms) (IsDraftOf root) (beside_at d place) _
    (at_last_holds (λ b. AllNames b.transforms) (unbuilt_at unbuilt_members d place) _
    (λ v. at_last_holds (λ b. AllNames b.transforms) (mask_in d place) _
    (λ mask. in_turn_holds AllNames (λ b. AllNames b.transforms) (transforms_in d place) _ (transforms_names d place)
    (λ ts are. at_last_holds (λ b. AllNames b.transforms) (condition_in d place) _ (λ condition. are)))))
    (λ beside are. let masked = masked_valid root act beside.mask is in record { named = masked.named; fields = masked.fields; elements = are })))))

pub drafts_valid : (root : Root) (d : json.Data) (place : List ℕ) → IfOk (drafts_at root d place) (AllByRecursion (IsDraftOf root))
drafts_valid root d place = each_of_list (IsDraftOf root) (draft_at root) d place (draft_valid root)
