-- What is written of a write that was read nests no deeper than what was read, or than a few levels.
use Rattle.std.proofs.Common.{ℕ, ◌+◌, ◌≤◌, ◌<◌, List, [], ◌∷◌, map, Option, Some, None, IfOk, IfSome, codes, arith}
use Rattle.std.specs.List.{AllByRecursion}
use Rattle.fs_path.specs.Place.{member_place}
use Rattle.fs_path.specs.declared.field.FieldPath.{FieldPath}
use Rattle.fs_path.specs.declared.name.Root.{Root}
use Rattle.serde_json.specs.Data as json
use Rattle.serde_json.specs.Data.{depth, items_depth, members_depth}
use Rattle.fs_json.specs.Members.{member_at, only_at, unbuilt_at}
use Rattle.fs_json.specs.Paths.{document_name_at}
use Rattle.fs_json.proofs.Readings.{at_last_holds, in_turn_holds, of_made}
use Rattle.fs_json.proofs.Depths.{member_falls}
use Rattle.fs_json.proofs.Walks.{list_inside}
use Rattle.fs_valjson.proofs.Depths.{document_fields_within, update_fits, FieldsBelow}
use Rattle.fs_valjson.specs.Document.{document_at, update_json}
use Rattle.fs_write.specs.declared.transform.Transform.{Transform}
use Rattle.fs_write.specs.declared.write.Act.{Act}
use Rattle.fs_write.specs.declared.write.Act.TheVariants.{Set, Merge, Delete}
use Rattle.fs_write.specs.declared.write.Precondition.{Precondition}
use Rattle.fs_write.specs.declared.write.Precondition.TheVariants as condition
use Rattle.fs_writejson.specs.Condition.{condition_in}
use Rattle.fs_writejson.specs.Draft.{act_at, beside_at, draft_at, drafts_at, mask_in, set_of, unbuilt_members, with_mask, write_members}
use Rattle.fs_writejson.specs.Rules.{judged_at, rules_at}
use Rattle.fs_writejson.specs.Transform.{transforms_in, transforms_json}
use Rattle.fs_writejson.specs.Written.{transforms_member, with_act, with_condition, write_json}
use Rattle.fs_writejson.specs.declared.draft.Draft.{Draft}
use Rattle.fs_writejson.proofs.MaskDepth.{mask_depth}
use Rattle.fs_writejson.proofs.TransformDepth.{transforms_within, AllWithin}

-- ---- what a write does

abbrev ActBelow : ℕ → Act → Type 0
ActBelow n (Set name fields) = depth (update_json name fields) < n
ActBelow n (Merge name fields mask) = depth (update_json name fields) < n
ActBelow n (Delete name) = Unit {0}

act_within : (root : Root) (d : json.Data) (place : List ℕ) (update delete : Option json.Data) → IfSome update (λ x. depth x < depth d) → IfOk (act_at root d place update delete) (ActBelow (depth d))
act_within root d place (Some update) None falls =
    of_made (λ x. FieldsBelow (depth update) x.fields) (ActBelow (depth d)) set_of (document_at root update (member_place place (codes "update")))
    (document_fields_within root update (member_place place (codes "update"))) (λ x are. omega (arith, update_fits x (depth update) are, falls))
act_within root d place None (Some name) falls = at_last_holds (ActBelow (depth d)) (document_name_at root name (member_place place (codes "delete"))) _ (λ n. tt)
act_within root d place None None falls = at_last_holds (ActBelow (depth d)) (unbuilt_at unbuilt_members d place) _ (λ u. record {})
act_within root d place (Some update) (Some name) falls = record {}

masked_within : (n : ℕ) (act : Act) (mask : Option (List FieldPath)) → ActBelow n act → ActBelow n (with_mask act mask).0
masked_within n (Set name fields) None is = is
masked_within n (Set name fields) (Some mask) is = is
masked_within n (Merge name fields paths) mask is = is
masked_within n (Delete name) mask is = is

-- ---- writes

transforms_fit : (ts : List Transform) (n : ℕ) → 0 < n → items_depth (transforms_json ts) + 1 < n → members_depth (transforms_member ts) < n
transforms_fit [] n some h = some
transforms_fit (t ∷ ts) n some h = omega (arith, h)

act_fits : (act : Act) (rest : json.Members) (n : ℕ) → ActBelow n act → 2 < n → members_depth rest < n → members_depth (with_act act rest) < n
act_fits (Set name fields) rest n is low h = omega (arith, is, h)
act_fits (Merge name fields mask) rest n is low h = omega (arith, is, mask_depth mask, low, h)
act_fits (Delete name) rest n is low h = omega (arith, low, h)

condition_fits : (c : Precondition) (rest : json.Members) (n : ℕ) → 2 < n → members_depth rest < n → members_depth (with_condition c rest) < n
condition_fits condition.None rest n low h = h
condition_fits (condition.Exists there) rest n low h = omega (arith, low, h)
condition_fits (condition.UpdateTime time) rest n low h = omega (arith, low, h)

write_fits : (act : Act) (ts : List Transform) (c : Precondition) (n : ℕ) → ActBelow n act → 2 < n → items_depth (transforms_json ts) + 1 < n
    → depth (write_json (record { act = act; transforms = ts; condition = c })) ≤ n
unfolding write_json
write_fits act ts c n is low are =
    let last = transforms_fit ts n (omega (arith, low)) are in
    let all : members_depth (with_condition c (with_act act (transforms_member ts))) < n = condition_fits c (with_act act (transforms_member ts)) n low (act_fits act (transforms_member ts) n is low last) in
    omega (arith, all)

abbrev DraftWithin : ℕ → Draft → Type 0
DraftWithin n draft = depth (write_json draft.write) ≤ n

draft_within : (root : Root) (d : json.Data) (place : List ℕ) (n : ℕ) → depth d ≤ n + 3 → 0 < n → IfOk (draft_at root d place) (DraftWithin (n + 3))
unfolding draft_at
draft_within root d place n h some =
    let P = DraftWithin (n + 3) in
    at_last_holds P (only_at write_members d place) _
    (λ u. in_turn_holds (λ o. IfSome o (λ x. depth x < depth d)) P (member_at (codes "update") d place) _ (member_falls (codes "update") d place)
    (λ update falls. at_last_holds P (member_at (codes "delete") d place) _
    (λ delete. in_turn_holds (ActBelow (depth d)) P (act_at root d place update delete) _ (act_within root d place update delete falls)
    (λ act is. in_turn_holds (λ b. AllWithin n b.transforms) P (beside_at d place) _
    (at_last_holds (λ b. AllWithin n b.transforms) (unbuilt_at unbuilt_members d place) _
    (λ v. at_last_holds (λ b. AllWithin n b.transforms) (mask_in d place) _
    (λ mask. in_turn_holds (AllWithin n) (λ b. AllWithin n b.transforms) (transforms_in d place) _ (transforms_within d place n h some)
    (λ ts are. at_last_holds (λ b. AllWithin n b.transforms) (condition_in d place) _ (λ condition. are)))))
    (λ beside are. write_fits (with_mask act beside.mask).0 beside.transforms.0 beside.condition (n + 3)
    (masked_within (n + 3) act beside.mask (raised (depth d) (n + 3) act h is)) (omega (arith, some)) (omega (arith, are)))))))
  where
    raised : (m k : ℕ) (act : Act) → m ≤ k → ActBelow m act → ActBelow k act
    raised m k (Set name fields) le is = omega (arith, is, le)
    raised m k (Merge name fields mask) le is = omega (arith, is, le)
    raised m k (Delete name) le is = tt

pub drafts_within : (root : Root) (d : json.Data) (place : List ℕ) (n : ℕ) → depth d ≤ n + 4 → 0 < n → IfOk (drafts_at root d place) (AllByRecursion (DraftWithin (n + 3)))
drafts_within root d place n h some = list_inside (DraftWithin (n + 3)) (draft_at root) d (n + 3) place (omega (arith, h)) (λ x p low. draft_within root x p n low some)

each_write : (n : ℕ) (drafts : List Draft) → AllByRecursion (DraftWithin n) drafts → AllByRecursion (λ w. depth (write_json w) ≤ n) (map (λ draft. draft.write) drafts)
each_write n [] each = tt
each_write n (draft ∷ drafts) each = (each.0, each_write n drafts each.1)

-- the writes of a commit
pub judged_within : (drafts : List Draft) (place : List ℕ) (n : ℕ) → AllByRecursion (DraftWithin n) drafts → IfOk (judged_at drafts place) (AllByRecursion (λ w. depth (write_json w) ≤ n))
judged_within drafts place n each = at_last_holds (AllByRecursion (λ w. depth (write_json w) ≤ n)) (rules_at drafts 0 place) _ (λ u. each_write n drafts each)
