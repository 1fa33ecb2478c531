-- What is written of what a session was read to be told nests no deeper than what was read, or than three levels.
use Rattle.std.proofs.Common.{ℕ, ◌+◌, ◌≤◌, ◌<◌, ℤ, List, [], ◌∷◌, map, Option, Some, None, IfOk, codes, bytes_eq, arith}
use Rattle.std.proofs.lemmas.Result.{IfOk-weaker}
use Rattle.serde_json.specs.Data.{Data, Members, no_members, depth, items_depth, members_depth}
use Rattle.serde_json.specs.View.{items_of}
use Rattle.fs_path.specs.Place.{member_place}
use Rattle.fs_path.specs.declared.name.DocName.{DocName}
use Rattle.fs_path.specs.declared.name.Root.{Root}
use Rattle.fs_json.specs.Members.{one_of_at, only_at, required_as}
use Rattle.fs_json.specs.Time.{required_time_at}
use Rattle.fs_json.proofs.Depths.{inside, one_falls}
use Rattle.fs_json.proofs.Readings.{at_last_holds, either, in_turn_holds}
use Rattle.fs_query.specs.declared.listen.Cause.{Cause}
use Rattle.fs_query.specs.declared.listen.ListenMessage.{ListenMessage}
use Rattle.fs_query.specs.declared.listen.ListenMessage.TheVariants.{Add, Remove, Reset, Current, NoChange, Changed, Deleted, Removed}
use Rattle.fs_value.specs.declared.document.Document.{Document}
use Rattle.fs_valjson.proofs.Depths.{document_within}
use Rattle.fs_valjson.specs.Document.{document_at, document_json}
use Rattle.fs_rpc.specs.ListenJson.{listen_json, number_json, with_targets}
use Rattle.fs_rpc.specs.ReadListen.{absent_at, cause_in, change_by, change_members, current_at, document_change_at, document_change_members, gone_at, kind_in, listen_at, listen_members, no_change_at, no_targets_at, remove_at, target_change_at, targets_alone_at, targets_in, token_at}

-- ---- what is written

numbers_fit : (ns : List ℕ) → items_depth (items_of (map number_json ns)) ≤ 0
numbers_fit [] = omega arith
numbers_fit (n ∷ ns) = omega (arith, numbers_fit ns)

targets_fit : (name : List ℕ) (targets : List ℕ) (rest : Members) (n : ℕ) → 0 < n → members_depth rest ≤ n → members_depth (with_targets name targets rest) ≤ n
targets_fit name [] rest n positive h = h
targets_fit name (t ∷ ts) rest n positive h = omega (arith, numbers_fit (t ∷ ts), h)

targets_last : (name : List ℕ) (targets : List ℕ) → members_depth (with_targets name targets no_members) ≤ 1
targets_last name targets = targets_fit name targets no_members 1 (omega arith) (omega arith)

-- of what is told, under its one member
abbrev IsWithin : ℕ → ListenMessage → Type 0
IsWithin n m = depth (listen_json m) ≤ n + 3

add_fits : (n : ℕ) (targets : List ℕ) → IsWithin n (Add targets)
add_fits n targets = omega (arith, targets_last (codes "targetIds") targets)

reset_fits : (n : ℕ) (targets : List ℕ) → IsWithin n (Reset targets)
reset_fits n targets = omega (arith, targets_last (codes "targetIds") targets)

remove_fits : (n : ℕ) (targets : List ℕ) (cause : Option Cause) → IsWithin n (Remove targets cause)
remove_fits n targets None = omega (arith, targets_last (codes "targetIds") targets)
remove_fits n targets (Some c) = omega (arith, targets_last (codes "targetIds") targets)

current_fits : (n : ℕ) (targets : List ℕ) (time : ℤ) (token : List ℕ) → IsWithin n (Current targets time token)
current_fits n targets time token = omega (arith, targets_last (codes "targetIds") targets)

no_change_fits : (n : ℕ) (time : ℤ) (token : List ℕ) → IsWithin n (NoChange time token)
no_change_fits n time token = omega arith

deleted_fits : (n : ℕ) (name : DocName) (time : ℤ) (left : List ℕ) → IsWithin n (Deleted name time left)
deleted_fits n name time left = omega (arith, targets_last (codes "removedTargetIds") left)

removed_fits : (n : ℕ) (name : DocName) (time : ℤ) (left : List ℕ) → IsWithin n (Removed name time left)
removed_fits n name time left = omega (arith, targets_last (codes "removedTargetIds") left)

changed_fits : (n : ℕ) (document : Document) (targets left : List ℕ) → depth (document_json document) ≤ n + 1 → IsWithin n (Changed document targets left)
changed_fits n document targets left h =
    let behind = targets_fit (codes "removedTargetIds") left (with_targets (codes "targetIds") targets no_members) 1 (omega arith) (targets_last (codes "targetIds") targets) in
    omega (arith, h, behind)

-- ---- changes of targets

remove_within : (d : Data) (place : List ℕ) (n : ℕ) → IfOk (remove_at d place) (IsWithin n)
unfolding remove_at
remove_within d place n =
    at_last_holds (IsWithin n) (cause_in d place) _
    (λ cause. at_last_holds (IsWithin n) (absent_at (codes "readTime") d place) _
    (λ u. at_last_holds (IsWithin n) (absent_at (codes "resumeToken") d place) _
    (λ v. at_last_holds (IsWithin n) (targets_in (codes "targetIds") d place) _ (λ targets. remove_fits n targets cause))))

current_within : (d : Data) (place : List ℕ) (n : ℕ) → IfOk (current_at d place) (IsWithin n)
unfolding current_at
current_within d place n =
    at_last_holds (IsWithin n) (absent_at (codes "cause") d place) _
    (λ u. at_last_holds (IsWithin n) (required_time_at (codes "readTime") d place) _
    (λ time. at_last_holds (IsWithin n) (required_as token_at (codes "resumeToken") d place) _
    (λ token. at_last_holds (IsWithin n) (targets_in (codes "targetIds") d place) _ (λ targets. current_fits n targets time token))))

no_change_within : (d : Data) (place : List ℕ) (n : ℕ) → IfOk (no_change_at d place) (IsWithin n)
unfolding no_change_at
no_change_within d place n =
    at_last_holds (IsWithin n) (absent_at (codes "cause") d place) _
    (λ u. at_last_holds (IsWithin n) (required_time_at (codes "readTime") d place) _
    (λ time. at_last_holds (IsWithin n) (required_as token_at (codes "resumeToken") d place) _
    (λ token. at_last_holds (IsWithin n) (targets_in (codes "targetIds") d place) _
    (λ targets. at_last_holds (IsWithin n) (no_targets_at (member_place place (codes "targetIds")) targets) _ (λ v. no_change_fits n time token)))))

kind_within : (kind : List ℕ) (d : Data) (place : List ℕ) (n : ℕ) → IfOk (change_by kind d place) (IsWithin n)
kind_within kind d place n =
    either (IsWithin n) (bytes_eq kind (codes "NO_CHANGE")) _ _ (no_change_within d place n)
    (either (IsWithin n) (bytes_eq kind (codes "ADD")) _ _ (at_last_holds (IsWithin n) (targets_alone_at d place) _ (add_fits n))
    (either (IsWithin n) (bytes_eq kind (codes "REMOVE")) _ _ (remove_within d place n)
    (either (IsWithin n) (bytes_eq kind (codes "CURRENT")) _ _ (current_within d place n)
    (either (IsWithin n) (bytes_eq kind (codes "RESET")) _ _ (at_last_holds (IsWithin n) (targets_alone_at d place) _ (reset_fits n))
    (record {})))))

change_within : (d : Data) (place : List ℕ) (n : ℕ) → IfOk (target_change_at d place) (IsWithin n)
unfolding target_change_at
change_within d place n =
    at_last_holds (IsWithin n) (only_at change_members d place) _ (λ u. at_last_holds (IsWithin n) (kind_in d place) _ (λ kind. kind_within kind d place n))

-- ---- documents

document_change_within : (root : Root) (d : Data) (place : List ℕ) (n : ℕ) → depth d ≤ n + 2 → IfOk (document_change_at root d place) (IsWithin n)
unfolding document_change_at
document_change_within root d place n h =
    let deep : Document → Type 0 = λ x. depth (document_json x) ≤ n + 1 in
    let at_its_place = member_place place (codes "document") in
    at_last_holds (IsWithin n) (only_at document_change_members d place) _
    (λ u. in_turn_holds deep (IsWithin n) (required_as (document_at root) (codes "document") d place) _
    (inside deep (codes "document") d place (λ x. document_at root x at_its_place)
    (λ x falls. in_turn_deep x falls))
    (λ document is. at_last_holds (IsWithin n) (targets_in (codes "removedTargetIds") d place) _
    (λ left. at_last_holds (IsWithin n) (targets_in (codes "targetIds") d place) _ (λ targets. changed_fits n document targets left is))))
  where
    in_turn_deep : (x : Data) → depth x < depth d → IfOk (document_at root x (member_place place (codes "document"))) (λ y. depth (document_json y) ≤ n + 1)
    in_turn_deep x falls =
        IfOk-weaker (document_at root x (member_place place (codes "document"))) (λ y. depth (document_json y) ≤ depth x) (λ y. depth (document_json y) ≤ n + 1)
        (λ y is. omega (arith, is, falls, h)) (document_within root x (member_place place (codes "document")))

-- ---- what is told

pub listen_within : (root : Root) (d : Data) (place : List ℕ) (n : ℕ) → depth d ≤ n + 3 → IfOk (listen_at root d place) (λ m. depth (listen_json m) ≤ n + 3)
unfolding listen_at
listen_within root d place n h =
    let P = IsWithin n in
    at_last_holds P (only_at listen_members d place) _
    (λ u. in_turn_holds (λ one. depth one.1 < depth d) P (one_of_at listen_members d place) _ (one_falls listen_members d place)
    (λ one falls. let x = member_place place one.0 in
    either P (bytes_eq one.0 (codes "targetChange")) _ _ (change_within one.1 x n)
    (either P (bytes_eq one.0 (codes "documentChange")) _ _ (document_change_within root one.1 x n (omega (arith, falls, h)))
    (either P (bytes_eq one.0 (codes "documentDelete")) _ _
    (at_last_holds P (gone_at root one.1 x) _ (λ g. deleted_fits n g.0 g.1 g.2))
    (at_last_holds P (gone_at root one.1 x) _ (λ g. removed_fits n g.0 g.1 g.2))))))
