-- What is written of a request of a session that listens nests no deeper than what was read, or than a few levels.
use Rattle.std.proofs.Common.{ℕ, ◌+◌, ◌≤◌, ◌<◌, ℤ, pos, negsuc, List, [], ◌∷◌, Option, Some, None, IfOk, codes, bytes_eq, arith}
use Rattle.serde_json.specs.Data.{Data, Members, no_members, member, depth, items_depth, members_depth}
use Rattle.fs_path.specs.Place.{member_place}
use Rattle.fs_path.specs.declared.name.DocName.{DocName}
use Rattle.fs_path.specs.declared.name.Root.{Root}
use Rattle.fs_json.specs.Members.{one_of_at, only_at, required_as, required_at, unbuilt_at}
use Rattle.fs_json.specs.Scalars.{small_at}
use Rattle.fs_json.proofs.Depths.{inside, one_falls}
use Rattle.fs_json.proofs.Readings.{at_last_holds, either, in_turn_holds, of_made}
use Rattle.fs_query.specs.Asked.{Asked}
use Rattle.fs_query.specs.declared.target.Target.{Target}
use Rattle.fs_query.specs.declared.target.Target.TheVariants as target
use Rattle.fs_queryjson.specs.Query.{listened_at, permitted_at}
use Rattle.fs_queryjson.specs.Written.{query_json}
use Rattle.fs_queryjson.proofs.QueryDepth.{listened_within}
use Rattle.fs_queryjson.proofs.QueryValid.{permitted_holds}
use Rattle.fs_rpc.specs.ListenJson.{number_json}
use Rattle.fs_rpc.specs.ReadTargets.{add_target_at, add_target_members, change_names, documents_target_at, documents_target_members, expected_in, labels_in, listen_request_at, listen_request_members, permitted_request, permitted_target, query_target_at, query_target_members, remove_target_at, some_names, target_at, target_change_by, target_id_at, target_members, target_query_place, token_in}
use Rattle.fs_rpc.specs.RequestJson.{names_json, request_json, with_target, with_token}
use Rattle.fs_rpc.specs.Requests.{database_at, names_at, parent_at}
use Rattle.fs_request.specs.declared.request.Request.{Request}
use Rattle.fs_request.specs.declared.request.Request.TheVariants.{Commit, GetDocument, BatchGetDocuments, RunQuery, BeginTransaction, Rollback, AddTarget, RemoveTarget, Write}

-- what is written under the method
abbrev pub IsWithin : ℕ → Request → Type 0
IsWithin n r = depth (request_json r) ≤ n

pub names_flat : (ns : List DocName) → items_depth (names_json ns) ≤ 0
names_flat [] = omega arith
names_flat (n ∷ ns) = omega (arith, names_flat ns)

-- ---- what a target is

-- what is written of its query
abbrev IsTargetWithin : ℕ → Target → Type 0
IsTargetWithin n (target.Query q) = depth (query_json q) ≤ n
IsTargetWithin n (target.Documents names) = Unit {0}

target_fits : (root : Root) (t : Target) (rest : Members) (n : ℕ) → IsTargetWithin n t → 0 < n → members_depth rest ≤ n + 1 → members_depth (with_target root t rest) ≤ n + 1
target_fits root (target.Query q) rest n is some h = omega (arith, is, h)
target_fits root (target.Documents names) rest n is some h = omega (arith, names_flat names, h)

token_fits : (token : Option (List ℕ)) (rest : Members) (n : ℕ) → members_depth rest ≤ n → members_depth (with_token token rest) ≤ n
token_fits None rest n h = h
token_fits (Some token) rest n h = omega (arith, h)

add_fits : (root : Root) (id : ℕ) (t : Target) (token : Option (List ℕ)) (n : ℕ) → IsTargetWithin n t → 0 < n → IsWithin (n + 3) (AddTarget root id t token)
add_fits root id t token n is some =
    let last = member (codes "targetId") (number_json id) no_members in
    let rest : members_depth (with_token token last) ≤ n + 1 = token_fits token last (n + 1) (omega arith) in
    omega (arith, target_fits root t (with_token token last) n is some rest)

query_within : (root : Root) (d : Data) (place : List ℕ) (n : ℕ) → depth d ≤ n + 5 → IfOk (query_target_at root d place) (IsTargetWithin (n + 4))
unfolding query_target_at
query_within root d place n h =
    let T = IsTargetWithin (n + 4) in
    let inner = member_place place (codes "structuredQuery") in
    at_last_holds T (only_at query_target_members d place) _
    (λ u. at_last_holds T (required_at (codes "parent") d place) _
    (λ name. at_last_holds T (parent_at root name (member_place place (codes "parent"))) _
    (λ parent. inside T (codes "structuredQuery") d place _
    (λ s falls. in_turn_holds (λ q. depth (query_json q) ≤ n + 4) T (listened_at parent s inner) _ (listened_within parent s inner n (omega (arith, falls, h))) (λ q fits. fits)))))

documents_within : (root : Root) (d : Data) (place : List ℕ) (n : ℕ) → IfOk (documents_target_at root d place) (IsTargetWithin n)
unfolding documents_target_at
documents_within root d place n =
    let T = IsTargetWithin n in
    let inner = member_place place (codes "documents") in
    at_last_holds T (only_at documents_target_members d place) _
    (λ u. at_last_holds T (required_at (codes "documents") d place) _
    (λ list. at_last_holds T (names_at root list inner) _ (λ names. at_last_holds T (some_names inner names) _ (λ some. tt))))

target_within : (root : Root) (name : List ℕ) (d : Data) (place : List ℕ) (n : ℕ) → depth d ≤ n + 5 → IfOk (target_at root name d place) (IsTargetWithin (n + 4))
target_within root name d place n h = either (IsTargetWithin (n + 4)) (bytes_eq name (codes "query")) _ _ (query_within root d place n h) (documents_within root d place (n + 4))

-- ---- changes of targets

add_within : (root : Root) (d : Data) (place : List ℕ) (n : ℕ) → depth d ≤ n + 6 → IfOk (add_target_at root d place) (IsWithin (n + 7))
unfolding add_target_at
add_within root d place n h =
    let P = IsWithin (n + 7) in
    let T = IsTargetWithin (n + 4) in
    at_last_holds P (only_at add_target_members d place) _
    (λ u. at_last_holds P (required_as target_id_at (codes "targetId") d place) _
    (λ id. in_turn_holds (λ one. depth one.1 < depth d) P (one_of_at target_members d place) _ (one_falls target_members d place)
    (λ one falls. in_turn_holds T P (target_at root one.0 one.1 (member_place place one.0)) _ (target_within root one.0 one.1 (member_place place one.0) n (omega (arith, falls, h)))
    (λ t is. at_last_holds P (token_in d place) _
    (λ token. at_last_holds P (expected_in d place) _
    (λ count. at_last_holds P (unbuilt_at (codes "once" ∷ codes "readTime" ∷ []) d place) _ (λ v. omega (arith, add_fits root id t token (n + 4) is (omega arith)))))))))

remove_fits : (root : Root) (id : ℤ) (n : ℕ) → 0 < n → IsWithin n (RemoveTarget root id)
remove_fits root (pos m) n some = omega (arith, some)
remove_fits root (negsuc m) n some = omega (arith, some)

remove_within : (root : Root) (d : Data) (place : List ℕ) (n : ℕ) → 0 < n → IfOk (remove_target_at root d place) (IsWithin n)
remove_within root d place n some = at_last_holds (IsWithin n) (small_at d place) _ (λ id. remove_fits root id n some)

change_within : (root : Root) (name : List ℕ) (d : Data) (place : List ℕ) (n : ℕ) → depth d ≤ n + 6 → IfOk (target_change_by root name d place) (IsWithin (n + 7))
change_within root name d place n h =
    either (IsWithin (n + 7)) (bytes_eq name (codes "addTarget")) _ _ (add_within root d place n h) (remove_within root d place (n + 7) (omega arith))

-- ---- as their rules were tested

permitted_target_holds : (P : Target → Type 0) (t : Target) (place : List ℕ) → P t → IfOk (permitted_target t place) P
permitted_target_holds P (target.Query q) place is =
    let Q : Asked → Type 0 = λ p. P (target.Query p) in
    of_made Q P target.Query (permitted_at q place) (permitted_holds Q q place (λ none. is)) (λ p same. same)
permitted_target_holds P (target.Documents names) place is = is

permitted_within : (r : Request) (place : List ℕ) (n : ℕ) → IsWithin n r → IfOk (permitted_request r place) (IsWithin n)
permitted_within (AddTarget database id t token) place n h =
    let P : Target → Type 0 = λ x. IsWithin n (AddTarget database id x token) in
    of_made P (IsWithin n) (λ x. AddTarget database id x token) (permitted_target t (target_query_place place)) (permitted_target_holds P t (target_query_place place) h) (λ x same. same)
permitted_within (RemoveTarget database id) place n h = h
permitted_within (Commit database writes transaction) place n h = h
permitted_within (GetDocument name mask when) place n h = h
permitted_within (BatchGetDocuments database documents mask when) place n h = h
permitted_within (RunQuery database query when) place n h = h
permitted_within (BeginTransaction database options) place n h = h
permitted_within (Rollback database transaction) place n h = h
permitted_within (Write database asked) place n h = h

pub listen_within : (root : Root) (d : Data) (place : List ℕ) (n : ℕ) → depth d ≤ n + 7 → IfOk (listen_request_at root d place) (IsWithin (n + 7))
unfolding listen_request_at
listen_within root d place n h =
    let P = IsWithin (n + 7) in
    at_last_holds P (only_at listen_request_members d place) _
    (λ u. at_last_holds P (database_at root d place) _
    (λ v. in_turn_holds (λ one. depth one.1 < depth d) P (one_of_at change_names d place) _ (one_falls change_names d place)
    (λ one falls. in_turn_holds P P (target_change_by root one.0 one.1 (member_place place one.0)) _
    (change_within root one.0 one.1 (member_place place one.0) n (omega (arith, falls, h)))
    (λ r is. at_last_holds P (labels_in d place) _ (λ w. permitted_within r place (n + 7) is)))))
