-- What is written of a request of a session that listens is read as the same.
use Rattle.std.proofs.Common.{◌≡◌, ◌≢◌, ◌==◌, ℕ, ℤ, ◌≤◌, ◌<◌, ◌^◌, true, false, List, [], ◌∷◌, Option, Some, None, Ok, IfSome, codes, refl, arith}
use Rattle.std.proofs.lemmas.Bool.Decides.{nat_tests}
use Rattle.std.specs.List.{AllByRecursion, IsDistinct}
use Rattle.fs_path.specs.Database.{database_text, IsDatabase}
use Rattle.fs_path.specs.Document.{document_text, under, IsDocumentOf, IsParentOf}
use Rattle.fs_path.specs.NameOrder.{name_eq}
use Rattle.fs_path.specs.Place.{member_place}
use Rattle.fs_path.specs.Scope.{scope_parent}
use Rattle.fs_path.specs.declared.name.DocName.{DocName}
use Rattle.fs_path.specs.declared.name.Root.{Root}
use Rattle.fs_path.proofs.Databases.{database_taken}
use Rattle.fs_path.proofs.Documents.{parent_only}
use Rattle.serde_json.specs.Data.{Data, Members, no_members, member, object, string}
use Rattle.fs_json.specs.Members.{is_given}
use Rattle.fs_query.specs.Asked.{Asked}
use Rattle.fs_query.specs.declared.target.Target.{Target}
use Rattle.fs_query.specs.declared.target.Target.TheVariants as target
use Rattle.fs_queryjson.specs.Query.{listened_at}
use Rattle.fs_queryjson.specs.Written.{query_json}
use Rattle.fs_rpc.specs.Envelope.{envelope_at}
use Rattle.fs_rpc.specs.Id.{with_id_put}
use Rattle.fs_rpc.specs.ListenJson.{number_json}
use Rattle.fs_rpc.specs.MessageSteps.{IsTokenHeld}
use Rattle.fs_rpc.specs.ReadTargets.{add_target_at, documents_target_at, listen_request_at, permitted_request, query_target_at, some_names, target_id_at}
use Rattle.fs_rpc.specs.RequestJson.{add_target_json, database_json, documents_target_json, listen_add_json, listen_remove_json, with_token}
use Rattle.fs_rpc.specs.RequestSteps.{IsNumberHeld, IsTargetHeld}
use Rattle.fs_rpc.specs.ValidRequest.{IsAddingOf, IsTargetOf}
use Rattle.fs_request.specs.declared.request.Request.{Request}
use Rattle.fs_request.specs.declared.request.Request.TheVariants.{AddTarget, RemoveTarget}
use Rattle.fs_rpc.proofs.BatchGetAgain.{names_again}
use Rattle.fs_rpc.proofs.ListenAgain.{number_again}
use Rattle.fs_rpc.proofs.RunQueryAgain.{query_given}

-- ---- what a target is

id_again : (n : ℕ) (place : List ℕ) → 1 ≤ n → n < 2 ^ 31 → target_id_at (number_json n) place ≡ Ok n
id_again n place least most =
    let some : (n == 0) ≡ false = grind (arith, nat_tests) in
    rw (number_again n place most, some) refl

some_again : (place : List ℕ) (ns : List DocName) → ns ≢ [] → some_names place ns ≡ Ok ns
some_again place [] some = absurd (some refl)
some_again place (n ∷ ns) some = refl

documents_again : (root : Root) (ns : List DocName) (place : List ℕ) → AllByRecursion (IsDocumentOf root) ns → IsDistinct name_eq ns → ns ≢ []
    → documents_target_at root (documents_target_json ns) place ≡ Ok (target.Documents ns)
unfolding documents_target_at
documents_again root ns place each once some =
    let inside = member_place place (codes "documents") in
    rw (names_again root ns inside each once, some_again inside ns some) refl

query_read : (root : Root) (ids : List (List ℕ)) (s : Data) (q : Asked) (place : List ℕ) → is_given (codes "structuredQuery") s ≡ true → IsParentOf root ids
    → listened_at ids s (member_place place (codes "structuredQuery")) ≡ Ok q
    → query_target_at root (object (member (codes "parent") (string (document_text (under root ids))) (member (codes "structuredQuery") s no_members))) place ≡ Ok (target.Query q)
unfolding query_target_at
query_read root ids s q place given is h = rw (given, parent_only root (document_text (under root ids)) ids is refl, h) refl

-- ---- the target that is added

added_query : (root : Root) (ms : Members) (id : ℕ) (t : Target) (token : Option (List ℕ)) (place : List ℕ) → target_id_at (number_json id) (member_place place (codes "targetId")) ≡ Ok id
    → query_target_at root (object ms) (member_place place (codes "query")) ≡ Ok t → IfSome token IsTokenHeld
    → add_target_at root (object (member (codes "query") (object ms) (with_token token (member (codes "targetId") (number_json id) no_members)))) place ≡ Ok (AddTarget root id t token)
unfolding add_target_at
added_query root ms id t None place small h told = rw (small, h) refl
added_query root ms id t (Some token) place small h told = rw (small, h, told) refl

added_documents : (root : Root) (ms : Members) (id : ℕ) (t : Target) (token : Option (List ℕ)) (place : List ℕ) → target_id_at (number_json id) (member_place place (codes "targetId")) ≡ Ok id
    → documents_target_at root (object ms) (member_place place (codes "documents")) ≡ Ok t → IfSome token IsTokenHeld
    → add_target_at root (object (member (codes "documents") (object ms) (with_token token (member (codes "targetId") (number_json id) no_members)))) place ≡ Ok (AddTarget root id t token)
unfolding add_target_at
added_documents root ms id t None place small h told = rw (small, h) refl
added_documents root ms id t (Some token) place small h told = rw (small, h, told) refl

added : (root : Root) (id : ℕ) (t : Target) (token : Option (List ℕ)) (place : List ℕ) → IsTargetHeld t → IfSome token IsTokenHeld → 1 ≤ id → id < 2 ^ 31 → IsTargetOf root t
    → add_target_at root (add_target_json root id t token) place ≡ Ok (AddTarget root id t token)
added root id (target.Query q) token place held told least most valid =
    let inside = member_place place (codes "query") in
    added_query root _ id (target.Query q) token place (id_again id (member_place place (codes "targetId")) least most)
    (query_read root (scope_parent q.scope) (query_json q) q inside (query_given (codes "structuredQuery") q) valid.0
    (held.listened (member_place inside (codes "structuredQuery")) valid.1 (valid.2, valid.3))) told
added root id (target.Documents ns) token place held told least most valid =
    added_documents root _ id (target.Documents ns) token place (id_again id (member_place place (codes "targetId")) least most)
    (documents_again root ns (member_place place (codes "documents")) valid.0 valid.1 valid.2) told

-- ---- the requests

permitted : (root : Root) (id : ℕ) (t : Target) (token : Option (List ℕ)) (place : List ℕ) → IsTargetOf root t → permitted_request (AddTarget root id t token) place ≡ Ok (AddTarget root id t token)
permitted root id (target.Query q) token place valid = rw valid.1.allowed refl
permitted root id (target.Documents ns) token place valid = refl

add_read : (root : Root) (ms : Members) (r : Request) (place : List ℕ) → IsDatabase root → add_target_at root (object ms) (member_place place (codes "addTarget")) ≡ Ok r
    → permitted_request r place ≡ Ok r → listen_request_at root (object (member (codes "addTarget") (object ms) (member (codes "database") (database_json root) no_members))) place ≡ Ok r
unfolding listen_request_at
add_read root ms r place named h allowed = rw ((database_taken root (database_text root)).1 (named, refl), h, allowed) refl

pub listen_add_again : (root : Root) (id : ℕ) (t : Target) (token : Option (List ℕ)) (place : List ℕ) → IsTargetHeld t → IfSome token IsTokenHeld → IsAddingOf root root id t
    → listen_request_at root (listen_add_json root id t token) place ≡ Ok (AddTarget root id t token)
listen_add_again root id t token place held told valid =
    add_read root _ (AddTarget root id t token) place valid.database.named
    (added root id t token (member_place place (codes "addTarget")) held told valid.least valid.most valid.target) (permitted root id t token place valid.target)

pub listen_remove_again : (root : Root) (id : ℤ) (place : List ℕ) → IsDatabase root → IsNumberHeld id → listen_request_at root (listen_remove_json root id) place ≡ Ok (RemoveTarget root id)
unfolding listen_request_at
listen_remove_again root id place named held = rw ((database_taken root (database_text root)).1 (named, refl), held) refl

-- ---- with their ids

pub listen_read : (root : Root) (id : Option (List ℕ)) (ms : Members) (r : Request) → listen_request_at root (object ms) (codes "listen") ≡ Ok r
    → envelope_at root (object (with_id_put id (member (codes "listen") (object ms) no_members))) ≡ Ok (record { id = id; request = r })
unfolding envelope_at
listen_read root None ms r h = rw h refl
listen_read root (Some id) ms r h = rw h refl
