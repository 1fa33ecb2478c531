-- What is read as a request of a session that listens is one of the root's documents.
use Rattle.std.proofs.Common.{◌≡◌, ◌==◌, ℕ, ◌≤◌, Bool, true, false, List, [], ◌∷◌, Ok, Err, IfOk, codes, bytes_eq, cond, refl, sym, subst, arith}
use Rattle.std.proofs.lemmas.Bool.Decides.{nat_tests}
use Rattle.serde_json.specs.Data.{Data}
use Rattle.fs_path.specs.Database.{IsDatabase}
use Rattle.fs_path.specs.Document.{IsParentOf}
use Rattle.fs_path.specs.Place.{member_place}
use Rattle.fs_path.specs.Scope.{scope_parent}
use Rattle.fs_path.specs.declared.name.DocName.{DocName}
use Rattle.fs_path.specs.declared.name.Root.{Root}
use Rattle.fs_path.specs.declared.place.Rule.TheVariants.{G}
use Rattle.fs_json.specs.Members.{one_of_at, only_at, required_as, required_at, unbuilt_at}
use Rattle.fs_json.specs.Scalars.{small_at, text_at}
use Rattle.fs_json.specs.declared.bad.Bad.TheVariants.{At}
use Rattle.fs_json.proofs.Named.{parent_is}
use Rattle.fs_json.proofs.Readings.{at_last_holds, either, in_turn_holds, of_made, required_holds}
use Rattle.fs_query.specs.Asked.{Asked}
use Rattle.fs_query.specs.declared.target.Target.{Target}
use Rattle.fs_query.specs.declared.target.Target.TheVariants as target
use Rattle.fs_queryjson.specs.Query.{listened_at, permitted_at}
use Rattle.fs_queryjson.specs.Valid.{IsListened}
use Rattle.fs_queryjson.proofs.QueryValid.{listened_valid, permitted_holds}
use Rattle.fs_rpc.specs.ReadListen.{number_at}
use Rattle.fs_rpc.specs.ReadTargets.{add_target_at, add_target_members, change_names, documents_target_at, documents_target_members, expected_in, labels_in, listen_request_at, listen_request_members, permitted_request, permitted_target, query_target_at, query_target_members, remove_target_at, some_names, target_at, target_change_by, target_id_at, target_members, target_query_place, token_in}
use Rattle.fs_rpc.specs.Requests.{database_at, names_at, parent_at}
use Rattle.fs_rpc.specs.ValidMessage.{IsSmall}
use Rattle.fs_rpc.specs.ValidRequest.{IsRequestOf, IsTargetOf}
use Rattle.fs_request.specs.declared.request.Request.{Request}
use Rattle.fs_request.specs.declared.request.Request.TheVariants.{Commit, GetDocument, BatchGetDocuments, RunQuery, BeginTransaction, Rollback, AddTarget, RemoveTarget, Write}
use Rattle.fs_rpc.proofs.ListenValid.{number_small}
use Rattle.fs_rpc.proofs.NamesValid.{AreNames, database_valid, names_valid}

-- ---- what a target is, before its rules are tested

-- the id of a target
record IsId (n : ℕ) : Type 0 where
  least : 1 ≤ n
  most : IsSmall n

id_at : (n : ℕ) (place : List ℕ) (b : Bool) → (n == 0) ≡ b → IsSmall n → IfOk (cond b (Err (At G place)) (Ok n)) IsId
id_at n place true none small = record {}
id_at n place false some small = record { least = grind (arith, nat_tests); most = small }

id_valid : (d : Data) (place : List ℕ) → IfOk (target_id_at d place) IsId
id_valid d place = in_turn_holds IsSmall IsId (number_at d place) _ (number_small d place) (λ n small. id_at n place (n == 0) refl small)

abbrev IsWalkedOf : Root → Target → Type 0
IsWalkedOf root (target.Query q) = IsParentOf root (scope_parent q.scope) × IsListened (scope_parent q.scope) q
IsWalkedOf root (target.Documents names) = IsTargetOf root (target.Documents names)

query_valid : (root : Root) (d : Data) (place : List ℕ) → IfOk (query_target_at root d place) (IsWalkedOf root)
unfolding query_target_at
query_valid root d place =
    let T : Target → Type 0 = IsWalkedOf root in
    let inside = member_place place (codes "parent") in
    let inner = member_place place (codes "structuredQuery") in
    at_last_holds T (only_at query_target_members d place) _
    (λ u. at_last_holds T (required_at (codes "parent") d place) _
    (λ name. in_turn_holds (IsParentOf root) T (parent_at root name inside) _ (at_last_holds (IsParentOf root) (text_at name inside) _ (λ text. parent_is root text inside))
    (λ parent is. at_last_holds T (required_at (codes "structuredQuery") d place) _
    (λ s. in_turn_holds (IsListened parent) T (listened_at parent s inner) _ (listened_valid parent s inner)
    (λ q read. subst (λ p. IsParentOf root p × IsListened p q) (sym read.walked.below) (is, read))))))

some_valid : (root : Root) (place : List ℕ) (ns : List DocName) → AreNames root ns → IfOk (some_names place ns) (λ names. IsTargetOf root (target.Documents names))
some_valid root place [] are = record {}
some_valid root place (n ∷ ns) are = (are.each, are.once, λ none. cc)

documents_valid : (root : Root) (d : Data) (place : List ℕ) → IfOk (documents_target_at root d place) (IsWalkedOf root)
unfolding documents_target_at
documents_valid root d place =
    let T : Target → Type 0 = IsWalkedOf root in
    let inside = member_place place (codes "documents") in
    at_last_holds T (only_at documents_target_members d place) _
    (λ u. at_last_holds T (required_at (codes "documents") d place) _
    (λ list. in_turn_holds (AreNames root) T (names_at root list inside) _ (names_valid root list inside)
    (λ names are. in_turn_holds (λ ns. IsTargetOf root (target.Documents ns)) T (some_names inside names) _ (some_valid root inside names are) (λ some is. is))))

target_valid : (root : Root) (name : List ℕ) (d : Data) (place : List ℕ) → IfOk (target_at root name d place) (IsWalkedOf root)
target_valid root name d place = either (IsWalkedOf root) (bytes_eq name (codes "query")) _ _ (query_valid root d place) (documents_valid root d place)

-- ---- changes of targets

abbrev IsChangeOf : Root → Request → Type 0
IsChangeOf root (AddTarget database id t token) = (database ≡ root) × IsId id × IsWalkedOf root t
IsChangeOf root (RemoveTarget database id) = database ≡ root
IsChangeOf root (Commit database writes transaction) = ⊥
IsChangeOf root (GetDocument name mask when) = ⊥
IsChangeOf root (BatchGetDocuments database documents mask when) = ⊥
IsChangeOf root (RunQuery database query when) = ⊥
IsChangeOf root (BeginTransaction database options) = ⊥
IsChangeOf root (Rollback database transaction) = ⊥
IsChangeOf root (Write database asked) = ⊥

add_valid : (root : Root) (d : Data) (place : List ℕ) → IfOk (add_target_at root d place) (IsChangeOf root)
unfolding add_target_at
add_valid root d place =
    let R : Request → Type 0 = IsChangeOf root in
    at_last_holds R (only_at add_target_members d place) _
    (λ u. in_turn_holds IsId R (required_as target_id_at (codes "targetId") d place) _ (required_holds IsId target_id_at (codes "targetId") d place id_valid)
    (λ id is. at_last_holds R (one_of_at target_members d place) _
    (λ one. in_turn_holds (IsWalkedOf root) R (target_at root one.0 one.1 (member_place place one.0)) _ (target_valid root one.0 one.1 (member_place place one.0))
    (λ t walked. at_last_holds R (token_in d place) _
    (λ token. at_last_holds R (expected_in d place) _
    (λ count. at_last_holds R (unbuilt_at (codes "once" ∷ codes "readTime" ∷ []) d place) _ (λ v. (refl, is, walked))))))))

remove_valid : (root : Root) (d : Data) (place : List ℕ) → IfOk (remove_target_at root d place) (IsChangeOf root)
remove_valid root d place = at_last_holds (IsChangeOf root) (small_at d place) _ (λ id. refl)

change_valid : (root : Root) (name : List ℕ) (d : Data) (place : List ℕ) → IfOk (target_change_by root name d place) (IsChangeOf root)
change_valid root name d place = either (IsChangeOf root) (bytes_eq name (codes "addTarget")) _ _ (add_valid root d place) (remove_valid root d place)

-- ---- as their rules were tested

permitted_target_valid : (root : Root) (t : Target) (place : List ℕ) → IsWalkedOf root t → IfOk (permitted_target t place) (IsTargetOf root)
permitted_target_valid root (target.Query q) place is =
    let P : Asked → Type 0 = λ p. IsTargetOf root (target.Query p) in
    of_made P (IsTargetOf root) target.Query (permitted_at q place)
    (permitted_holds P q place
    (λ none. (
      is.0,
      record { filter = is.1.walked.filter; start = is.1.walked.start; end = is.1.walked.end; select = is.1.walked.select; allowed = none },
      is.1.select,
      is.1.offset,
    )))
    (λ p allowed. allowed)
permitted_target_valid root (target.Documents names) place is = is

permitted_valid : (root : Root) (r : Request) (place : List ℕ) → IsDatabase root → IsChangeOf root r → IfOk (permitted_request r place) (IsRequestOf root)
permitted_valid root (AddTarget database id t token) place named is =
    of_made (IsTargetOf root) (IsRequestOf root) (λ x. AddTarget database id x token) (permitted_target t (target_query_place place))
    (permitted_target_valid root t (target_query_place place) is.2)
    (λ x allowed. record { database = record { same = is.0; named = named }; least = is.1.least; most = is.1.most; target = allowed })
permitted_valid root (RemoveTarget database id) place named is = record { same = is; named = named }
permitted_valid root (Commit database writes transaction) place named is = absurd is
permitted_valid root (GetDocument name mask when) place named is = absurd is
permitted_valid root (BatchGetDocuments database documents mask when) place named is = absurd is
permitted_valid root (RunQuery database query when) place named is = absurd is
permitted_valid root (BeginTransaction database options) place named is = absurd is
permitted_valid root (Rollback database transaction) place named is = absurd is
permitted_valid root (Write database asked) place named is = absurd is

pub listen_request_valid : (root : Root) (d : Data) (place : List ℕ) → IfOk (listen_request_at root d place) (IsRequestOf root)
unfolding listen_request_at
listen_request_valid root d place =
    at_last_holds (IsRequestOf root) (only_at listen_request_members d place) _
    (λ u. in_turn_holds (λ v. IsDatabase root) (IsRequestOf root) (database_at root d place) _ (database_valid root d place)
    (λ v named. at_last_holds (IsRequestOf root) (one_of_at change_names d place) _
    (λ one. in_turn_holds (IsChangeOf root) (IsRequestOf root) (target_change_by root one.0 one.1 (member_place place one.0)) _ (change_valid root one.0 one.1 (member_place place one.0))
    (λ r is. at_last_holds (IsRequestOf root) (labels_in d place) _ (λ w. permitted_valid root r place named is)))))
