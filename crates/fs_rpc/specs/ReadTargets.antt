-- The requests of a session that listens, as proto3 JSON: a target is added, or one is removed. What stands in the query of a target is
-- read as in any query, but nothing is selected or skipped there: both are refused by their names, whatever they are.
-- (v1 reference: `ListenRequest`, `Target`.)
--
--     under "listen", beside "database"
--     "addTarget":{"documents":{"documents":[".."]},"targetId":1}                          target 1 is the documents of these names
--     "addTarget":{"query":{"parent":"..","structuredQuery":{..}},"resumeToken":"RlNSMQAGDdcQISAB","targetId":2}     resumes target 2
--     "removeTarget":1                                                                     target 1 is to be removed
use Rattle.std.specs.Prelude.{ℕ, ℤ, ◌==◌, List, [], ◌∷◌, Option, Some, None, Result, Ok, Err, codes, if◌then◌else◌, ⊤}
use Rattle.std.specs.Str.{bytes_eq}
use Rattle.serde_json.specs.Data.{Data, Members, object, no_members, member}
use Rattle.fs_path.specs.Place.{member_place}
use Rattle.fs_path.specs.declared.name.DocName.{DocName}
use Rattle.fs_path.specs.declared.name.Root.{Root}
use Rattle.fs_path.specs.declared.place.Rule.TheVariants.{G}
use Rattle.fs_json.specs.Answer.{made, ◌>>=◌}
use Rattle.fs_json.specs.Members.{member_or, one_of_at, only_at, required_as, required_at, unbuilt_at}
use Rattle.fs_json.specs.Scalars.{small_at, text_at}
use Rattle.fs_json.specs.declared.bad.Bad.{Bad}
use Rattle.fs_json.specs.declared.bad.Bad.TheVariants.{At}
use Rattle.fs_query.specs.declared.target.Target.{Target}
use Rattle.fs_query.specs.declared.target.Target.TheVariants as target
use Rattle.fs_queryjson.specs.Query.{listened_at, permitted_at}
use Rattle.fs_rpc.specs.ReadListen.{number_at, token_at}
use Rattle.fs_rpc.specs.Requests.{database_at, names_at, parent_at}
use Rattle.fs_request.specs.declared.request.Request.{Request}
use Rattle.fs_request.specs.declared.request.Request.TheVariants.{Commit, GetDocument, BatchGetDocuments, RunQuery, BeginTransaction, Rollback, AddTarget, RemoveTarget, Write}

-- ---- what a target is

-- the id of a target, which is at least 1
abbrev pub target_id_at : Data → List ℕ → Result ℕ Bad
target_id_at d place = number_at d place >>= λ n. (if n == 0 then Err (At G place) else Ok n)

abbrev pub query_target_members : List (List ℕ)
query_target_members = codes "parent" ∷ codes "structuredQuery" ∷ []

-- a query as it is walked; its rules are tested after the walk of the whole request
unfoldable pub query_target_at : Root → Data → List ℕ → Result Target Bad
query_target_at root d place = do
  _ ← only_at query_target_members d place
  text ← required_at (codes "parent") d place
  parent ← parent_at root text (member_place place (codes "parent"))
  structured ← required_at (codes "structuredQuery") d place
  query ← listened_at parent structured (member_place place (codes "structuredQuery"))
  Ok (target.Query query)

abbrev pub documents_target_members : List (List ℕ)
documents_target_members = codes "documents" ∷ []

-- there is a name
abbrev pub some_names : List ℕ → List DocName → Result (List DocName) Bad
some_names place [] = Err (At G place)
some_names place (n ∷ ns) = Ok (n ∷ ns)

-- names, each once
unfoldable pub documents_target_at : Root → Data → List ℕ → Result Target Bad
documents_target_at root d place = do
  _ ← only_at documents_target_members d place
  list ← required_at (codes "documents") d place
  names ← names_at root list (member_place place (codes "documents"))
  some ← some_names (member_place place (codes "documents")) names
  Ok (target.Documents some)

-- just one of them is there
abbrev pub target_members : List (List ℕ)
target_members = codes "query" ∷ codes "documents" ∷ []

-- by its name
abbrev pub target_at : Root → List ℕ → Data → List ℕ → Result Target Bad
target_at root name d place = if bytes_eq name (codes "query") then query_target_at root d place else documents_target_at root d place

-- ---- adding and removing

abbrev pub add_target_members : List (List ℕ)
add_target_members =
    codes "targetId" ∷ codes "query" ∷ codes "documents" ∷ codes "resumeToken" ∷ codes "expectedCount" ∷ codes "once" ∷ codes "readTime" ∷ []

-- any bytes may be given as a token
abbrev pub token_in : Data → List ℕ → Result (Option (List ℕ)) Bad
token_in d place = member_or None (λ x p. made Some (token_at x p)) (codes "resumeToken") d place

-- how many documents are expected is ignored
abbrev pub expected_in : Data → List ℕ → Result (Option ℤ) Bad
expected_in d place = member_or None (λ x p. made Some (small_at x p)) (codes "expectedCount") d place

unfoldable pub add_target_at : Root → Data → List ℕ → Result Request Bad
add_target_at root d place = do
  _ ← only_at add_target_members d place
  id ← required_as target_id_at (codes "targetId") d place
  one ← one_of_at target_members d place
  target ← target_at root one.0 one.1 (member_place place one.0)
  token ← token_in d place
  _ ← expected_in d place
  _ ← unbuilt_at (codes "once" ∷ codes "readTime" ∷ []) d place
  Ok (AddTarget root id target token)

abbrev pub remove_target_at : Root → Data → List ℕ → Result Request Bad
remove_target_at root d place = made (RemoveTarget root) (small_at d place)

-- ---- the request

-- labels are texts, and are ignored
abbrev pub texts_at : Members → List ℕ → Result ⊤ Bad
texts_at no_members place = Ok tt
texts_at (member k d ms) place = text_at d (member_place place k) >>= λ _. texts_at ms place

abbrev pub labels_at : Data → List ℕ → Result ⊤ Bad
labels_at (object ms) place = texts_at ms place
labels_at _ place = Err (At G place)

abbrev pub labels_in : Data → List ℕ → Result ⊤ Bad
labels_in d place = member_or tt labels_at (codes "labels") d place

-- just one of them is there
abbrev pub change_names : List (List ℕ)
change_names = codes "addTarget" ∷ codes "removeTarget" ∷ []

-- by its name
abbrev pub target_change_by : Root → List ℕ → Data → List ℕ → Result Request Bad
target_change_by root name d place = if bytes_eq name (codes "addTarget") then add_target_at root d place else remove_target_at root d place

abbrev pub listen_request_members : List (List ℕ)
listen_request_members = codes "database" ∷ codes "addTarget" ∷ codes "removeTarget" ∷ codes "labels" ∷ []

-- where the query of a target stands
abbrev pub target_query_place : List ℕ → List ℕ
target_query_place place = member_place (member_place (member_place place (codes "addTarget")) (codes "query")) (codes "structuredQuery")

abbrev pub permitted_target : Target → List ℕ → Result Target Bad
permitted_target (target.Query q) place = made target.Query (permitted_at q place)
permitted_target (target.Documents names) place = Ok (target.Documents names)

-- the rules of its query
abbrev pub permitted_request : Request → List ℕ → Result Request Bad
permitted_request (AddTarget database id t token) place = made (λ (x : Target). AddTarget database id x token) (permitted_target t (target_query_place place))
permitted_request (RemoveTarget database id) place = Ok (RemoveTarget database id)
permitted_request (Commit database writes transaction) place = Ok (Commit database writes transaction)
permitted_request (GetDocument name mask when) place = Ok (GetDocument name mask when)
permitted_request (BatchGetDocuments database names mask when) place = Ok (BatchGetDocuments database names mask when)
permitted_request (RunQuery database query when) place = Ok (RunQuery database query when)
permitted_request (BeginTransaction database options) place = Ok (BeginTransaction database options)
permitted_request (Rollback database transaction) place = Ok (Rollback database transaction)
permitted_request (Write database asked) place = Ok (Write database asked)

unfoldable pub listen_request_at : Root → Data → List ℕ → Result Request Bad
listen_request_at root d place = do
  _ ← only_at listen_request_members d place
  _ ← database_at root d place
  one ← one_of_at change_names d place
  request ← target_change_by root one.0 one.1 (member_place place one.0)
  _ ← labels_in d place
  permitted_request request place
