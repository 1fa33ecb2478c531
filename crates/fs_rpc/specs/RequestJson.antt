-- The JSON of requests, as it is written. The members of each object stand in byte order of their names, and what is absent is
-- left out. So are writes where there are none; documents that are none are an empty list, since they have to be there. A
-- query's parent, the root's documents or one of them, stands beside it. (v1 reference: `CommitRequest`,
-- `GetDocumentRequest`, `BatchGetDocumentsRequest`, `RunQueryRequest`, `BeginTransactionRequest`, `RollbackRequest`,
-- `ListenRequest`, `WriteRequest`; proto3 JSON.)
--
--     a commit of a delete            {"commit":{"database":"projects/p/databases/d","writes":[{"delete":".."}]},"id":"1"}
--     a read, without an id           {"getDocument":{"name":"projects/p/databases/d/documents/c/a"}}
--     a read of none as of 2024       {"batchGetDocuments":{"database":"projects/p/databases/d","documents":[],
--                                      "readTime":"2024-01-01T00:00:00Z"}}
--     the collection c of the root    {"id":"2","runQuery":{"parent":"projects/p/databases/d/documents",
--                                      "structuredQuery":{"from":[{"collectionId":"c"}]}}}
--     a begin, which has no id        {"beginTransaction":{"database":"projects/p/databases/d","options":{"readWrite":{}}}}
--     a rollback of transaction 2     {"id":"3","rollback":{"database":"projects/p/databases/d",
--                                      "transaction":"AAAAAAAAAAI="}}
--     listens to a document           {"listen":{"addTarget":{"documents":{"documents":[".."]},"targetId":1},
--                                      "database":"projects/p/databases/d"}}
--     to a query from a token on      {"listen":{"addTarget":{"query":{"parent":"..","structuredQuery":{..}},
--                                      "resumeToken":"RlNSMQAGDdcQISAB","targetId":2},"database":".."}}
--     no longer to target 1           {"listen":{"database":"projects/p/databases/d","removeTarget":1}}
--     opens a write stream            {"write":{"database":"projects/p/databases/d"}}
--     the first batch of stream 1     {"write":{"database":"projects/p/databases/d","streamToken":"AAAAAAAAAAA=",
--                                      "writes":[{"delete":".."}]}}
use Rattle.std.specs.Prelude.{ℕ, ℤ, List, [], ◌∷◌, Option, Some, None, map, codes}
use Rattle.fs_path.specs.Database.{database_text}
use Rattle.fs_path.specs.Document.{document_text, under}
use Rattle.fs_path.specs.declared.field.FieldPath.{FieldPath}
use Rattle.fs_path.specs.declared.name.DocName.{DocName}
use Rattle.fs_path.specs.declared.name.Root.{Root}
use Rattle.fs_path.specs.declared.scope.Scope.{Scope}
use Rattle.serde_json.specs.Data.{Data, string, array, object, Items, Members, no_members, member}
use Rattle.serde_json.specs.View.{items_of}
use Rattle.fs_json.specs.Base64.{bytes_json}
use Rattle.fs_json.specs.Integer.{small_json}
use Rattle.fs_query.specs.Asked.{Asked}
use Rattle.fs_query.specs.declared.target.Target.{Target}
use Rattle.fs_query.specs.declared.target.Target.TheVariants as target
use Rattle.fs_path.specs.Scope.{scope_parent}
use Rattle.fs_queryjson.specs.Written.{query_json}
use Rattle.fs_write.specs.declared.write.Write.{Write}
use Rattle.fs_writejson.specs.Mask.{mask_json}
use Rattle.fs_writejson.specs.Written.{write_json}
use Rattle.fs_rpc.specs.Id.{with_id_put}
use Rattle.fs_rpc.specs.ListenJson.{number_json}
use Rattle.fs_rpc.specs.Options.{options_json}
use Rattle.fs_rpc.specs.Decimal.{decimal_json}
use Rattle.fs_rpc.specs.Eight.{eight_json, with_eight}
use Rattle.fs_request.specs.When.{time_of, transaction_of}
use Rattle.fs_rpc.specs.When.{with_read_time, with_when}
use Rattle.fs_request.specs.declared.options.TransactionOptions.{TransactionOptions}
use Rattle.fs_request.specs.declared.request.Envelope.{Envelope}
use Rattle.fs_request.specs.declared.request.Request.{Request}
use Rattle.fs_request.specs.declared.request.Request.TheVariants.{Commit, GetDocument, BatchGetDocuments, RunQuery, BeginTransaction, Rollback, AddTarget, RemoveTarget}
use Rattle.fs_request.specs.declared.request.Request.TheVariants as requests
use Rattle.fs_request.specs.declared.stream_request.StreamRequest.{StreamRequest}
use Rattle.fs_request.specs.declared.stream_request.StreamRequest.TheVariants.{Open, Resume, Batch, Ask, Mixed}
use Rattle.fs_request.specs.declared.when.When.{When}

-- ---- parts

abbrev pub database_json : Root → Data
database_json database = string (database_text database)

abbrev pub name_json : DocName → Data
name_json name = string (document_text name)

abbrev pub names_json : List DocName → Items
names_json names = items_of (map name_json names)

abbrev pub writes_json : List Write → Items
writes_json writes = items_of (map write_json writes)

-- writes, where there are some
abbrev pub writes_member : List Write → Members
writes_member [] = no_members
writes_member (w ∷ ws) = member (codes "writes") (array (writes_json (w ∷ ws))) no_members

-- a mask, where there is one, in front of what follows
abbrev pub with_mask : Option (List FieldPath) → Members → Members
with_mask None rest = rest
with_mask (Some paths) rest = member (codes "mask") (mask_json paths) rest

-- what the collections of a query stand below: the root's documents, or one of them
abbrev pub parent_json : Root → Scope → Data
parent_json database scope = string (document_text (under database (scope_parent scope)))

-- ---- methods

abbrev pub commit_json : Root → List Write → Option ℕ → Data
commit_json database writes transaction =
    object (member (codes "database") (database_json database) (with_eight (codes "transaction") transaction (writes_member writes)))

abbrev pub get_json : DocName → Option (List FieldPath) → When → Data
get_json name mask when = object (with_mask mask (member (codes "name") (name_json name) (with_when when no_members)))

abbrev pub batch_get_json : Root → List DocName → Option (List FieldPath) → When → Data
batch_get_json database documents mask when =
    object (member (codes "database") (database_json database) (member (codes "documents") (array (names_json documents)) (with_mask mask (with_when when no_members))))

-- the query stands between the time and the transaction
abbrev pub run_query_json : Root → Asked → When → Data
run_query_json database query when =
    object (member (codes "parent") (parent_json database query.scope)
    (with_read_time (time_of when) (member (codes "structuredQuery") (query_json query) (with_eight (codes "transaction") (transaction_of when) no_members))))

-- options are written also where they are what is meant without them
abbrev pub begin_json : Root → TransactionOptions → Data
begin_json database options = object (member (codes "database") (database_json database) (member (codes "options") (options_json options) no_members))

abbrev pub rollback_json : Root → ℕ → Data
rollback_json database transaction =
    object (member (codes "database") (database_json database) (member (codes "transaction") (eight_json transaction) no_members))

-- ---- targets

abbrev pub query_target_json : Root → Asked → Data
query_target_json database query = object (member (codes "parent") (parent_json database query.scope) (member (codes "structuredQuery") (query_json query) no_members))

abbrev pub documents_target_json : List DocName → Data
documents_target_json names = object (member (codes "documents") (array (names_json names)) no_members)

-- what is listened to, in front of what follows
abbrev pub with_target : Root → Target → Members → Members
with_target database (target.Query query) rest = member (codes "query") (query_target_json database query) rest
with_target database (target.Documents names) rest = member (codes "documents") (documents_target_json names) rest

-- a token, where there is one, in front of what follows
abbrev pub with_token : Option (List ℕ) → Members → Members
with_token None rest = rest
with_token (Some token) rest = member (codes "resumeToken") (bytes_json token) rest

abbrev pub add_target_json : Root → ℕ → Target → Option (List ℕ) → Data
add_target_json database id t token = object (with_target database t (with_token token (member (codes "targetId") (number_json id) no_members)))

abbrev pub listen_add_json : Root → ℕ → Target → Option (List ℕ) → Data
listen_add_json database id t token =
    object (member (codes "addTarget") (add_target_json database id t token) (member (codes "database") (database_json database) no_members))

abbrev pub listen_remove_json : Root → ℤ → Data
listen_remove_json database id = object (member (codes "database") (database_json database) (member (codes "removeTarget") (small_json id) no_members))

-- ---- write streams

-- what there is of each member
abbrev pub stream_of : StreamRequest → Option ℕ
stream_of Open = None
stream_of (Resume stream token) = Some stream
stream_of (Batch token writes) = None
stream_of (Ask token) = None
stream_of (Mixed stream token writes) = Some stream

abbrev pub token_of : StreamRequest → Option ℕ
token_of Open = None
token_of (Resume stream token) = Some token
token_of (Batch token writes) = Some token
token_of (Ask token) = Some token
token_of (Mixed stream token writes) = Some token

abbrev pub writes_of : StreamRequest → List Write
writes_of Open = []
writes_of (Resume stream token) = []
writes_of (Batch token writes) = writes
writes_of (Ask token) = []
writes_of (Mixed stream token writes) = writes

-- the number of a stream, where there is one, in front of what follows
abbrev pub with_stream : Option ℕ → Members → Members
with_stream None rest = rest
with_stream (Some n) rest = member (codes "streamId") (decimal_json n) rest

abbrev pub stream_request_json : Root → StreamRequest → Data
stream_request_json database asked =
    object (member (codes "database") (database_json database)
    (with_stream (stream_of asked) (with_eight (codes "streamToken") (token_of asked) (writes_member (writes_of asked)))))

-- ---- requests

-- what stands under the method
abbrev pub request_json : Request → Data
request_json (Commit database writes transaction) = commit_json database writes transaction
request_json (GetDocument name mask when) = get_json name mask when
request_json (BatchGetDocuments database documents mask when) = batch_get_json database documents mask when
request_json (RunQuery database query when) = run_query_json database query when
request_json (BeginTransaction database options) = begin_json database options
request_json (Rollback database transaction) = rollback_json database transaction
request_json (AddTarget database id t token) = listen_add_json database id t token
request_json (RemoveTarget database id) = listen_remove_json database id
request_json (requests.Write database asked) = stream_request_json database asked

abbrev pub method_of : Request → List ℕ
method_of (Commit database writes transaction) = codes "commit"
method_of (GetDocument name mask when) = codes "getDocument"
method_of (BatchGetDocuments database documents mask when) = codes "batchGetDocuments"
method_of (RunQuery database query when) = codes "runQuery"
method_of (BeginTransaction database options) = codes "beginTransaction"
method_of (Rollback database transaction) = codes "rollback"
method_of (AddTarget database id t token) = codes "listen"
method_of (RemoveTarget database id) = codes "listen"
method_of (requests.Write database asked) = codes "write"

-- with their ids

abbrev pub envelope_members : Envelope → Members
envelope_members e = with_id_put e.id (member (method_of e.request) (request_json e.request) no_members)

abbrev pub envelope_json : Envelope → Data
envelope_json e = object (envelope_members e)
