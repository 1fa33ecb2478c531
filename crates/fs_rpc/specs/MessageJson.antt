-- The JSON of messages. On a line of a transcript each has its session too, at its place in the order of names.
-- (v1 reference: `CommitResponse`, "WriteResult", "Document", `BatchGetDocumentsResponse`, `RunQueryResponse`,
-- `BeginTransactionResponse`, and `google.rpc.Status` as REST prints it; a rollback is answered by an empty object.)
-- What a session is told of its targets and its stream has no id. (`ListenResponse`, `WriteResponse`.)
--
--     transaction 2 was begun    {"id":"1","result":{"transaction":"AAAAAAAAAAI="}}
--     it was rolled back         {"id":"2","result":{}}
--     target 1 was added         {"listen":{"targetChange":{"targetChangeType":"ADD","targetIds":[1]}}}
--     stream 1 was opened        {"write":{"streamId":"1","streamToken":"AAAAAAAAAAA="}}
--     a delete was committed there
--                                {"write":{"commitTime":"..","streamId":"1","streamToken":"AAAAAAAAAAE=","writeResults":[{}]}}
use Rattle.std.specs.Prelude.{ℕ, ℤ, List, [], ◌∷◌, Option, Some, None, map, codes}
use Rattle.serde_json.specs.Data.{Data, unsigned, number, string, array, object, Items, no_items, item, Members, no_members, member, put}
use Rattle.serde_json.specs.View.{items_of}
use Rattle.fs_json.specs.Members.{with_one}
use Rattle.fs_json.specs.Time.{time_json}
use Rattle.fs_path.specs.Document.{document_text}
use Rattle.fs_status.specs.Status.{http_of, status_text}
use Rattle.fs_status.specs.declared.code.Code.{Code}
use Rattle.fs_valjson.specs.Document.{document_json}
use Rattle.fs_value.specs.declared.document.Document.{Document}
use Rattle.fs_write.specs.declared.write_result.WriteResult.{WriteResult}
use Rattle.fs_writejson.specs.Results.{result_json}
use Rattle.fs_rpc.specs.ListenJson.{listen_json}
use Rattle.fs_rpc.specs.Decimal.{decimal_json}
use Rattle.fs_rpc.specs.Eight.{eight_json}
use Rattle.fs_request.specs.declared.message.BatchAnswer.{BatchAnswer}
use Rattle.fs_request.specs.declared.message.BatchAnswer.TheVariants.{Found, Missing}
use Rattle.fs_request.specs.declared.message.StreamAnswer.{StreamAnswer}
use Rattle.fs_request.specs.declared.message.StreamAnswer.TheVariants.{Stands, Committed, Refused}
use Rattle.fs_request.specs.declared.message.Message.{Message}
use Rattle.fs_request.specs.declared.message.Message.TheVariants.{Commit, GetDocument, BatchGetDocuments, RunQuery, BeginTransaction, Rollback, Listen, Write, Error}

-- ---- errors

-- `{"code":404,"message":"..","status":"NOT_FOUND"}`
abbrev pub error_json : Code → List ℕ → Data
error_json code message = object (member (codes "code") (number (unsigned (http_of code))) (member (codes "message") (string message) (member (codes "status") (string (status_text code)) no_members)))

-- ---- results

-- an empty list of results is left out
abbrev pub with_results : Items → Members
with_results no_items = no_members
with_results (item d ds) = member (codes "writeResults") (array (item d ds)) no_members

-- `{"commitTime":"..","writeResults":[..]}`
abbrev pub commit_json : ℤ → List WriteResult → Data
commit_json time results = object (member (codes "commitTime") (time_json time) (with_results (items_of (map result_json results))))

abbrev pub read_at : ℤ → Members
read_at time = member (codes "readTime") (time_json time) no_members

-- `{"found":{..},"readTime":".."}` or `{"missing":"..","readTime":".."}`
abbrev pub batch_answer_json : BatchAnswer → Data
batch_answer_json (Found document time) = object (member (codes "found") (document_json document) (read_at time))
batch_answer_json (Missing name time) = object (member (codes "missing") (string (document_text name)) (read_at time))

abbrev pub query_answer_json : ℤ → Document → Data
query_answer_json time document = object (member (codes "document") (document_json document) (read_at time))

-- one for each document; where there is none, one that has its time alone
abbrev pub query_answers_json : List Document → ℤ → Items
query_answers_json [] time = item (object (read_at time)) no_items
query_answers_json (d ∷ ds) time = items_of (map (query_answer_json time) (d ∷ ds))

-- `{"transaction":".."}`
abbrev pub begin_json : ℕ → Data
begin_json transaction = with_one (codes "transaction") (eight_json transaction)

-- ---- write streams

-- a stream and its token, in front of what follows
abbrev pub with_stream_and_token : ℕ → ℕ → Members → Members
with_stream_and_token stream token rest = member (codes "streamId") (decimal_json stream) (member (codes "streamToken") (eight_json token) rest)

-- what is told of a stream
abbrev pub stream_answer_members : ℕ → ℕ → StreamAnswer → Members
stream_answer_members stream token Stands = with_stream_and_token stream token no_members
stream_answer_members stream token (Committed time results) =
    member (codes "commitTime") (time_json time) (with_stream_and_token stream token (with_results (items_of (map result_json results))))
stream_answer_members stream token (Refused code message) = member (codes "error") (error_json code message) (with_stream_and_token stream token no_members)

abbrev pub stream_answer_json : ℕ → ℕ → StreamAnswer → Data
stream_answer_json stream token answer = object (stream_answer_members stream token answer)

-- ---- messages

abbrev pub with_id : Option (List ℕ) → Members → Members
with_id None ms = ms
with_id (Some id) ms = member (codes "id") (string id) ms

-- `{"id":"1","result":..}`
abbrev pub result_members : Option (List ℕ) → Data → Members
result_members id result = with_id id (member (codes "result") result no_members)

-- `{"error":{..},"id":"1"}`
abbrev pub error_members : Option (List ℕ) → Data → Members
error_members id error = member (codes "error") error (with_id id no_members)

abbrev pub message_members : Message → Members
message_members (Commit id time results) = result_members id (commit_json time results)
message_members (GetDocument id document) = result_members id (document_json document)
message_members (BatchGetDocuments id answers) = result_members id (array (items_of (map batch_answer_json answers)))
message_members (RunQuery id documents time) = result_members id (array (query_answers_json documents time))
message_members (BeginTransaction id transaction) = result_members id (begin_json transaction)
message_members (Rollback id) = result_members id (object no_members)
message_members (Listen told) = member (codes "listen") (listen_json told) no_members
message_members (Write stream token answer) = member (codes "write") (stream_answer_json stream token answer) no_members
message_members (Error id code message) = error_members id (error_json code message)

abbrev pub message_json : Message → Data
message_json m = object (message_members m)

-- the same on a session
abbrev pub message_json_on : List ℕ → Message → Data
message_json_on session m = object (put (codes "session") (string session) (message_members m))
