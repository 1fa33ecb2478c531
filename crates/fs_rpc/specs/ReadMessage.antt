-- Which message a text is, or the first place in the walk where it is at fault.
-- (v1 reference: `CommitResponse`, "Document", `BatchGetDocumentsResponse`, `RunQueryResponse`, `BeginTransactionResponse`, and
-- `google.rpc.Status` as REST prints it; `ListenResponse` for what a session that listens is told, and `WriteResponse` for what it is
-- told of its stream.)
--
--     {"id":"1","result":{"transaction":"AAAAAAAAAAI="}}    transaction 2 was begun
--     {"id":"2","result":{}}                                a transaction was rolled back
use Rattle.std.specs.Prelude.{ℕ, Bool, true, false, ◌||◌, List, [], ◌∷◌, Option, Some, None, Result, Ok, Err, codes, if◌then◌else◌, ⊤}
use Rattle.std.specs.Option.{option_map_or}
use Rattle.std.specs.Str.{bytes_eq}
use Rattle.serde_json.specs.Data.{Data, Items, no_items, item, Members, no_members, member}
use Rattle.serde_json.specs.Find.{as_array, as_object}
use Rattle.serde_json.specs.Read.{read}
use Rattle.fs_path.specs.declared.name.Root.{Root}
use Rattle.fs_path.specs.declared.place.Rule.TheVariants.{G}
use Rattle.fs_json.specs.Answer.{made, or_fault, ◌>>=◌}
use Rattle.fs_json.specs.Members.{is_there, required_as, only_at, one_of_at}
use Rattle.fs_json.specs.declared.bad.Bad.{Bad}
use Rattle.fs_json.specs.declared.bad.Bad.TheVariants.{At}
use Rattle.fs_valjson.specs.Document.{document_at}
use Rattle.fs_json.specs.Walk.{each_at}
use Rattle.fs_rpc.specs.Id.{id_at}
use Rattle.fs_rpc.specs.ReadError.{refusal_at}
use Rattle.fs_rpc.specs.ReadListen.{listen_at}
use Rattle.fs_rpc.specs.ReadResults.{results_in, batch_answer_at, query_answer_at, answered}
use Rattle.fs_rpc.specs.ReadStreamAnswer.{stream_answer_at}
use Rattle.fs_json.specs.Time.{required_time_at}
use Rattle.fs_rpc.specs.Eight.{eight_at}
use Rattle.fs_request.specs.declared.message.Message.{Message}
use Rattle.fs_request.specs.declared.message.Message.TheVariants.{Commit, GetDocument, BatchGetDocuments, RunQuery, BeginTransaction, Rollback, Listen, Error}

-- ---- errors

-- a refusal
abbrev pub error_at : Option (List ℕ) → Data → List ℕ → Result Message Bad
error_at id d place = made (λ told. Error id told.0 told.1) (refusal_at d place)

-- ---- results

-- the members of a commit's answer
abbrev pub commit_result_members : List (List ℕ)
commit_result_members = codes "commitTime" ∷ codes "writeResults" ∷ []

-- what a commit is answered
unfoldable pub commit_result_at : Option (List ℕ) → Data → List ℕ → Result Message Bad
commit_result_at id d place = do
  _ ← only_at commit_result_members d place
  time ← required_time_at (codes "commitTime") d place
  results ← results_in d place
  Ok (Commit id time results)

-- the member of a begin's answer
abbrev pub begin_result_members : List (List ℕ)
begin_result_members = codes "transaction" ∷ []

-- what a begin is answered
unfoldable pub begin_result_at : Option (List ℕ) → Data → List ℕ → Result Message Bad
begin_result_at id d place = do
  _ ← only_at begin_result_members d place
  transaction ← required_as eight_at (codes "transaction") d place
  Ok (BeginTransaction id transaction)

-- what is told of the names that were asked for
abbrev pub documents_result_at : Root → Option (List ℕ) → Items → List ℕ → Result Message Bad
documents_result_at root id items place = each_at (batch_answer_at root) items 0 place >>= λ answers. Ok (BatchGetDocuments id answers)

-- what a query is answered; items that aren't one answer are at fault as a list
abbrev pub query_result_at : Root → Option (List ℕ) → Items → List ℕ → Result Message Bad
query_result_at root id items place = do
  told ← each_at (query_answer_at root) items 0 place
  one ← or_fault G place (answered told)
  Ok (RunQuery id one.0 one.1)

-- whether a list answers names that were asked for, which is told by its first item
abbrev pub answers_names : Items → Bool
answers_names no_items = true
answers_names (item d ds) = is_there (codes "found") d || is_there (codes "missing") d

-- a list, as what it answers
abbrev pub list_result_at : Root → Option (List ℕ) → Items → List ℕ → Result Message Bad
list_result_at root id items place = if answers_names items then documents_result_at root id items place else query_result_at root id items place

-- whether an object is what a commit is answered
abbrev pub answers_commit : Data → Bool
answers_commit d = is_there (codes "commitTime") d || is_there (codes "commit_time") d

-- whether an object is what a begin is answered
abbrev pub answers_begin : Data → Bool
answers_begin d = is_there (codes "transaction") d

abbrev pub has_none : Members → Bool
has_none no_members = true
has_none (member k d ms) = false

-- whether an object is what a rollback is answered: it has no members
abbrev pub answers_rollback : Data → Bool
answers_rollback d = option_map_or has_none (as_object d) false

-- an object, as what it answers: a commit, a begin, a rollback, or a read of the document that it is
abbrev pub object_result_at : Root → Option (List ℕ) → Data → List ℕ → Result Message Bad
object_result_at root id d place =
    if answers_commit d then commit_result_at id d place
    else if answers_begin d then begin_result_at id d place
    else if answers_rollback d then Ok (Rollback id)
    else document_at root d place >>= λ document. Ok (GetDocument id document)

-- A result has no name for its method, so it is told by its shape.
unfoldable pub result_at : Root → Option (List ℕ) → Data → List ℕ → Result Message Bad
result_at root id d place = option_map_or (λ items. list_result_at root id items place) (as_array d) (object_result_at root id d place)

-- ---- what answers no request

-- so it has no id
abbrev pub no_id_at : Option (List ℕ) → Result ⊤ Bad
no_id_at None = Ok tt
no_id_at (Some id) = Err (At G (codes "id"))

-- what a session that listens is told
abbrev pub unasked_at : Root → Option (List ℕ) → Data → List ℕ → Result Message Bad
unasked_at root id d place = no_id_at id >>= λ _. made Listen (listen_at root d place)

-- what is told of a write stream
abbrev pub streamed_at : Option (List ℕ) → Data → List ℕ → Result Message Bad
streamed_at id d place = no_id_at id >>= λ _. stream_answer_at d place

-- ---- messages

-- the members of a message
abbrev pub message_members : List (List ℕ)
message_members = codes "error" ∷ codes "id" ∷ codes "listen" ∷ codes "result" ∷ codes "write" ∷ []

-- those of which just one is there
abbrev pub outcomes : List (List ℕ)
outcomes = codes "result" ∷ codes "listen" ∷ codes "write" ∷ codes "error" ∷ []

-- what stands under one of those
abbrev pub outcome_at : Root → Option (List ℕ) → List ℕ → Data → Result Message Bad
outcome_at root id name d =
    if bytes_eq name (codes "result") then result_at root id d name
    else if bytes_eq name (codes "listen") then unasked_at root id d name
    else if bytes_eq name (codes "write") then streamed_at id d name
    else error_at id d name

-- a JSON value, as a message of the root's documents
unfoldable pub message_at : Root → Data → Result Message Bad
message_at root d = do
  _ ← only_at message_members d []
  id ← id_at d
  one ← one_of_at outcomes d []
  outcome_at root id one.0 one.1

-- a text, as such a message
abbrev pub message_of : Root → List ℕ → Result Message Bad
message_of root text = or_fault G [] (read text) >>= message_at root
