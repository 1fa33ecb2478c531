-- What is read as a message is a message of the root's documents.
use Rattle.std.proofs.Common.{ℕ, ℤ, List, [], ◌∷◌, Option, Some, None, IfOk, IfSome, codes, bytes_eq, filter_map, option_map}
use Rattle.std.specs.List.{AllByRecursion}
use Rattle.serde_json.specs.Data.{Data, Items}
use Rattle.serde_json.specs.Find.{as_array}
use Rattle.fs_path.specs.Document.{IsDocumentOf}
use Rattle.fs_path.specs.Place.{member_place}
use Rattle.fs_path.specs.declared.name.Root.{Root}
use Rattle.fs_path.specs.declared.place.Rule.TheVariants.{G}
use Rattle.fs_json.specs.Answer.{or_fault}
use Rattle.fs_json.specs.Members.{at_most_one_at, one_of_at, only_at, required_as}
use Rattle.fs_json.specs.Paths.{document_name_at}
use Rattle.fs_json.specs.Walk.{all_at, each_at}
use Rattle.fs_value.specs.declared.document.Document.{Document}
use Rattle.fs_json.proofs.Readings.{at_last_holds, either, found_or, in_turn_holds, member_holds, of_made}
use Rattle.fs_json.proofs.Walks.{each_item, each_of_list}
use Rattle.fs_json.proofs.Named.{document_name_is}
use Rattle.fs_json.specs.Time.{required_time_at, time_at}
use Rattle.fs_valjson.specs.Document.{document_at}
use Rattle.fs_valjson.specs.Valid.{IsValid}
use Rattle.fs_valjson.proofs.Valid.{document_valid}
use Rattle.fs_rpc.specs.Id.{id_at}
use Rattle.fs_rpc.specs.ReadMessage.{answers_begin, answers_commit, answers_names, answers_rollback, begin_result_at, begin_result_members, commit_result_at, commit_result_members, documents_result_at, error_at, list_result_at, message_at, message_members, no_id_at, object_result_at, outcomes, query_result_at, result_at, streamed_at, unasked_at}
use Rattle.fs_rpc.specs.Decimal.{decimal_at}
use Rattle.fs_rpc.specs.ReadError.{refusal_at}
use Rattle.fs_rpc.specs.ReadStreamAnswer as stream
use Rattle.fs_rpc.specs.ReadStreamAnswer.{stream_answer_at}
use Rattle.fs_rpc.specs.ReadListen.{absent_at, listen_at}
use Rattle.fs_rpc.specs.ReadResults.{answered, batch_answer_at, batch_answer_members, document_in, found_at, found_or_missing, missing_at, query_answer_at, query_answer_members, results_in, answers_time}
use Rattle.fs_rpc.specs.Eight.{eight_at}
use Rattle.fs_rpc.specs.ValidMessage.{HasAnswerNames, IsAnswerOf, IsListenOf, IsMessageOf}
use Rattle.fs_request.specs.declared.message.Message.TheVariants.{Listen}
use Rattle.fs_rpc.proofs.ListenValid.{listen_valid}
use Rattle.fs_writejson.proofs.WriteResults.{write_result_valid}
use Rattle.fs_writejson.specs.Results.{write_result_at}
use Rattle.fs_writejson.specs.Valid.{ResultHasNames}

-- ---- results of writes

results_valid : (d : Data) (place : List ℕ) → IfOk (results_in d place) (AllByRecursion ResultHasNames)
results_valid d place =
    member_holds (AllByRecursion ResultHasNames) [] (all_at write_result_at) (codes "writeResults") d place (λ x p. each_of_list ResultHasNames write_result_at x p write_result_valid) tt

-- ---- names that were asked for

found_valid : (root : Root) (content d : Data) (place : List ℕ) → IfOk (found_at root content d place) (IsAnswerOf root)
found_valid root content d place =
    let inside = member_place place (codes "found") in
    in_turn_holds (IsValid root) (IsAnswerOf root) (document_at root content inside) _ (document_valid root content inside)
    (λ document is. at_last_holds (IsAnswerOf root) (required_time_at (codes "readTime") d place) _ (λ time. is))

missing_valid : (root : Root) (content d : Data) (place : List ℕ) → IfOk (missing_at root content d place) (IsAnswerOf root)
missing_valid root content d place =
    let inside = member_place place (codes "missing") in
    in_turn_holds (IsDocumentOf root) (IsAnswerOf root) (document_name_at root content inside) _ (document_name_is root content inside)
    (λ name is. at_last_holds (IsAnswerOf root) (required_time_at (codes "readTime") d place) _ (λ time. is))

answer_valid : (root : Root) (d : Data) (place : List ℕ) → IfOk (batch_answer_at root d place) (IsAnswerOf root)
unfolding batch_answer_at
answer_valid root d place =
    at_last_holds (IsAnswerOf root) (only_at batch_answer_members d place) _
    (λ u. at_last_holds (IsAnswerOf root) (one_of_at found_or_missing d place) _
    (λ one. either (IsAnswerOf root) (bytes_eq one.0 (codes "found")) _ _ (found_valid root one.1 d place) (missing_valid root one.1 d place)))

-- ---- answers of queries

-- the document of an item, if it has one
abbrev IsItemOf : Root → Option Document → Type 0
IsItemOf root document = IfSome document (IsValid root)

document_in_valid : (root : Root) (d : Data) (place : List ℕ) → IfOk (document_in root d place) (IsItemOf root)
document_in_valid root d place =
    member_holds (IsItemOf root) None _ (codes "document") d place (λ x p. of_made (IsValid root) (IsItemOf root) Some (document_at root x p) (document_valid root x p) (λ document is. is)) (record {})

item_valid : (root : Root) (d : Data) (place : List ℕ) → IfOk (query_answer_at root d place) (λ a. IsItemOf root a.0)
unfolding query_answer_at
item_valid root d place =
    let valid : Option Document × ℤ → Type 0 = λ a. IsItemOf root a.0 in
    at_last_holds valid (only_at query_answer_members d place) _
    (λ u. in_turn_holds (IsItemOf root) valid (document_in root d place) _ (document_in_valid root d place)
    (λ document is. at_last_holds valid (required_time_at (codes "readTime") d place) _ (λ time. is)))

kept : (root : Root) (items : List (Option Document × ℤ)) → AllByRecursion (λ a. IsItemOf root a.0) items → AllByRecursion (IsValid root) (filter_map (λ a. a.0) items)
kept root [] each = tt
kept root ((None, time) ∷ items) each = kept root items each.1
kept root ((Some document, time) ∷ items) each = (each.0, kept root items each.1)

one_answer : (root : Root) (place : List ℕ) (items : List (Option Document × ℤ)) → AllByRecursion (λ a. IsItemOf root a.0) items
    → IfOk (or_fault G place (answered items)) (λ one. AllByRecursion (IsValid root) one.0)
one_answer root place items each = at (answers_time items)
  where
    at : (time : Option ℤ) → IfOk {T = List Document × ℤ} (or_fault G place (option_map (λ t. (filter_map (λ a. a.0) items, t)) time)) (λ one. AllByRecursion (IsValid root) one.0)
    at None = record {}
    at (Some t) = kept root items each

-- ---- results by their shape

commit_valid : (root : Root) (id : Option (List ℕ)) (d : Data) (place : List ℕ) → IfOk (commit_result_at id d place) (IsMessageOf root)
unfolding commit_result_at
commit_valid root id d place =
    at_last_holds (IsMessageOf root) (only_at commit_result_members d place) _
    (λ u. at_last_holds (IsMessageOf root) (required_time_at (codes "commitTime") d place) _
    (λ time. in_turn_holds (AllByRecursion ResultHasNames) (IsMessageOf root) (results_in d place) _ (results_valid d place) (λ results are. are)))

begin_valid : (root : Root) (id : Option (List ℕ)) (d : Data) (place : List ℕ) → IfOk (begin_result_at id d place) (IsMessageOf root)
unfolding begin_result_at
begin_valid root id d place =
    at_last_holds (IsMessageOf root) (only_at begin_result_members d place) _
    (λ u. at_last_holds (IsMessageOf root) (required_as eight_at (codes "transaction") d place) _ (λ transaction. tt))

object_valid : (root : Root) (id : Option (List ℕ)) (d : Data) (place : List ℕ) → IfOk (object_result_at root id d place) (IsMessageOf root)
object_valid root id d place =
    either (IsMessageOf root) (answers_commit d) _ _ (commit_valid root id d place)
    (either (IsMessageOf root) (answers_begin d) _ _ (begin_valid root id d place)
    (either (IsMessageOf root) (answers_rollback d) _ _ tt
    (in_turn_holds (IsValid root) (IsMessageOf root) (document_at root d place) _ (document_valid root d place) (λ document is. is))))

documents_valid : (root : Root) (id : Option (List ℕ)) (items : Items) (place : List ℕ) → IfOk (documents_result_at root id items place) (IsMessageOf root)
documents_valid root id items place =
    in_turn_holds (AllByRecursion (IsAnswerOf root)) (IsMessageOf root) (each_at (batch_answer_at root) items 0 place) _
    (each_item (IsAnswerOf root) (batch_answer_at root) items 0 place (answer_valid root)) (λ answers are. are)

query_valid : (root : Root) (id : Option (List ℕ)) (items : Items) (place : List ℕ) → IfOk (query_result_at root id items place) (IsMessageOf root)
query_valid root id items place =
    in_turn_holds (AllByRecursion (λ a. IsItemOf root a.0)) (IsMessageOf root) (each_at (query_answer_at root) items 0 place) _
    (each_item (λ a. IsItemOf root a.0) (query_answer_at root) items 0 place (item_valid root))
    (λ told each. in_turn_holds (λ one. AllByRecursion (IsValid root) one.0) (IsMessageOf root) (or_fault G place (answered told)) _ (one_answer root place told each) (λ one are. are))

list_valid : (root : Root) (id : Option (List ℕ)) (items : Items) (place : List ℕ) → IfOk (list_result_at root id items place) (IsMessageOf root)
list_valid root id items place = either (IsMessageOf root) (answers_names items) _ _ (documents_valid root id items place) (query_valid root id items place)

result_valid : (root : Root) (id : Option (List ℕ)) (d : Data) (place : List ℕ) → IfOk (result_at root id d place) (IsMessageOf root)
unfolding result_at
result_valid root id d place =
    found_or (IsMessageOf root) (λ items. list_result_at root id items place) (as_array d) (object_result_at root id d place) (λ items. list_valid root id items place) (object_valid root id d place)

-- ---- write streams

told_valid : (d : Data) (place : List ℕ) → IfOk (stream.told_at d place) HasAnswerNames
told_valid d place =
    at_last_holds HasAnswerNames (at_most_one_at stream.batch_outcomes d place) _
    (λ one. found_or HasAnswerNames (λ x. stream.finished_at x.0 x.1 d place) one (stream.stands_at d place)
    (λ x. either HasAnswerNames (bytes_eq x.0 (codes "commitTime")) _ _
    (at_last_holds HasAnswerNames (time_at x.1 (member_place place (codes "commitTime"))) _
    (λ time. in_turn_holds (AllByRecursion ResultHasNames) HasAnswerNames (results_in d place) _ (results_valid d place) (λ results are. are)))
    (at_last_holds HasAnswerNames (absent_at (codes "writeResults") d place) _
    (λ u. at_last_holds HasAnswerNames (refusal_at x.1 (member_place place (codes "error"))) _ (λ told. tt))))
    (at_last_holds HasAnswerNames (absent_at (codes "writeResults") d place) _ (λ u. tt)))

stream_valid : (root : Root) (id : Option (List ℕ)) (d : Data) (place : List ℕ) → IfOk (streamed_at id d place) (IsMessageOf root)
unfolding stream_answer_at
stream_valid root id d place =
    at_last_holds (IsMessageOf root) (no_id_at id) _
    (λ u. at_last_holds (IsMessageOf root) (only_at stream.stream_answer_members d place) _
    (λ v. in_turn_holds HasAnswerNames (IsMessageOf root) (stream.told_at d place) _ (told_valid d place)
    (λ answer names. at_last_holds (IsMessageOf root) (required_as decimal_at (codes "streamId") d place) _
    (λ number. at_last_holds (IsMessageOf root) (required_as eight_at (codes "streamToken") d place) _ (λ token. names)))))

-- ---- messages

error_valid : (root : Root) (id : Option (List ℕ)) (d : Data) (place : List ℕ) → IfOk (error_at id d place) (IsMessageOf root)
error_valid root id d place = at_last_holds (IsMessageOf root) (refusal_at d place) _ (λ told. tt)

unasked_valid : (root : Root) (id : Option (List ℕ)) (d : Data) (place : List ℕ) → IfOk (unasked_at root id d place) (IsMessageOf root)
unasked_valid root id d place =
    at_last_holds (IsMessageOf root) (no_id_at id) _ (λ u. of_made (IsListenOf root) (IsMessageOf root) Listen (listen_at root d place) (listen_valid root d place) (λ m is. is))

pub message_valid : (root : Root) (d : Data) → IfOk (message_at root d) (IsMessageOf root)
unfolding message_at
message_valid root d =
    at_last_holds (IsMessageOf root) (only_at message_members d []) _
    (λ u. at_last_holds (IsMessageOf root) (id_at d) _
    (λ id. at_last_holds (IsMessageOf root) (one_of_at outcomes d []) _
    (λ one. either (IsMessageOf root) (bytes_eq one.0 (codes "result")) _ _ (result_valid root id one.1 one.0)
    (either (IsMessageOf root) (bytes_eq one.0 (codes "listen")) _ _ (unasked_valid root id one.1 one.0)
    (either (IsMessageOf root) (bytes_eq one.0 (codes "write")) _ _ (stream_valid root id one.1 one.0) (error_valid root id one.1 one.0))))))
