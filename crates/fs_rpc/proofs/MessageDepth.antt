-- What is written of a message that was read nests no deeper than what was read, or than a few levels.
use Rattle.std.proofs.Common.{ℕ, ◌+◌, ◌≤◌, ◌<◌, ℤ, List, [], ◌∷◌, map, filter_map, Option, Some, None, option_map, Ok, IfOk, IfSome, codes, bytes_eq, arith}
use Rattle.std.proofs.lemmas.Result.{IfOk-weaker}
use Rattle.std.specs.List.{AllByRecursion}
use Rattle.serde_json.specs.Data.{Data, null, boolean, number, string, array, object, Items, no_members, depth, items_depth, members_depth}
use Rattle.serde_json.specs.View.{items_of}
use Rattle.fs_path.specs.Place.{member_place}
use Rattle.fs_path.specs.declared.name.Root.{Root}
use Rattle.fs_path.specs.declared.place.Rule.TheVariants.{G}
use Rattle.fs_json.specs.Answer.{or_fault, ◌>>=◌}
use Rattle.fs_json.specs.Members.{at_most_one_at, one_of_at, only_at, required_as}
use Rattle.fs_json.specs.Paths.{document_name_at}
use Rattle.fs_json.specs.Walk.{all_at, each_at}
use Rattle.fs_value.specs.declared.document.Document.{Document}
use Rattle.fs_json.proofs.Readings.{at_last_holds, either, found_or, in_turn_holds}
use Rattle.fs_json.proofs.Walks.{each_inside, list_inside}
use Rattle.fs_json.proofs.Depths.{inside_or, one_falls}
use Rattle.fs_json.specs.Time.{required_time_at, time_at}
use Rattle.fs_valjson.proofs.Depths.{document_within}
use Rattle.fs_valjson.specs.Document.{document_at, document_json}
use Rattle.fs_write.specs.declared.write_result.WriteResult.{WriteResult}
use Rattle.fs_writejson.specs.Results.{result_json, write_result_at}
use Rattle.fs_rpc.specs.Id.{id_at}
use Rattle.fs_rpc.specs.MessageJson.{batch_answer_json, begin_json, commit_json, error_json, error_members, message_json, query_answer_json, query_answers_json, result_members}
use Rattle.fs_rpc.specs.ReadMessage.{answers_begin, answers_commit, answers_names, answers_rollback, begin_result_at, begin_result_members, commit_result_at, commit_result_members, documents_result_at, error_at, list_result_at, message_at, message_members, no_id_at, object_result_at, outcomes, query_result_at, result_at, streamed_at, unasked_at}
use Rattle.fs_rpc.specs.Decimal.{decimal_at}
use Rattle.fs_rpc.specs.ReadError.{refusal_at}
use Rattle.fs_rpc.specs.ReadStreamAnswer as stream
use Rattle.fs_rpc.specs.ReadStreamAnswer.{stream_answer_at}
use Rattle.fs_rpc.specs.ListenJson.{listen_json}
use Rattle.fs_rpc.specs.ReadListen.{absent_at, listen_at}
use Rattle.fs_rpc.specs.ReadResults.{answered, batch_answer_at, batch_answer_members, document_in, found_or_missing, query_answer_at, query_answer_members, results_in, answers_time}
use Rattle.fs_rpc.specs.Eight.{eight_at}
use Rattle.fs_request.specs.declared.message.BatchAnswer.{BatchAnswer}
use Rattle.fs_request.specs.declared.message.Message.{Message}
use Rattle.fs_request.specs.declared.message.Message.TheVariants.{Write}
use Rattle.fs_request.specs.declared.message.StreamAnswer.{StreamAnswer}
use Rattle.fs_request.specs.declared.message.StreamAnswer.TheVariants.{Stands, Committed, Refused}
use Rattle.fs_query.specs.declared.listen.ListenMessage.{ListenMessage}
use Rattle.fs_rpc.proofs.ListenDepth.{listen_within}
use Rattle.fs_writejson.proofs.WriteResults.{write_result_within}

-- ---- results of writes

abbrev ResultWithin : ℕ → WriteResult → Type 0
ResultWithin n r = depth (result_json r) ≤ n + 1

results_fit : (rs : List WriteResult) (n : ℕ) → AllByRecursion (ResultWithin n) rs → items_depth (items_of (map result_json rs)) ≤ n + 1
results_fit [] n each = omega arith
results_fit (r ∷ rs) n each = omega (arith, each.0, results_fit rs n each.1)

commit_fits : (time : ℤ) (rs : List WriteResult) (n : ℕ) → AllByRecursion (ResultWithin n) rs → depth (commit_json time rs) ≤ n + 3
commit_fits time [] n each = omega arith
commit_fits time (r ∷ rs) n each = omega (arith, results_fit (r ∷ rs) n each)

-- ---- what stands under "result", and the message

-- of a message that stands so deep under its one member
abbrev IsWithin : ℕ → Message → Type 0
IsWithin n m = depth (message_json m) ≤ n + 1

with_result : (id : Option (List ℕ)) (d : Data) (n : ℕ) → depth d ≤ n → members_depth (result_members id d) ≤ n
with_result None d n h = omega (arith, h)
with_result (Some id) d n h = omega (arith, h)

with_error : (id : Option (List ℕ)) (d : Data) (n : ℕ) → depth d ≤ n → members_depth (error_members id d) ≤ n
with_error None d n h = omega (arith, h)
with_error (Some id) d n h = omega (arith, h)

results_within : (d : Data) (place : List ℕ) (n : ℕ) → depth d ≤ n + 3 → 0 < n → IfOk (results_in d place) (AllByRecursion (ResultWithin n))
results_within d place n h some =
    let inner = member_place place (codes "writeResults") in
    inside_or (AllByRecursion (ResultWithin n)) (codes "writeResults") d place (λ x. all_at write_result_at x inner) (Ok [])
    (λ x falls. list_inside (ResultWithin n) write_result_at x (n + 1) inner (omega (arith, falls, h)) (λ y p low. write_result_within y p n low some)) tt

commit_within : (id : Option (List ℕ)) (d : Data) (place : List ℕ) (n : ℕ) → depth d ≤ n + 3 → 0 < n → IfOk (commit_result_at id d place) (IsWithin (n + 3))
unfolding commit_result_at
commit_within id d place n h some =
    let P = IsWithin (n + 3) in
    at_last_holds P (only_at commit_result_members d place) _
    (λ u. at_last_holds P (required_time_at (codes "commitTime") d place) _
    (λ time. in_turn_holds (AllByRecursion (ResultWithin n)) P (results_in d place) _ (results_within d place n h some)
    (λ rs each. omega (arith, with_result id (commit_json time rs) (n + 3) (commit_fits time rs n each)))))

-- ---- names that were asked for

abbrev AnswerWithin : ℕ → BatchAnswer → Type 0
AnswerWithin n a = depth (batch_answer_json a) ≤ n

answer_within : (root : Root) (d : Data) (place : List ℕ) (n : ℕ) → depth d ≤ n → 0 < n → IfOk (batch_answer_at root d place) (AnswerWithin n)
unfolding batch_answer_at
answer_within root d place n h some =
    let P = AnswerWithin n in
    at_last_holds P (only_at batch_answer_members d place) _
    (λ u. in_turn_holds (λ one. depth one.1 < depth d) P (one_of_at found_or_missing d place) _ (one_falls found_or_missing d place)
    (λ one falls. either P (bytes_eq one.0 (codes "found")) _ _
    (in_turn_holds (λ x. depth (document_json x) ≤ depth one.1) P (document_at root one.1 (member_place place (codes "found"))) _ (document_within root one.1 (member_place place (codes "found")))
    (λ document is. at_last_holds P (required_time_at (codes "readTime") d place) _ (λ time. omega (arith, is, falls, h))))
    (at_last_holds P (document_name_at root one.1 (member_place place (codes "missing"))) _ (λ name. at_last_holds P (required_time_at (codes "readTime") d place) _ (λ time. omega (arith, some))))))

answers_fit : (xs : List BatchAnswer) (n : ℕ) → AllByRecursion (AnswerWithin n) xs → items_depth (items_of (map batch_answer_json xs)) ≤ n
answers_fit [] n each = omega arith
answers_fit (a ∷ xs) n each = omega (arith, each.0, answers_fit xs n each.1)

documents_within : (root : Root) (id : Option (List ℕ)) (items : Items) (place : List ℕ) (n : ℕ) → items_depth items ≤ n → 0 < n → IfOk (documents_result_at root id items place) (IsWithin (n + 1))
documents_within root id items place n h some =
    in_turn_holds (AllByRecursion (AnswerWithin n)) (IsWithin (n + 1)) (each_at (batch_answer_at root) items 0 place) _
    (each_inside (AnswerWithin n) (batch_answer_at root) items n 0 place h (λ d p low. answer_within root d p n low some))
    (λ xs each. let all : depth (array (items_of (map batch_answer_json xs))) ≤ n + 1 = omega (arith, answers_fit xs n each) in omega (arith, with_result id (array (items_of (map batch_answer_json xs))) (n + 1) all))

-- ---- answers of queries

-- an item's document, if it has one
abbrev ItemWithin : ℕ → Option Document × ℤ → Type 0
ItemWithin n a = IfSome a.0 (λ x. depth (document_json x) < n)

item_within : (root : Root) (d : Data) (place : List ℕ) (n : ℕ) → depth d ≤ n → IfOk (query_answer_at root d place) (ItemWithin n)
unfolding query_answer_at
item_within root d place n h =
    let P = ItemWithin n in
    let D : Option Document → Type 0 = λ o. IfSome o (λ x. depth (document_json x) < n) in
    let inner = member_place place (codes "document") in
    at_last_holds P (only_at query_answer_members d place) _
    (λ u. in_turn_holds D P (document_in root d place) _
    (inside_or D (codes "document") d place (λ x. document_at root x inner >>= λ document. Ok (Some document)) (Ok None)
    (λ x falls. in_turn_holds (λ y. depth (document_json y) ≤ depth x) D (document_at root x inner) _ (document_within root x inner) (λ y is. let low : depth (document_json y) < n = omega (arith, is, falls, h) in low)) (record {}))
    (λ document is. at_last_holds P (required_time_at (codes "readTime") d place) _ (λ time. is)))

kept : (n : ℕ) (items : List (Option Document × ℤ)) → AllByRecursion (ItemWithin n) items → AllByRecursion (λ x. depth (document_json x) < n) (filter_map (λ a. a.0) items)
kept n [] each = tt
kept n ((None, time) ∷ items) each = kept n items each.1
kept n ((Some document, time) ∷ items) each = (each.0, kept n items each.1)

told_fit : (ds : List Document) (time : ℤ) (n : ℕ) → AllByRecursion (λ x. depth (document_json x) < n) ds → items_depth (items_of (map (query_answer_json time) ds)) ≤ n
told_fit [] time n each = omega arith
told_fit (d ∷ ds) time n each = omega (arith, each.0, told_fit ds time n each.1)

query_fits : (ds : List Document) (time : ℤ) (n : ℕ) → 0 < n → AllByRecursion (λ x. depth (document_json x) < n) ds → items_depth (query_answers_json ds time) ≤ n
query_fits [] time n some each = omega (arith, some)
query_fits (d ∷ ds) time n some each = told_fit (d ∷ ds) time n each

one_answer : (place : List ℕ) (n : ℕ) (items : List (Option Document × ℤ)) → AllByRecursion (ItemWithin n) items
    → IfOk (or_fault G place (answered items)) (λ one. AllByRecursion (λ x. depth (document_json x) < n) one.0)
one_answer place n items each = at (answers_time items)
  where
    at : (time : Option ℤ) → IfOk {T = List Document × ℤ} (or_fault G place (option_map (λ t. (filter_map (λ a. a.0) items, t)) time)) (λ one. AllByRecursion (λ x. depth (document_json x) < n) one.0)
    at None = record {}
    at (Some t) = kept n items each

query_within : (root : Root) (id : Option (List ℕ)) (items : Items) (place : List ℕ) (n : ℕ) → items_depth items ≤ n → 0 < n → IfOk (query_result_at root id items place) (IsWithin (n + 1))
query_within root id items place n h some =
    in_turn_holds (AllByRecursion (ItemWithin n)) (IsWithin (n + 1)) (each_at (query_answer_at root) items 0 place) _
    (each_inside (ItemWithin n) (query_answer_at root) items n 0 place h (λ d p low. item_within root d p n low))
    (λ told each. in_turn_holds (λ one. AllByRecursion (λ x. depth (document_json x) < n) one.0) (IsWithin (n + 1)) (or_fault G place (answered told)) _ (one_answer place n told each)
    (λ one are. let all : depth (array (query_answers_json one.0 one.1)) ≤ n + 1 = omega (arith, query_fits one.0 one.1 n some are) in omega (arith, with_result id (array (query_answers_json one.0 one.1)) (n + 1) all)))

-- ---- results by their shape

list_result_within : (root : Root) (id : Option (List ℕ)) (items : Items) (place : List ℕ) (n : ℕ) → items_depth items ≤ n → 0 < n → IfOk (list_result_at root id items place) (IsWithin (n + 1))
list_result_within root id items place n h some =
    either (IsWithin (n + 1)) (answers_names items) _ _ (documents_within root id items place n h some) (query_within root id items place n h some)

begin_within : (id : Option (List ℕ)) (d : Data) (place : List ℕ) (n : ℕ) → IfOk (begin_result_at id d place) (IsWithin (n + 3))
unfolding begin_result_at
begin_within id d place n =
    let P = IsWithin (n + 3) in
    at_last_holds P (only_at begin_result_members d place) _
    (λ u. at_last_holds P (required_as eight_at (codes "transaction") d place) _
    (λ transaction. omega (arith, with_result id (begin_json transaction) (n + 3) (omega arith))))

rollback_within : (id : Option (List ℕ)) (n : ℕ) → depth (object (result_members id (object no_members))) ≤ n + 3 + 1
rollback_within id n = omega (arith, with_result id (object no_members) (n + 3) (omega arith))

object_within : (root : Root) (id : Option (List ℕ)) (d : Data) (place : List ℕ) (n : ℕ) → depth d ≤ n + 3 → 0 < n → IfOk (object_result_at root id d place) (IsWithin (n + 3))
object_within root id d place n h some =
    let P = IsWithin (n + 3) in
    either P (answers_commit d) _ _ (commit_within id d place n h some)
    (either P (answers_begin d) _ _ (begin_within id d place n)
    (either P (answers_rollback d) _ _ (rollback_within id n)
    (in_turn_holds (λ x. depth (document_json x) ≤ depth d) P (document_at root d place) _ (document_within root d place)
    (λ x is. let low : depth (document_json x) ≤ n + 3 = omega (arith, is, h) in omega (arith, with_result id (document_json x) (n + 3) low)))))

result_at_within : (root : Root) (id : Option (List ℕ)) (d : Data) (place : List ℕ) (n : ℕ) → depth d ≤ n + 3 → 0 < n → IfOk (result_at root id d place) (IsWithin (n + 3))
unfolding result_at
result_at_within root id null place n h some = object_within root id null place n h some
result_at_within root id (boolean b) place n h some = object_within root id (boolean b) place n h some
result_at_within root id (number m) place n h some = object_within root id (number m) place n h some
result_at_within root id (string s) place n h some = object_within root id (string s) place n h some
result_at_within root id (array ds) place n h some =
    IfOk-weaker (list_result_at root id ds place) (IsWithin (n + 2 + 1)) (IsWithin (n + 3)) (λ m is. omega (arith, is)) (list_result_within root id ds place (n + 2) (omega (arith, h)) (omega arith))
result_at_within root id (object ms) place n h some = object_within root id (object ms) place n h some

-- ---- write streams

-- the results of a batch
abbrev AnsweredWithin : ℕ → StreamAnswer → Type 0
AnsweredWithin n Stands = Unit {0}
AnsweredWithin n (Committed time rs) = AllByRecursion (ResultWithin n) rs
AnsweredWithin n (Refused code message) = Unit {0}

answered_fits : (stream token : ℕ) (answer : StreamAnswer) (n : ℕ) → AnsweredWithin n answer → IsWithin (n + 3) (Write stream token answer)
answered_fits stream token Stands n each = omega arith
answered_fits stream token (Committed time []) n each = omega arith
answered_fits stream token (Committed time (r ∷ rs)) n each = omega (arith, results_fit (r ∷ rs) n each)
answered_fits stream token (Refused code message) n each = omega arith

told_within : (d : Data) (place : List ℕ) (n : ℕ) → depth d ≤ n + 3 → 0 < n → IfOk (stream.told_at d place) (AnsweredWithin n)
told_within d place n h some =
    let A = AnsweredWithin n in
    at_last_holds A (at_most_one_at stream.batch_outcomes d place) _
    (λ one. found_or A (λ x. stream.finished_at x.0 x.1 d place) one (stream.stands_at d place)
    (λ x. either A (bytes_eq x.0 (codes "commitTime")) _ _
    (at_last_holds A (time_at x.1 (member_place place (codes "commitTime"))) _
    (λ time. in_turn_holds (AllByRecursion (ResultWithin n)) A (results_in d place) _ (results_within d place n h some) (λ rs each. each)))
    (at_last_holds A (absent_at (codes "writeResults") d place) _ (λ u. at_last_holds A (refusal_at x.1 (member_place place (codes "error"))) _ (λ told. tt))))
    (at_last_holds A (absent_at (codes "writeResults") d place) _ (λ u. tt)))

stream_within : (id : Option (List ℕ)) (d : Data) (place : List ℕ) (n : ℕ) → depth d ≤ n + 3 → 0 < n → IfOk (streamed_at id d place) (IsWithin (n + 3))
unfolding stream_answer_at
stream_within id d place n h some =
    let P = IsWithin (n + 3) in
    at_last_holds P (no_id_at id) _
    (λ u. at_last_holds P (only_at stream.stream_answer_members d place) _
    (λ v. in_turn_holds (AnsweredWithin n) P (stream.told_at d place) _ (told_within d place n h some)
    (λ answer is. at_last_holds P (required_as decimal_at (codes "streamId") d place) _
    (λ number. at_last_holds P (required_as eight_at (codes "streamToken") d place) _ (λ token. answered_fits number token answer n is)))))

-- ---- messages

error_within : (root : Root) (id : Option (List ℕ)) (d : Data) (place : List ℕ) (n : ℕ) → IfOk (error_at id d place) (IsWithin (n + 3))
error_within root id d place n =
    at_last_holds (IsWithin (n + 3)) (refusal_at d place) _
    (λ told. let low : depth (error_json told.0 told.1) ≤ n + 3 = omega arith in omega (arith, with_error id (error_json told.0 told.1) (n + 3) low))

unasked_within : (root : Root) (id : Option (List ℕ)) (d : Data) (place : List ℕ) (n : ℕ) → depth d ≤ n + 3 → IfOk (unasked_at root id d place) (IsWithin (n + 3))
unasked_within root id d place n h =
    let low : ListenMessage → Type 0 = λ m. depth (listen_json m) ≤ n + 3 in
    at_last_holds (IsWithin (n + 3)) (no_id_at id) _
    (λ u. in_turn_holds low (IsWithin (n + 3)) (listen_at root d place) _ (listen_within root d place n h) (λ m is. omega (arith, is)))

pub message_within : (root : Root) (d : Data) (n : ℕ) → depth d ≤ n + 4 → 0 < n → IfOk (message_at root d) (λ m. depth (message_json m) ≤ n + 4)
unfolding message_at
message_within root d n h some =
    let P : Message → Type 0 = λ m. depth (message_json m) ≤ n + 4 in
    IfOk-weaker (message_at root d) (IsWithin (n + 3)) P (λ m is. omega (arith, is)) (at_last_holds (IsWithin (n + 3)) (only_at message_members d []) _
    (λ u. at_last_holds (IsWithin (n + 3)) (id_at d) _
    (λ id. in_turn_holds (λ one. depth one.1 < depth d) (IsWithin (n + 3)) (one_of_at outcomes d []) _ (one_falls outcomes d [])
    (λ one falls. either (IsWithin (n + 3)) (bytes_eq one.0 (codes "result")) _ _ (result_at_within root id one.1 one.0 n (omega (arith, falls, h)) some)
    (either (IsWithin (n + 3)) (bytes_eq one.0 (codes "listen")) _ _ (unasked_within root id one.1 one.0 n (omega (arith, falls, h)))
    (either (IsWithin (n + 3)) (bytes_eq one.0 (codes "write")) _ _ (stream_within id one.1 one.0 n (omega (arith, falls, h)) some) (error_within root id one.1 one.0 n)))))))
