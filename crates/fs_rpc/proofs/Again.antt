-- What is written of a message is read as the same message.
use Rattle.std.proofs.Common.{◌≡◌, ℕ, ℤ, ◌+◌, true, false, List, [], ◌∷◌, map, filter_map, is_some, Option, Some, None, Result, Ok, codes, refl, ap, ◌∙◌}
use Rattle.std.proofs.lemmas.Cmp.{int_eq_equiv}
use Rattle.std.specs.List.{AllByRecursion, list_all}
use Rattle.std.specs.Ordering.{int_eq}
use Rattle.serde_json.specs.Data.{Data, Items, item, Members, no_members, member, array, object}
use Rattle.serde_json.specs.Find.{as_array}
use Rattle.serde_json.specs.View.{items_of}
use Rattle.fs_path.specs.Document.{document_of, document_text, IsDocumentOf}
use Rattle.fs_path.proofs.Documents.{document_only}
use Rattle.fs_path.specs.Place.{item_place, member_place}
use Rattle.fs_path.specs.declared.name.DocName.{DocName}
use Rattle.fs_path.specs.declared.name.Root.{Root}
use Rattle.fs_status.specs.declared.code.Code.{Code}
use Rattle.fs_path.specs.declared.place.Rule.TheVariants.{G}
use Rattle.fs_json.specs.Answer.{made, or_fault, ◌>>=◌}
use Rattle.fs_json.specs.Members.{is_given}
use Rattle.fs_json.specs.declared.bad.Bad.{Bad}
use Rattle.fs_valjson.specs.Document.{document_at, document_json}
use Rattle.fs_json.specs.Time.{IsTimeHeld}
use Rattle.fs_valjson.specs.Valid.{IsDocumentHeld, IsValid}
use Rattle.fs_value.specs.Data as value
use Rattle.fs_value.specs.declared.document.Document.{Document}
use Rattle.fs_write.specs.declared.write_result.WriteResult.{WriteResult}
use Rattle.fs_writejson.specs.Results.{result_json, IsResultHeld, write_result_at}
use Rattle.fs_json.specs.Walk.{each_at}
use Rattle.fs_rpc.specs.ListenJson.{listen_json}
use Rattle.fs_query.specs.declared.listen.ListenMessage.{ListenMessage}
use Rattle.fs_query.specs.declared.listen.ListenMessage.TheVariants.{Add, Remove, Reset, Current, NoChange, Changed, Deleted, Removed}
use Rattle.fs_rpc.specs.MessageJson.{batch_answer_json, begin_json, commit_json, error_json, error_members, message_json, query_answer_json, query_answers_json, read_at, result_members, stream_answer_members}
use Rattle.fs_rpc.specs.MessageSteps.{IsAnswerHeld, IsMessageHeld}
use Rattle.fs_rpc.specs.ReadListen.{listen_at}
use Rattle.fs_rpc.specs.ReadMessage.{answers_begin, answers_commit, answers_names, answers_rollback, begin_result_at, commit_result_at, error_at, message_at, query_result_at, result_at}
use Rattle.fs_rpc.specs.ReadStreamAnswer.{stream_answer_at}
use Rattle.fs_rpc.specs.ReadResults.{answered, batch_answer_at, query_answer_at}
use Rattle.fs_rpc.specs.Eight.{IsEightHeld}
use Rattle.fs_rpc.specs.ValidMessage.{IsAnswerOf, IsMessageOf}
use Rattle.fs_request.specs.declared.message.BatchAnswer.{BatchAnswer}
use Rattle.fs_request.specs.declared.message.BatchAnswer.TheVariants.{Found, Missing}
use Rattle.fs_request.specs.declared.message.Message.{Message}
use Rattle.fs_request.specs.declared.message.Message.TheVariants.{Commit, GetDocument, BatchGetDocuments, RunQuery, BeginTransaction, Rollback, Listen, Write, Error}
use Rattle.fs_rpc.proofs.ListenAgain.{listen_again}
use Rattle.fs_rpc.proofs.StreamAnswerAgain.{refusal_again, results_again, stream_answer_again}
use Rattle.fs_writejson.specs.Valid.{ResultHasNames}

-- ---- commits

commit_again : (id : Option (List ℕ)) (time : ℤ) (rs : List WriteResult) (place : List ℕ) → IsTimeHeld time
    → each_at write_result_at (items_of (map result_json rs)) 0 (member_place place (codes "writeResults")) ≡ Ok rs → commit_result_at id (commit_json time rs) place ≡ Ok (Commit id time rs)
unfolding commit_result_at
commit_again id time [] place t h = rw (t (member_place place (codes "commitTime"))) refl
commit_again id time (r ∷ rs) place t h = rw (t (member_place place (codes "commitTime")), h) refl

-- ---- documents

name_again : (root : Root) (name : DocName) → IsDocumentOf root name → document_of root (document_text name) ≡ Ok name
name_again root name is = document_only root (document_text name) name is refl

document_given : (key : List ℕ) (d : Document) → is_given key (document_json d) ≡ true
unfolding document_json
document_given key d = refl

found_again : (root : Root) (content : Data) (document : Document) (time : ℤ) (place : List ℕ) → is_given (codes "found") content ≡ true
    → document_at root content (member_place place (codes "found")) ≡ Ok document → IsTimeHeld time
    → batch_answer_at root (object (member (codes "found") content (read_at time))) place ≡ Ok (Found document time)
unfolding batch_answer_at
found_again root content document time place given h t = rw (given, h, t (member_place place (codes "readTime"))) refl

missing_again : (root : Root) (name : DocName) (time : ℤ) (place : List ℕ) → document_of root (document_text name) ≡ Ok name → IsTimeHeld time
    → batch_answer_at root (batch_answer_json (Missing name time)) place ≡ Ok (Missing name time)
unfolding batch_answer_at
missing_again root name time place h t = rw (h, t (member_place place (codes "readTime"))) refl

answer_again : (root : Root) (a : BatchAnswer) (place : List ℕ) → IsAnswerHeld a → IsAnswerOf root a → batch_answer_at root (batch_answer_json a) place ≡ Ok a
answer_again root (Found document time) place held valid =
    found_again root (document_json document) document time place (document_given (codes "found") document) (held.0.again root (member_place place (codes "found")) valid) held.1
answer_again root (Missing name time) place t valid = missing_again root name time place (name_again root name valid) t

answers_again : (root : Root) (xs : List BatchAnswer) (i : ℕ) (place : List ℕ) → AllByRecursion IsAnswerHeld xs → AllByRecursion (IsAnswerOf root) xs
    → each_at (batch_answer_at root) (items_of (map batch_answer_json xs)) i place ≡ Ok xs
answers_again root [] i place held valid = refl
answers_again root (a ∷ xs) i place held valid = rw (answer_again root a (item_place place i) held.0 valid.0, answers_again root xs (i + 1) place held.1 valid.1) refl

-- an item of a query's answer
abbrev pub told : ℤ → Document → Option Document × ℤ
told time d = (Some d, time)

one_item : (root : Root) (content : Data) (d : Document) (time : ℤ) (place : List ℕ) → is_given (codes "document") content ≡ true
    → document_at root content (member_place place (codes "document")) ≡ Ok d → IsTimeHeld time
    → query_answer_at root (object (member (codes "document") content (read_at time))) place ≡ Ok (told time d)
unfolding query_answer_at
one_item root content d time place given h t = rw (given, h, t (member_place place (codes "readTime"))) refl

item_again : (root : Root) (time : ℤ) (d : Document) (place : List ℕ) → IsDocumentHeld d → IsTimeHeld time → IsValid root d
    → query_answer_at root (query_answer_json time d) place ≡ Ok (told time d)
item_again root time d place held t valid =
    one_item root (document_json d) d time place (document_given (codes "document") d) (held.again root (member_place place (codes "document")) valid) t

items_again : (root : Root) (time : ℤ) (ds : List Document) (i : ℕ) (place : List ℕ) → AllByRecursion IsDocumentHeld ds → IsTimeHeld time → AllByRecursion (IsValid root) ds
    → each_at (query_answer_at root) (items_of (map (query_answer_json time) ds)) i place ≡ Ok (map (told time) ds)
items_again root time [] i place held t valid = refl
items_again root time (d ∷ ds) i place held t valid = rw (item_again root time d (item_place place i) held.0 t valid.0, items_again root time ds (i + 1) place held.1 t valid.1) refl

same_time : (time : ℤ) → int_eq time time ≡ true
same_time time = int_eq_equiv.refl time

all_of : (time : ℤ) (ds : List Document) → list_all (λ a. int_eq a.1 time) (map (told time) ds) ≡ true
all_of time [] = refl
all_of time (d ∷ ds) = rw (same_time time, all_of time ds) refl

all_there : (time : ℤ) (ds : List Document) → list_all (λ a. is_some a.0) (map (told time) ds) ≡ true
all_there time [] = refl
all_there time (d ∷ ds) = all_there time ds

all_kept : (time : ℤ) (ds : List Document) → filter_map (λ a. a.0) (map (told time) ds) ≡ ds
all_kept time [] = refl
all_kept time (d ∷ ds) = ap (λ xs. d ∷ xs) (all_kept time ds)

-- the items of documents at one time are one answer
answered_again : (time : ℤ) (d : Document) (ds : List Document) → answered (map (told time) (d ∷ ds)) ≡ Some (d ∷ ds, time)
answered_again time d ds = rw (same_time time, all_of time ds, all_there time ds, all_kept time ds) refl

-- and so is one without a document
none_again : (time : ℤ) → answered ((None, time) ∷ []) ≡ Some ([], time)
none_again time = rw (same_time time) refl

none_told : (root : Root) (time : ℤ) (place : List ℕ) → IsTimeHeld time → each_at (query_answer_at root) (query_answers_json [] time) 0 place ≡ Ok ((None, time) ∷ [])
unfolding query_answer_at
none_told root time place t = rw (t (member_place (item_place place 0) (codes "readTime"))) refl

-- what is made of items that are read
abbrev one_answer : Option (List ℕ) → List ℕ → Option (List Document × ℤ) → Result Message Bad
one_answer id place o = or_fault G place o >>= λ one. Ok (RunQuery id one.0 one.1)

query_again : (root : Root) (id : Option (List ℕ)) (ds : List Document) (time : ℤ) (place : List ℕ) → AllByRecursion IsDocumentHeld ds → IsTimeHeld time → AllByRecursion (IsValid root) ds
    → query_result_at root id (query_answers_json ds time) place ≡ Ok (RunQuery id ds time)
query_again root id [] time place held t valid =
    ap (λ r. r >>= λ items. one_answer id place (answered items)) (none_told root time place t) ∙ ap (one_answer id place) (none_again time)
query_again root id (d ∷ ds) time place held t valid =
    ap (λ r. r >>= λ items. one_answer id place (answered items)) (items_again root time (d ∷ ds) 0 place held t valid) ∙ ap (one_answer id place) (answered_again time d ds)

-- ---- results by their shape

no_list : (d : Document) → as_array (document_json d) ≡ None
unfolding document_json
no_list d = refl

-- a document doesn't answer a commit, a begin or a rollback
record IsNoOther (d : Data) : Type 0 where
  commit : answers_commit d ≡ false
  begin : answers_begin d ≡ false
  rollback : answers_rollback d ≡ false

no_other_at : (name : DocName) (fields : List (List ℕ × value.Data)) (created updated : ℤ)
    → IsNoOther (document_json (record { name = name; fields = fields; created = created; updated = updated }))
unfolding document_json
no_other_at name [] created updated = record { commit = refl; begin = refl; rollback = refl }
no_other_at name (f ∷ fs) created updated = record { commit = refl; begin = refl; rollback = refl }

no_other : (d : Document) → IsNoOther (document_json d)
no_other d = no_other_at d.name d.fields d.created d.updated

document_result : (root : Root) (id : Option (List ℕ)) (d : Document) (place : List ℕ) → IsDocumentHeld d → IsValid root d → result_at root id (document_json d) place ≡ Ok (GetDocument id d)
unfolding result_at
document_result root id d place held valid =
    let other = no_other d in rw (no_list d, other.commit, other.begin, other.rollback, held.again root place valid) refl

commit_result : (root : Root) (id : Option (List ℕ)) (time : ℤ) (rs : List WriteResult) (place : List ℕ) → IsTimeHeld time → AllByRecursion IsResultHeld rs → AllByRecursion ResultHasNames rs
    → result_at root id (commit_json time rs) place ≡ Ok (Commit id time rs)
unfolding result_at
commit_result root id time rs place t held names = commit_again id time rs place t (results_again rs 0 (member_place place (codes "writeResults")) held names)

begin_result : (root : Root) (id : Option (List ℕ)) (n : ℕ) (place : List ℕ) → IsEightHeld n → result_at root id (begin_json n) place ≡ Ok (BeginTransaction id n)
unfolding result_at begin_result_at
begin_result root id n place held = rw (held (member_place place (codes "transaction"))) refl

rollback_result : (root : Root) (id : Option (List ℕ)) (place : List ℕ) → result_at root id (object no_members) place ≡ Ok (Rollback id)
unfolding result_at
rollback_result root id place = refl

-- what answers names is told by its first item
tells_names : (a : BatchAnswer) (xs : Items) → answers_names (item (batch_answer_json a) xs) ≡ true
unfolding document_json
tells_names (Found document time) xs = refl
tells_names (Missing name time) xs = refl

names_result : (root : Root) (id : Option (List ℕ)) (xs : List BatchAnswer) (place : List ℕ) → AllByRecursion IsAnswerHeld xs → AllByRecursion (IsAnswerOf root) xs
    → result_at root id (array (items_of (map batch_answer_json xs))) place ≡ Ok (BatchGetDocuments id xs)
unfolding result_at
names_result root id [] place held valid = refl
names_result root id (a ∷ xs) place held valid =
    rw (tells_names a (items_of (map batch_answer_json xs))) (ap (λ r. r >>= λ answers. Ok (BatchGetDocuments id answers)) (answers_again root (a ∷ xs) 0 place held valid))

query_result : (root : Root) (id : Option (List ℕ)) (ds : List Document) (time : ℤ) (place : List ℕ) → AllByRecursion IsDocumentHeld ds → IsTimeHeld time → AllByRecursion (IsValid root) ds
    → result_at root id (array (query_answers_json ds time)) place ≡ Ok (RunQuery id ds time)
unfolding result_at
query_result root id [] time place held t valid = query_again root id [] time place held t valid
query_result root id (d ∷ ds) time place held t valid = query_again root id (d ∷ ds) time place held t valid

-- ---- errors

error_again : (id : Option (List ℕ)) (code : Code) (message : List ℕ) (place : List ℕ) → error_at id (error_json code message) place ≡ Ok (Error id code message)
error_again id code message place = ap (made (λ told. Error id told.0 told.1)) (refusal_again code message place)

-- ---- messages

result_read : (root : Root) (id : Option (List ℕ)) (d : Data) (m : Message) → is_given (codes "result") d ≡ true → result_at root id d (codes "result") ≡ Ok m
    → message_at root (object (result_members id d)) ≡ Ok m
unfolding message_at
result_read root None d m given h = rw (given, h) refl
result_read root (Some id) d m given h = rw (given, h) refl

error_read : (root : Root) (id : Option (List ℕ)) (code : Code) (message : List ℕ) → message_at root (object (error_members id (error_json code message))) ≡ Ok (Error id code message)
unfolding message_at
error_read root None code message = error_again None code message (codes "error")
error_read root (Some id) code message = error_again (Some id) code message (codes "error")

listen_given : (m : ListenMessage) → is_given (codes "listen") (listen_json m) ≡ true
listen_given (Add targets) = refl
listen_given (Remove targets cause) = refl
listen_given (Reset targets) = refl
listen_given (Current targets time token) = refl
listen_given (NoChange time token) = refl
listen_given (Changed document targets left) = refl
listen_given (Deleted name time left) = refl
listen_given (Removed name time left) = refl

listen_read : (root : Root) (d : Data) (m : ListenMessage) → is_given (codes "listen") d ≡ true → listen_at root d (codes "listen") ≡ Ok m
    → message_at root (object (member (codes "listen") d no_members)) ≡ Ok (Listen m)
unfolding message_at
listen_read root d m given h = rw (given, h) refl

stream_read : (root : Root) (ms : Members) (m : Message) → stream_answer_at (object ms) (codes "write") ≡ Ok m
    → message_at root (object (member (codes "write") (object ms) no_members)) ≡ Ok m
unfolding message_at
stream_read root ms m h = rw h refl

pub message_again : (root : Root) (m : Message) → IsMessageHeld m → IsMessageOf root m → message_at root (message_json m) ≡ Ok m
message_again root (Commit id time results) held valid =
    result_read root id (commit_json time results) (Commit id time results) refl (commit_result root id time results (codes "result") held.0 held.1 valid)
message_again root (GetDocument id document) held valid =
    result_read root id (document_json document) (GetDocument id document) (document_given (codes "result") document) (document_result root id document (codes "result") held valid)
message_again root (BatchGetDocuments id answers) held valid =
    result_read root id (array (items_of (map batch_answer_json answers))) (BatchGetDocuments id answers) refl (names_result root id answers (codes "result") held valid)
message_again root (RunQuery id documents time) held valid =
    result_read root id (array (query_answers_json documents time)) (RunQuery id documents time) refl (query_result root id documents time (codes "result") held.0 held.1 valid)
message_again root (BeginTransaction id transaction) held valid =
    result_read root id (begin_json transaction) (BeginTransaction id transaction) refl (begin_result root id transaction (codes "result") held)
message_again root (Rollback id) held valid = result_read root id (object no_members) (Rollback id) refl (rollback_result root id (codes "result"))
message_again root (Listen told) held valid = listen_read root (listen_json told) told (listen_given told) (listen_again root told (codes "listen") held valid)
message_again root (Write stream token answer) held valid =
    stream_read root (stream_answer_members stream token answer) (Write stream token answer) (stream_answer_again stream token answer (codes "write") held valid)
message_again root (Error id code message) held valid = error_read root id code message
