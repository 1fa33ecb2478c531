-- What is written of a message is read from its tokens as its JSON.
use Rattle.std.proofs.Common.{◌≡◌, ℕ, ℤ, ◌<◌, ◌^◌, List, [], ◌∷◌, map, Option, Some, None, IfSome, codes, refl, arith}
use Rattle.std.specs.List.{AllByRecursion}
use Rattle.serde_json.specs.Data.{Data, Items, array, object, no_members, member, put, Members}
use Rattle.serde_json.specs.Read.{of_items, of_members}
use Rattle.serde_json.specs.View.{items_of}
use Rattle.serde_json.specs.Written.{items_outline, members_outline}
use Rattle.serde_json.proofs.Numbers.{number_of-decimal}
use Rattle.fs_json.specs.Members.{with_one}
use Rattle.fs_path.specs.declared.name.Root.{Root}
use Rattle.fs_query.specs.declared.listen.Cause.{Cause}
use Rattle.fs_query.specs.declared.listen.ListenMessage.{ListenMessage}
use Rattle.fs_query.specs.declared.listen.ListenMessage.TheVariants.{Add, Remove, Reset, Current, NoChange, Changed, Deleted, Removed}
use Rattle.fs_status.specs.declared.code.Code.{Code}
use Rattle.fs_status.specs.declared.code.Code.TheVariants.{InvalidArgument, FailedPrecondition, NotFound, AlreadyExists, Aborted, ResourceExhausted, Unimplemented, OutOfMemory}
use Rattle.fs_value.specs.declared.document.Document.{Document}
use Rattle.fs_valjson.specs.Document.{document_json}
use Rattle.fs_valjson.specs.Tokens.{IsReadFromTokens}
use Rattle.fs_valjson.specs.Valid.{IsDocumentHeld}
use Rattle.fs_valjson.proofs.Printed.{list_from_tokens, object_from_tokens, one_from_tokens}
use Rattle.fs_write.specs.declared.write_result.WriteResult.{WriteResult}
use Rattle.fs_writejson.specs.Results.{result_json, IsResultHeld}
use Rattle.fs_writejson.proofs.WriteResults.{result_from_tokens}
use Rattle.fs_rpc.specs.ListenJson.{cause_json, changed_members, gone_members, kind_members, listen_json, number_json, told_members, told_name, with_cause, with_moment, with_targets}
use Rattle.fs_rpc.specs.MessageJson.{batch_answer_json, begin_json, commit_json, error_json, error_members, message_json, query_answer_json, query_answers_json, result_members, stream_answer_json}
use Rattle.fs_rpc.specs.MessageSteps.{IsAnswerHeld, IsListenHeld, IsMessageHeld, IsStreamHeld}
use Rattle.fs_rpc.specs.ValidMessage.{AreSmall, IsListenOf, IsMessageOf, IsSmall}
use Rattle.fs_request.specs.declared.message.BatchAnswer.{BatchAnswer}
use Rattle.fs_request.specs.declared.message.BatchAnswer.TheVariants.{Found, Missing}
use Rattle.fs_request.specs.declared.message.StreamAnswer.{StreamAnswer}
use Rattle.fs_request.specs.declared.message.StreamAnswer.TheVariants.{Stands, Committed, Refused}
use Rattle.fs_request.specs.declared.message.Message.{Message}
use Rattle.fs_request.specs.declared.message.Message.TheVariants.{Commit, GetDocument, BatchGetDocuments, RunQuery, BeginTransaction, Rollback, Listen, Write, Error}

-- ---- the parts of a message

error_from_tokens : (code : Code) (message : List ℕ) → IsReadFromTokens (error_json code message)
error_from_tokens InvalidArgument message = rw (number_of-decimal 400 (omega arith)) refl
error_from_tokens FailedPrecondition message = rw (number_of-decimal 400 (omega arith)) refl
error_from_tokens NotFound message = rw (number_of-decimal 404 (omega arith)) refl
error_from_tokens AlreadyExists message = rw (number_of-decimal 409 (omega arith)) refl
error_from_tokens Aborted message = rw (number_of-decimal 409 (omega arith)) refl
error_from_tokens ResourceExhausted message = rw (number_of-decimal 429 (omega arith)) refl
error_from_tokens Unimplemented message = rw (number_of-decimal 501 (omega arith)) refl
error_from_tokens OutOfMemory message = rw (number_of-decimal 507 (omega arith)) refl

results_from_tokens : (rs : List WriteResult) → AllByRecursion IsResultHeld rs → of_items (items_outline (items_of (map result_json rs))) ≡ Some (items_of (map result_json rs))
results_from_tokens [] held = refl
results_from_tokens (r ∷ rs) held = rw (result_from_tokens r held.0, results_from_tokens rs held.1) refl

commit_from_tokens : (time : ℤ) (rs : List WriteResult) → AllByRecursion IsResultHeld rs → IsReadFromTokens (commit_json time rs)
commit_from_tokens time [] held = refl
commit_from_tokens time (r ∷ rs) held = rw (result_from_tokens r held.0, results_from_tokens rs held.1) refl

answer_from_tokens : (a : BatchAnswer) → IsAnswerHeld a → IsReadFromTokens (batch_answer_json a)
answer_from_tokens (Found document time) held = rw held.0.from_tokens refl
answer_from_tokens (Missing name time) held = refl

answers_from_tokens : (xs : List BatchAnswer) → AllByRecursion IsAnswerHeld xs → of_items (items_outline (items_of (map batch_answer_json xs))) ≡ Some (items_of (map batch_answer_json xs))
answers_from_tokens [] held = refl
answers_from_tokens (a ∷ xs) held = rw (answer_from_tokens a held.0, answers_from_tokens xs held.1) refl

document_answer : (time : ℤ) (d : Document) → IsDocumentHeld d → IsReadFromTokens (query_answer_json time d)
document_answer time d held = rw held.from_tokens refl

documents_from_tokens : (time : ℤ) (ds : List Document) → AllByRecursion IsDocumentHeld ds
    → of_items (items_outline (items_of (map (query_answer_json time) ds))) ≡ Some (items_of (map (query_answer_json time) ds))
documents_from_tokens time [] held = refl
documents_from_tokens time (d ∷ ds) held = rw (document_answer time d held.0, documents_from_tokens time ds held.1) refl

query_from_tokens : (time : ℤ) (ds : List Document) → AllByRecursion IsDocumentHeld ds → of_items (items_outline (query_answers_json ds time)) ≡ Some (query_answers_json ds time)
query_from_tokens time [] held = refl
query_from_tokens time (d ∷ ds) held = documents_from_tokens time (d ∷ ds) held

-- ---- what a session that listens is told

numbers_from_tokens : (ns : List ℕ) → AreSmall ns → of_items (items_outline (items_of (map number_json ns))) ≡ Some (items_of (map number_json ns))
numbers_from_tokens [] small = refl
numbers_from_tokens (n ∷ ns) small = rw (number_of-decimal n (omega (arith, small.0)), numbers_from_tokens ns small.1) refl

kind_from_tokens : (kind targets : List ℕ) → AreSmall targets → IsReadFromTokens (object (kind_members kind targets))
kind_from_tokens kind [] small = refl
kind_from_tokens kind (n ∷ ns) small = rw (number_of-decimal n (omega (arith, small.0)), numbers_from_tokens ns small.1) refl

cause_from_tokens : (cause : Cause) → IsSmall cause.code → IsReadFromTokens (cause_json cause)
cause_from_tokens cause small = rw (number_of-decimal cause.code (omega arith)) refl

remove_from_tokens : (targets : List ℕ) (cause : Option Cause) → AreSmall targets → IfSome cause (λ c. IsSmall c.code)
    → IsReadFromTokens (object (with_cause cause (kind_members (codes "REMOVE") targets)))
remove_from_tokens targets None small code = kind_from_tokens (codes "REMOVE") targets small
remove_from_tokens [] (Some cause) small code = rw (cause_from_tokens cause code) refl
remove_from_tokens (n ∷ ns) (Some cause) small code =
    rw (cause_from_tokens cause code, number_of-decimal n (omega (arith, small.0)), numbers_from_tokens ns small.1) refl

current_from_tokens : (targets : List ℕ) (time : ℤ) (token : List ℕ) → AreSmall targets → IsReadFromTokens (object (with_moment time token (kind_members (codes "CURRENT") targets)))
current_from_tokens [] time token small = refl
current_from_tokens (n ∷ ns) time token small = rw (number_of-decimal n (omega (arith, small.0)), numbers_from_tokens ns small.1) refl

changed_from_tokens : (d : Document) (targets left : List ℕ) → IsDocumentHeld d → AreSmall targets → AreSmall left → IsReadFromTokens (object (changed_members d targets left))
changed_from_tokens d [] [] held ts ls = rw held.from_tokens refl
changed_from_tokens d (n ∷ ns) [] held ts ls = rw (held.from_tokens, number_of-decimal n (omega (arith, ts.0)), numbers_from_tokens ns ts.1) refl
changed_from_tokens d [] (m ∷ ms) held ts ls = rw (held.from_tokens, number_of-decimal m (omega (arith, ls.0)), numbers_from_tokens ms ls.1) refl
changed_from_tokens d (n ∷ ns) (m ∷ ms) held ts ls =
    rw (
      held.from_tokens,
      number_of-decimal n (omega (arith, ts.0)),
      numbers_from_tokens ns ts.1,
      number_of-decimal m (omega (arith, ls.0)),
      numbers_from_tokens ms ls.1,
    ) refl

told_from_tokens : (root : Root) (m : ListenMessage) → IsListenHeld m → IsListenOf root m → IsReadFromTokens (object (told_members m))
told_from_tokens root (Add targets) held valid = kind_from_tokens (codes "ADD") targets valid
told_from_tokens root (Remove targets cause) held valid = remove_from_tokens targets cause valid.0 valid.1
told_from_tokens root (Reset targets) held valid = kind_from_tokens (codes "RESET") targets valid
told_from_tokens root (Current targets time token) held valid = current_from_tokens targets time token valid
told_from_tokens root (NoChange time token) held valid = refl
told_from_tokens root (Changed document targets left) held valid = changed_from_tokens document targets left held valid.1 valid.2
told_from_tokens root (Deleted name time []) held valid = refl
told_from_tokens root (Deleted name time (n ∷ ns)) held valid = rw (number_of-decimal n (omega (arith, valid.1.0)), numbers_from_tokens ns valid.1.1) refl
told_from_tokens root (Removed name time []) held valid = refl
told_from_tokens root (Removed name time (n ∷ ns)) held valid = rw (number_of-decimal n (omega (arith, valid.1.0)), numbers_from_tokens ns valid.1.1) refl

listen_from_tokens : (root : Root) (m : ListenMessage) → IsListenHeld m → IsListenOf root m → IsReadFromTokens (listen_json m)
listen_from_tokens root m held valid = one_from_tokens (told_name m) (object (told_members m)) (told_from_tokens root m held valid)

-- ---- write streams

stream_answer_from_tokens : (stream token : ℕ) (answer : StreamAnswer) → IsStreamHeld stream token answer → IsReadFromTokens (stream_answer_json stream token answer)
stream_answer_from_tokens stream token Stands held = refl
stream_answer_from_tokens stream token (Committed time []) held = refl
stream_answer_from_tokens stream token (Committed time (r ∷ rs)) held = rw (result_from_tokens r held.answer.1.0, results_from_tokens rs held.answer.1.1) refl
stream_answer_from_tokens stream token (Refused code message) held = rw (error_from_tokens code message) refl

-- ---- messages

with_result : (id : Option (List ℕ)) (d : Data) → IsReadFromTokens d → IsReadFromTokens (object (result_members id d))
with_result None d h = rw h refl
with_result (Some id) d h = rw h refl

with_error : (id : Option (List ℕ)) (d : Data) → IsReadFromTokens d → IsReadFromTokens (object (error_members id d))
with_error None d h = rw h refl
with_error (Some id) d h = rw h refl

pub message_from_tokens : (root : Root) (m : Message) → IsMessageHeld m → IsMessageOf root m → IsReadFromTokens (message_json m)
message_from_tokens root (Commit id time results) held valid = with_result id (commit_json time results) (commit_from_tokens time results held.1)
message_from_tokens root (GetDocument id document) held valid = with_result id (document_json document) held.from_tokens
message_from_tokens root (BatchGetDocuments id answers) held valid = with_result id _ (list_from_tokens (items_of (map batch_answer_json answers)) (answers_from_tokens answers held))
message_from_tokens root (RunQuery id documents time) held valid = with_result id _ (list_from_tokens (query_answers_json documents time) (query_from_tokens time documents held.0))
message_from_tokens root (BeginTransaction id transaction) held valid = with_result id (begin_json transaction) refl
message_from_tokens root (Rollback id) held valid = with_result id (object no_members) refl
message_from_tokens root (Listen told) held valid = one_from_tokens (codes "listen") (listen_json told) (listen_from_tokens root told held valid)
message_from_tokens root (Write stream token answer) held valid = one_from_tokens (codes "write") (stream_answer_json stream token answer) (stream_answer_from_tokens stream token answer held)
message_from_tokens root (Error id code message) held valid = with_error id (error_json code message) (error_from_tokens code message)
