-- What is written of the results of writes, of an error and of a write stream is read as the same.
use Rattle.std.proofs.Common.{◌≡◌, ℕ, ◌+◌, ℤ, List, [], ◌∷◌, map, Ok, codes, refl}
use Rattle.std.specs.List.{AllByRecursion}
use Rattle.serde_json.specs.View.{items_of}
use Rattle.fs_path.specs.Place.{item_place, member_place}
use Rattle.fs_json.specs.Time.{IsTimeHeld}
use Rattle.fs_json.specs.Walk.{each_at}
use Rattle.fs_status.specs.declared.code.Code.{Code}
use Rattle.fs_status.specs.declared.code.Code.TheVariants.{InvalidArgument, FailedPrecondition, NotFound, AlreadyExists, Aborted, ResourceExhausted, Unimplemented, OutOfMemory}
use Rattle.fs_write.specs.declared.write_result.WriteResult.{WriteResult}
use Rattle.fs_writejson.specs.Results.{result_json, IsResultHeld, write_result_at}
use Rattle.fs_writejson.specs.Valid.{ResultHasNames}
use Rattle.fs_writejson.proofs.WriteResults.{write_result_again}
use Rattle.fs_rpc.specs.Decimal.{IsDecimalHeld}
use Rattle.fs_rpc.specs.Eight.{IsEightHeld}
use Rattle.fs_rpc.specs.MessageJson.{error_json, stream_answer_json}
use Rattle.fs_rpc.specs.MessageSteps.{IsStreamHeld}
use Rattle.fs_rpc.specs.ReadError.{refusal_at}
use Rattle.fs_rpc.specs.ReadStreamAnswer.{stream_answer_at}
use Rattle.fs_rpc.specs.ValidMessage.{HasAnswerNames}
use Rattle.fs_request.specs.declared.message.Message.TheVariants.{Write}
use Rattle.fs_request.specs.declared.message.StreamAnswer.{StreamAnswer}
use Rattle.fs_request.specs.declared.message.StreamAnswer.TheVariants.{Stands, Committed, Refused}

-- ---- results of writes

pub results_again : (rs : List WriteResult) (i : ℕ) (place : List ℕ) → AllByRecursion IsResultHeld rs → AllByRecursion ResultHasNames rs
    → each_at write_result_at (items_of (map result_json rs)) i place ≡ Ok rs
results_again [] i place held names = refl
results_again (r ∷ rs) i place held names =
    rw (write_result_again r (item_place place i) held.0 names.0, results_again rs (i + 1) place held.1 names.1) refl

-- ---- errors

pub refusal_again : (code : Code) (message : List ℕ) (place : List ℕ) → refusal_at (error_json code message) place ≡ Ok (code, message)
unfolding refusal_at
refusal_again InvalidArgument message place = refl
refusal_again FailedPrecondition message place = refl
refusal_again NotFound message place = refl
refusal_again AlreadyExists message place = refl
refusal_again Aborted message place = refl
refusal_again ResourceExhausted message place = refl
refusal_again Unimplemented message place = refl
refusal_again OutOfMemory message place = refl

-- ---- write streams

stands_again : (stream token : ℕ) (place : List ℕ) → IsDecimalHeld stream → IsEightHeld token
    → stream_answer_at (stream_answer_json stream token Stands) place ≡ Ok (Write stream token Stands)
unfolding stream_answer_at
stands_again stream token place s t = rw (s (member_place place (codes "streamId")), t (member_place place (codes "streamToken"))) refl

committed_again : (stream token : ℕ) (time : ℤ) (rs : List WriteResult) (place : List ℕ) → IsDecimalHeld stream → IsEightHeld token → IsTimeHeld time
    → each_at write_result_at (items_of (map result_json rs)) 0 (member_place place (codes "writeResults")) ≡ Ok rs
    → stream_answer_at (stream_answer_json stream token (Committed time rs)) place ≡ Ok (Write stream token (Committed time rs))
unfolding stream_answer_at
committed_again stream token time [] place s t c h =
    rw (c (member_place place (codes "commitTime")), s (member_place place (codes "streamId")), t (member_place place (codes "streamToken"))) refl
committed_again stream token time (r ∷ rs) place s t c h =
    rw (c (member_place place (codes "commitTime")), h, s (member_place place (codes "streamId")), t (member_place place (codes "streamToken"))) refl

refused_again : (stream token : ℕ) (code : Code) (message : List ℕ) (place : List ℕ) → IsDecimalHeld stream → IsEightHeld token
    → stream_answer_at (stream_answer_json stream token (Refused code message)) place ≡ Ok (Write stream token (Refused code message))
unfolding stream_answer_at
refused_again stream token code message place s t =
    rw (refusal_again code message (member_place place (codes "error")), s (member_place place (codes "streamId")), t (member_place place (codes "streamToken"))) refl

pub stream_answer_again : (stream token : ℕ) (answer : StreamAnswer) (place : List ℕ) → IsStreamHeld stream token answer → HasAnswerNames answer
    → stream_answer_at (stream_answer_json stream token answer) place ≡ Ok (Write stream token answer)
stream_answer_again stream token Stands place held names = stands_again stream token place held.stream held.token
stream_answer_again stream token (Committed time rs) place held names =
    committed_again stream token time rs place held.stream held.token held.answer.0 (results_again rs 0 (member_place place (codes "writeResults")) held.answer.1 names)
stream_answer_again stream token (Refused code message) place held names = refused_again stream token code message place held.stream held.token
