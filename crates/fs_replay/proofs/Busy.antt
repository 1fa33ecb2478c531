-- A batch is told to be in progress only where a stream has one.
use Rattle.std.proofs.Common.{◌≡◌, ℕ, ℤ, ◌+◌, Bool, true, false, cond, List, [], Option, Some, None, Result, Ok, Err, refl, sym, ap, ◌∙◌, pos, negsuc}
use Rattle.std.specs.FinMap.{get}
use Rattle.fs_history.specs.History.{at}
use Rattle.fs_path.specs.declared.field.FieldPath.{FieldPath}
use Rattle.fs_path.specs.declared.name.Root.{Root}
use Rattle.fs_request.specs.declared.message.Message.TheVariants as message
use Rattle.fs_request.specs.declared.request.Envelope.{Envelope}
use Rattle.fs_request.specs.declared.request.Request.{Request}
use Rattle.fs_request.specs.declared.request.Request.TheVariants.{Commit, GetDocument, BatchGetDocuments, RunQuery, BeginTransaction, Rollback, AddTarget, RemoveTarget}
use Rattle.fs_request.specs.declared.request.Request.TheVariants as request
use Rattle.fs_request.specs.declared.stream_request.StreamRequest.TheVariants.{Open, Resume, Batch, Ask, Mixed}
use Rattle.fs_status.specs.declared.refusal.Refusal.{Refusal}
use Rattle.fs_stream.proofs.Standing.{going_busy}
use Rattle.fs_stream.specs.Answers.{resume_answer}
use Rattle.fs_stream.specs.Streams.{owned_by, stream_of}
use Rattle.fs_stream.specs.declared.error.StreamError.{StreamError}
use Rattle.fs_stream.specs.declared.take.Resumed.{Resumed}
use Rattle.fs_stream.specs.declared.take.Resumed.TheVariants as resumed
use Rattle.fs_stream.specs.declared.take.Take.{Take}
use Rattle.fs_stream.specs.declared.take.Take.TheVariants as take
use Rattle.fs_txn.specs.Transactions.{is_read_write, txn_of}
use Rattle.fs_txn.specs.declared.txn.Txn.{Txn}
use Rattle.fs_value.specs.declared.document.Document.{Document}
use Rattle.fs_write.specs.declared.write.Write.{Write}
use Rattle.fs_machine.specs.Commit.{committed_answer_in, committed_answer_unless}
use Rattle.fs_machine.specs.Conflict.{conflict}
use Rattle.fs_machine.specs.Read.{document_answer, read_time}
use Rattle.fs_machine.specs.Request.{Decision, answer_by, answered, answered_unless, arrival_refusal, arrived, decided_answer, decision, drawn, refused_by, unless_full}
use Rattle.fs_machine.specs.State.{Machine}
use Rattle.fs_machine.specs.Stream.{asked_answer, known_answer, new_of, own_stream, resumed_answer, take_of, taken_as}
use Rattle.fs_machine.specs.declared.answer.Answer.{Answer}
use Rattle.fs_machine.specs.declared.answer.Answer.TheVariants.{Reply, Prepared, Held, InProgress, Refused}
use Rattle.fs_machine.specs.declared.parked_request.ParkedRequest.{ParkedRequest}
use Rattle.fs_replay.proofs.Becoming.{refused_told}
use Rattle.fs_replay.proofs.Going.{is_told}

-- whether it is told that a batch is in progress
abbrev is_going : Answer → Bool
is_going (Reply message) = false
is_going (Prepared id time) = false
is_going (Held id) = false
is_going (InProgress finished) = true
is_going (Refused refusal) = false

told_still : (a : Answer) → is_told a ≡ true → is_going a ≡ false
told_still (Reply message) told = refl
told_still (Prepared id time) told = refl
told_still (Held id) told = refl
told_still (InProgress finished) told = absurd (cc)
told_still (Refused refusal) told = refl

-- ---- of no other request

unless_still : (m : Machine) (t : Txn) (found : Option ℕ) → is_going (committed_answer_unless m t found) ≡ false
unless_still m t (Some other) = refl
unless_still m t None = refl

kind_still : (m : Machine) (r : ParkedRequest) (writes : List Write) (t : Txn) (b : Bool)
    → is_going (cond b (committed_answer_unless m t (conflict m.config.mode m.past m.txns.open t writes)) (Reply (message.Commit r.envelope.id t.read_time []))) ≡ false
kind_still m r writes t true = unless_still m t (conflict m.config.mode m.past m.txns.open t writes)
kind_still m r writes t false = refl

in_still : (m : Machine) (r : ParkedRequest) (writes : List Write) (found : Option Txn) → is_going (committed_answer_in m r writes found) ≡ false
in_still m r writes None = refl
in_still m r writes (Some t) = kind_still m r writes t (is_read_write t.kind)

document_still : (id : Option (List ℕ)) (t : ℤ) (mask : Option (List FieldPath)) (found : Option Document) → is_going (document_answer id t mask found) ≡ false
document_still id t mask None = refl
document_still id t mask (Some document) = refl

resumed_still : (n : ℕ) (t : Result Resumed StreamError) → is_going (resumed_answer n t) ≡ false
resumed_still n (Ok (resumed.At finished)) = refl
resumed_still n (Ok (resumed.Repeat kept)) = refl
resumed_still n (Err e) = refl

own_still : (own : Option (ℕ × ℕ)) → is_going (asked_answer own) ≡ false
own_still (Some own) = refl
own_still None = refl

-- ---- where it is

module _ (m : Machine) (session : ℕ) where
  abbrev SomeBusy : Type 0
  SomeBusy = (n : ℕ) × ((stream_of n m.streams).busy ≡ true)

  still : (a : Answer) (finished : ℕ) → is_going a ≡ false → a ≡ InProgress finished → SomeBusy
  still a finished none is = absurd (let both : true ≡ false = sym (ap is_going is) ∙ none in cc)

  decided_busy : (k : Machine) (r : ParkedRequest) (d : Decision) (finished : ℕ) → (answer_by k r r.envelope.request ≡ InProgress finished → SomeBusy) → decided_answer k r d ≡ InProgress finished → SomeBusy
  decided_busy k r (Decision.refused refusal) finished more is = still (Refused refusal) finished refl is
  decided_busy k r (Decision.held by) finished more is = still (Held by) finished refl is
  decided_busy k r Decision.goes_on finished more is = more is

  -- what it is told, as the request of a number
  abbrev Tells : ParkedRequest → Type 0
  Tells r = (d : Decision) (finished : ℕ) → decided_answer (drawn m r.envelope.request) r d ≡ InProgress finished → SomeBusy

  other_busy : (r : ParkedRequest) → is_going (answer_by (drawn m r.envelope.request) r r.envelope.request) ≡ false → Tells r
  other_busy r none d finished is =
      let k = drawn m r.envelope.request in decided_busy k r d finished (still (answer_by k r r.envelope.request) finished none) is

  module _ (id : Option (List ℕ)) (number : ℕ) where
    abbrev as_asked : Request → ParkedRequest
    as_asked q = record { session = session; id = number; stream = None; envelope = record { id = id; request = q } }

    batch_busy : (database : Root) (token : ℕ) (writes : List Write) (t : Result Take StreamError) → take_of m session token ≡ t → Tells (taken_as (new_of t) (as_asked (request.Write database (Batch token writes))))
    batch_busy database token writes (Ok (take.New n)) is = other_busy (taken_as (Some n) (as_asked (request.Write database (Batch token writes)))) refl
    batch_busy database token writes (Ok (take.Repeat kept)) is =
        other_busy (as_asked (request.Write database (Batch token writes))) (ap (λ t. is_going (known_answer (own_stream m session) t)) is)
    batch_busy database token writes (Ok (take.InProgress finished)) is = λ d f told. going_busy session token finished m.streams is
    batch_busy database token writes (Err e) is =
        other_busy (as_asked (request.Write database (Batch token writes))) (ap (λ t. is_going (known_answer (own_stream m session) t)) is)

  asked_busy : (id : Option (List ℕ)) (q : Request)
      → (let r = arrived m session (record { id = id; request = q }) in is_going (answer_by (drawn m r.envelope.request) r r.envelope.request) ≡ false) → Tells (arrived m session (record { id = id; request = q }))
  asked_busy id q none = other_busy (arrived m session (record { id = id; request = q })) none

  arrived_busy : (id : Option (List ℕ)) (q : Request) → Tells (arrived m session (record { id = id; request = q }))
  arrived_busy id (Commit database writes None) = asked_busy id (Commit database writes None) refl
  arrived_busy id (Commit database writes (Some of)) =
      let q = Commit database writes (Some of) in asked_busy id q (in_still m (arrived m session (record { id = id; request = q })) writes (txn_of of m.txns.open))
  arrived_busy id (GetDocument name mask when) =
      let time = read_time m when in asked_busy id (GetDocument name mask when) (document_still id time mask (get (at m.past.history time) name))
  arrived_busy id (BatchGetDocuments database names mask when) = asked_busy id (BatchGetDocuments database names mask when) refl
  arrived_busy id (RunQuery database query when) = asked_busy id (RunQuery database query when) refl
  arrived_busy id (BeginTransaction database options) = asked_busy id (BeginTransaction database options) refl
  arrived_busy id (Rollback database transaction) = asked_busy id (Rollback database transaction) refl
  arrived_busy id (AddTarget database target t token) = asked_busy id (AddTarget database target t token) refl
  arrived_busy id (RemoveTarget database (pos target)) = asked_busy id (RemoveTarget database (pos target)) refl
  arrived_busy id (RemoveTarget database (negsuc target)) = asked_busy id (RemoveTarget database (negsuc target)) refl
  arrived_busy id (request.Write database Open) = asked_busy id (request.Write database Open) refl
  arrived_busy id (request.Write database (Resume n token)) = asked_busy id (request.Write database (Resume n token)) (resumed_still n (resume_answer session n token m.streams))
  arrived_busy id (request.Write database (Batch token writes)) = batch_busy id (m.numbers.ids + 1) database token writes (take_of m session token) refl
  arrived_busy id (request.Write database (Ask token)) = asked_busy id (request.Write database (Ask token)) (own_still (owned_by session m.streams))
  arrived_busy id (request.Write database (Mixed n token writes)) = asked_busy id (request.Write database (Mixed n token writes)) refl

  unless_busy : (e : Envelope) (refusal : Option Refusal) (finished : ℕ) → answered_unless refusal m (arrived m session e) ≡ InProgress finished → SomeBusy
  unless_busy e (Some refusal) finished is =
      let r = arrived m session e in still (answered_unless (Some refusal) m r) finished (told_still (refused_by m r.session r.envelope.request refusal) (refused_told m r.session r.envelope.request refusal)) is
  unless_busy e None finished is = let r = arrived m session e in arrived_busy e.id e.request (unless_full m (decision m r.session r.envelope.request)) finished is

  pub told_busy : (e : Envelope) (finished : ℕ) → answered m session e ≡ InProgress finished → SomeBusy
  told_busy e finished is = unless_busy e (arrival_refusal m session e.request) finished is
