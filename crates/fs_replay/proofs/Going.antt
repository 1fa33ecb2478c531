-- What a request that is carried out comes to: it is answered, and what was committed stays; or its writes are prepared.
use Rattle.std.proofs.Common.{◌≡◌, ℕ, ℤ, Bool, true, false, cond, List, [], Option, Some, None, Result, Ok, Err, refl, pos, negsuc}
use Rattle.std.specs.FinMap.{get}
use Rattle.fs_history.specs.History.{at}
use Rattle.fs_history.specs.declared.read.Read.{Read}
use Rattle.fs_path.specs.declared.field.FieldPath.{FieldPath}
use Rattle.fs_request.specs.declared.message.Message.TheVariants as message
use Rattle.fs_request.specs.declared.request.Request.{Request}
use Rattle.fs_request.specs.declared.request.Request.TheVariants.{Commit, GetDocument, BatchGetDocuments, RunQuery, BeginTransaction, Rollback, AddTarget, RemoveTarget}
use Rattle.fs_request.specs.declared.request.Request.TheVariants as request
use Rattle.fs_request.specs.declared.stream_request.StreamRequest.{StreamRequest}
use Rattle.fs_request.specs.declared.stream_request.StreamRequest.TheVariants.{Open, Resume, Batch, Ask, Mixed}
use Rattle.fs_request.specs.declared.when.When.{When}
use Rattle.fs_request.specs.declared.when.When.TheVariants.{Released, At, In}
use Rattle.fs_status.specs.declared.refusal.Refusal.{Refusal}
use Rattle.fs_stream.specs.Answers.{resume_answer}
use Rattle.fs_stream.specs.Streams.{owned_by}
use Rattle.fs_stream.specs.declared.error.StreamError.{StreamError}
use Rattle.fs_stream.specs.declared.take.Resumed.{Resumed}
use Rattle.fs_stream.specs.declared.take.Resumed.TheVariants as resumed
use Rattle.fs_stream.specs.declared.take.Take.{Take}
use Rattle.fs_stream.specs.declared.take.Take.TheVariants as take
use Rattle.fs_txn.specs.Transactions.{expired_of, is_read_write, txn_of}
use Rattle.fs_txn.specs.declared.expired.Expired.{Expired}
use Rattle.fs_txn.specs.declared.txn.Txn.{Txn}
use Rattle.fs_value.specs.declared.document.Document.{Document}
use Rattle.fs_write.specs.declared.write.Write.{Write}
use Rattle.fs_machine.specs.Commit.{committed_answer_in, committed_answer_unless, committed_in, committed_unless, next_commit, only_reads, past_prepared, unless_closed, writing_refusal}
use Rattle.fs_machine.specs.Conflict.{conflict}
use Rattle.fs_machine.specs.Past.{Past}
use Rattle.fs_machine.specs.Read.{document_answer, read_in, read_time}
use Rattle.fs_machine.specs.Refusing.{next_time}
use Rattle.fs_machine.specs.Request.{Decision, answer_by, carried_by, check_refusal, decision, held_by, unless_held, unless_refused}
use Rattle.fs_machine.specs.State.{Machine}
use Rattle.fs_machine.specs.Stream.{asked_answer, known_answer, own_stream, resumed_answer, streamed, streamed_answer, take_of}
use Rattle.fs_machine.specs.Transact.{refusal_unless, with_ended}
use Rattle.fs_machine.specs.declared.answer.Answer.{Answer}
use Rattle.fs_machine.specs.declared.answer.Answer.TheVariants.{Reply, Prepared, Held, InProgress, Refused}
use Rattle.fs_machine.specs.declared.parked_request.ParkedRequest.{ParkedRequest}
use Rattle.fs_replay.specs.Commits.{writes_in, writes_of}
use Rattle.fs_replay.specs.Settling.{waits_on}

-- whether an answer is told at once
abbrev pub is_told : Answer → Bool
is_told (Reply message) = true
is_told (Prepared id time) = false
is_told (Held id) = false
is_told (InProgress finished) = false
is_told (Refused refusal) = true

-- what was committed before and after, and the answer
pub data Goes (r : ParkedRequest) (writes : List Write) (p q : Past) (a : Answer) : Type 0 where
  answers : q ≡ p → is_told a ≡ true → Goes r writes p q a
  -- it is a batch that is in progress
  repeats : (finished : ℕ) → q ≡ p → a ≡ InProgress finished → Goes r writes p q a
  prepares : (id : ℕ) → (reads : List Read) → q ≡ past_prepared p (next_commit p id r writes reads) → a ≡ Prepared id (next_time p) → Goes r writes p q a

unless_goes : (m : Machine) (r : ParkedRequest) (writes : List Write) (t : Txn) (found : Option ℕ) → Goes r writes m.past (committed_unless m r writes t found).past (committed_answer_unless m t found)
unless_goes m r writes t (Some other) = answers refl refl
unless_goes m r writes t None = prepares t.id t.reads refl refl

kind_goes : (m : Machine) (r : ParkedRequest) (writes : List Write) (t : Txn) (b : Bool)
    → Goes r writes m.past (cond b (committed_unless m r writes t (conflict m.config.mode m.past m.txns.open t writes)) (with_ended m t.id)).past
    (cond b (committed_answer_unless m t (conflict m.config.mode m.past m.txns.open t writes)) (Reply (message.Commit r.envelope.id t.read_time [])))
kind_goes m r writes t true = unless_goes m r writes t (conflict m.config.mode m.past m.txns.open t writes)
kind_goes m r writes t false = answers refl refl

in_goes : (m : Machine) (r : ParkedRequest) (writes : List Write) (found : Option Txn) → (found ≡ None → ⊥) → Goes r writes m.past (committed_in m r writes found).past (committed_answer_in m r writes found)
in_goes m r writes None opened = absurd (opened refl)
in_goes m r writes (Some t) opened = kind_goes m r writes t (is_read_write t.kind)

-- one that isn't refused is of a transaction that is open
stays_open : (id : ℕ) (past : Option Expired) (found : Option Txn) (other : Option Refusal) → unless_closed (refusal_unless id past found) other ≡ None → found ≡ None → ⊥
stays_open id past (Some t) other none missing = absurd (cc)
stays_open id past None other none missing = absurd (cc)

-- what goes on isn't refused
pub passes : (refusal : Option Refusal) (d : Decision) → unless_refused refusal d ≡ Decision.goes_on → (refusal ≡ None) × (d ≡ Decision.goes_on)
passes (Some refusal) d goes = absurd (cc)
passes None d goes = (refl, goes)

read_past : (m : Machine) (when : When) (q : Request) → (read_in m when q).past ≡ m.past
read_past m Released q = refl
read_past m (At time) q = refl
read_past m (In id) q = refl

document_told : (id : Option (List ℕ)) (t : ℤ) (mask : Option (List FieldPath)) (found : Option Document) → is_told (document_answer id t mask found) ≡ true
document_told id t mask None = refl
document_told id t mask (Some document) = refl

module _ (m : Machine) (r : ParkedRequest) (writes : List Write) (p : Past) where
  known_goes : (n : ℕ) (t : Result Take StreamError) → Goes r writes p p (known_answer n t)
  known_goes n (Ok (take.New stream)) = repeats 0 refl refl
  known_goes n (Ok (take.Repeat kept)) = answers refl refl
  known_goes n (Ok (take.InProgress finished)) = repeats finished refl refl
  known_goes n (Err e) = answers refl refl

  resumed_goes : (n : ℕ) (t : Result Resumed StreamError) → Goes r writes p p (resumed_answer n t)
  resumed_goes n (Ok (resumed.At finished)) = answers refl refl
  resumed_goes n (Ok (resumed.Repeat kept)) = answers refl refl
  resumed_goes n (Err e) = answers refl refl

  own_goes : (own : Option (ℕ × ℕ)) → Goes r writes p p (asked_answer own)
  own_goes (Some own) = answers refl refl
  own_goes None = answers refl refl

stream_goes : (m : Machine) (r : ParkedRequest) (writes : List Write) (asked : StreamRequest) → Goes r writes m.past (streamed m r.session asked).past (streamed_answer m r.session asked)
stream_goes m r writes Open = answers refl refl
stream_goes m r writes (Resume n token) = resumed_goes m r writes m.past n (resume_answer r.session n token m.streams)
stream_goes m r writes (Batch token ws) = known_goes m r writes m.past (own_stream m r.session) (take_of m r.session token)
stream_goes m r writes (Ask token) = own_goes m r writes m.past (owned_by r.session m.streams)
stream_goes m r writes (Mixed n token ws) = answers refl refl

pub carried_goes : (m : Machine) (r : ParkedRequest) (q : Request) → decision m r.session q ≡ Decision.goes_on → Goes r (writes_of q) m.past (carried_by m r q).past (answer_by m r q)
carried_goes m r (Commit database writes None) goes = prepares r.id [] refl refl
carried_goes m r (Commit database writes (Some id)) goes =
    let q = Commit database writes (Some id) in
    let found = txn_of id m.txns.open in
    let none = (passes (check_refusal m r.session q) (unless_held (held_by m q)) goes).0 in
    in_goes m r writes found (stays_open id (expired_of id m.txns.expired) found (writing_refusal writes id (only_reads m (Some id))) none)
carried_goes m r (GetDocument name mask when) goes =
    let time = read_time m when in
    answers (read_past m when (GetDocument name mask when)) (document_told r.envelope.id time mask (get (at m.past.history time) name))
carried_goes m r (BatchGetDocuments database names mask when) goes = answers (read_past m when (BatchGetDocuments database names mask when)) refl
carried_goes m r (RunQuery database query when) goes = answers (read_past m when (RunQuery database query when)) refl
carried_goes m r (BeginTransaction database options) goes = answers refl refl
carried_goes m r (Rollback database transaction) goes = answers refl refl
carried_goes m r (AddTarget database target t token) goes = answers refl refl
carried_goes m r (RemoveTarget database (pos target)) goes = answers refl refl
carried_goes m r (RemoveTarget database (negsuc target)) goes = answers refl refl
carried_goes m r (request.Write database asked) goes = stream_goes m r (writes_in asked) asked

-- it isn't answered that it waits
unless_waits : (m : Machine) (t : Txn) (found : Option ℕ) → waits_on (Some (committed_answer_unless m t found)) ≡ false
unless_waits m t (Some other) = refl
unless_waits m t None = refl

kind_waits : (m : Machine) (r : ParkedRequest) (writes : List Write) (t : Txn) (b : Bool)
    → waits_on (Some (cond b (committed_answer_unless m t (conflict m.config.mode m.past m.txns.open t writes)) (Reply (message.Commit r.envelope.id t.read_time [])))) ≡ false
kind_waits m r writes t true = unless_waits m t (conflict m.config.mode m.past m.txns.open t writes)
kind_waits m r writes t false = refl

in_waits : (m : Machine) (r : ParkedRequest) (writes : List Write) (found : Option Txn) → waits_on (Some (committed_answer_in m r writes found)) ≡ false
in_waits m r writes None = refl
in_waits m r writes (Some t) = kind_waits m r writes t (is_read_write t.kind)

document_waits : (id : Option (List ℕ)) (t : ℤ) (mask : Option (List FieldPath)) (found : Option Document) → waits_on (Some (document_answer id t mask found)) ≡ false
document_waits id t mask None = refl
document_waits id t mask (Some document) = refl

known_waits : (n : ℕ) (t : Result Take StreamError) → waits_on (Some (known_answer n t)) ≡ false
known_waits n (Ok (take.New stream)) = refl
known_waits n (Ok (take.Repeat kept)) = refl
known_waits n (Ok (take.InProgress finished)) = refl
known_waits n (Err e) = refl

resumed_waits : (n : ℕ) (t : Result Resumed StreamError) → waits_on (Some (resumed_answer n t)) ≡ false
resumed_waits n (Ok (resumed.At finished)) = refl
resumed_waits n (Ok (resumed.Repeat kept)) = refl
resumed_waits n (Err e) = refl

own_waits : (own : Option (ℕ × ℕ)) → waits_on (Some (asked_answer own)) ≡ false
own_waits (Some own) = refl
own_waits None = refl

stream_waits : (m : Machine) (session : ℕ) (asked : StreamRequest) → waits_on (Some (streamed_answer m session asked)) ≡ false
stream_waits m session Open = refl
stream_waits m session (Resume n token) = resumed_waits n (resume_answer session n token m.streams)
stream_waits m session (Batch token writes) = known_waits (own_stream m session) (take_of m session token)
stream_waits m session (Ask token) = own_waits (owned_by session m.streams)
stream_waits m session (Mixed n token writes) = refl

pub never_waits : (m : Machine) (r : ParkedRequest) (q : Request) → waits_on (Some (answer_by m r q)) ≡ false
never_waits m r (Commit database writes None) = refl
never_waits m r (Commit database writes (Some id)) = in_waits m r writes (txn_of id m.txns.open)
never_waits m r (GetDocument name mask when) = let time = read_time m when in document_waits r.envelope.id time mask (get (at m.past.history time) name)
never_waits m r (BatchGetDocuments database names mask when) = refl
never_waits m r (RunQuery database query when) = refl
never_waits m r (BeginTransaction database options) = refl
never_waits m r (Rollback database transaction) = refl
never_waits m r (AddTarget database target t token) = refl
never_waits m r (RemoveTarget database (pos target)) = refl
never_waits m r (RemoveTarget database (negsuc target)) = refl
never_waits m r (request.Write database asked) = stream_waits m r.session asked
