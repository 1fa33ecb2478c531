-- A write stream is opened, resumed, asked for or given a batch, by a session. Its next batch is a commit from then on, of no transaction, which
-- the stream is answered, whoever owns it by then; the last one once more is answered as it was, and the one in progress not at all, since
-- its response is still to come.
--
--     session 4 opens a stream                      stream 1, token 0
--     4 sends a batch with token 0                  it is a commit, of stream 1
--     the same again                                it is in progress
--     session 4 leaves, 9 resumes 1 with token 0    stream 1, token 0
--     the commit is settled and released            9 is told: stream 1, token 1, with its time and results
--     9 sends that batch with token 0               the same again
-- (v1 reference, "Write": `WriteRequest`, `WriteResponse`.)
use Rattle.std.specs.Prelude.{ℕ, suc, Bool, true, false, List, [], Option, Some, None, Result, Ok, Err, codes, is_some, length, nat_lt, option_map, unwrap_or, if◌then◌else◌}
use Rattle.std.specs.FinMap.{entries, get}
use Rattle.std.specs.Option.{option_map_or}
use Rattle.fs_pairs.specs.Pairs.{key_of}
use Rattle.fs_request.specs.declared.message.Message.{Message}
use Rattle.fs_request.specs.declared.message.Message.TheVariants as message
use Rattle.fs_request.specs.declared.message.StreamAnswer.{StreamAnswer}
use Rattle.fs_request.specs.declared.message.StreamAnswer.TheVariants as told
use Rattle.fs_request.specs.declared.request.Request.{Request}
use Rattle.fs_request.specs.declared.request.Request.TheVariants as request
use Rattle.fs_request.specs.declared.stream_request.StreamRequest.{StreamRequest}
use Rattle.fs_request.specs.declared.stream_request.StreamRequest.TheVariants.{Open, Resume, Batch, Ask, Mixed}
use Rattle.fs_status.specs.Message.{message_text}
use Rattle.fs_status.specs.Refusal.{refusal_of}
use Rattle.fs_status.specs.declared.reason.Reason.{Reason}
use Rattle.fs_status.specs.declared.reason.Reason.TheVariants as reason
use Rattle.fs_status.specs.declared.refusal.Refusal.{Refusal}
use Rattle.fs_stream.specs.Answers.{is_full, resume_answer, take_answer}
use Rattle.fs_stream.specs.Streams.{Streams, finished_with, handed_to, opened_by, owned_by, stream_of, taken}
use Rattle.fs_stream.specs.declared.error.StreamError.{StreamError}
use Rattle.fs_stream.specs.declared.error.StreamError.TheVariants as error
use Rattle.fs_stream.specs.declared.kept.Kept.{Kept}
use Rattle.fs_stream.specs.declared.take.Resumed.{Resumed}
use Rattle.fs_stream.specs.declared.take.Resumed.TheVariants as resumed
use Rattle.fs_stream.specs.declared.take.Take.{Take}
use Rattle.fs_stream.specs.declared.take.Take.TheVariants.{New, Repeat, InProgress}
use Rattle.fs_write.specs.declared.write.Write.{Write}
use Rattle.fs_machine.specs.Commit.{commit_refusal}
use Rattle.fs_machine.specs.Refusing.{ids_refusal, outbox_refusal, passed}
use Rattle.fs_machine.specs.Sessions.{delivered, has_owned, owning}
use Rattle.fs_machine.specs.State.{Machine}
use Rattle.fs_machine.specs.declared.answer.Answer.{Answer}
use Rattle.fs_machine.specs.declared.answer.Answer.TheVariants as answer
use Rattle.fs_machine.specs.declared.committed.Committed.{Committed}
use Rattle.fs_machine.specs.declared.parked_request.ParkedRequest.{ParkedRequest}
use Rattle.fs_machine.specs.declared.reply.Reply.{Reply}
use Rattle.fs_machine.specs.declared.session.Session.{Session}

-- ---- limits

-- what a batch is to the stream that its session owns
abbrev pub take_of : Machine → ℕ → ℕ → Result Take StreamError
take_of m session token = take_answer session token m.streams

-- it adds nothing to what is committed: it was finished before, or is in progress
abbrev pub is_known : Result Take StreamError → Bool
is_known (Ok (New n)) = false
is_known (Ok (Repeat kept)) = true
is_known (Ok (InProgress n)) = true
is_known (Err e) = false

abbrev pub writes_refusal : Machine → List Write → Option Refusal → Option Refusal
writes_refusal m writes others = passed (nat_lt m.limits.writes (length writes)) (codes "writes") m.limits.writes others

-- it draws a number all the same
abbrev pub batch_refusal : Machine → ℕ → List Write → Bool → Option Refusal
batch_refusal m session writes known =
    if known then writes_refusal m writes (outbox_refusal m session (ids_refusal m None)) else commit_refusal m session writes None

abbrev pub stream_refusal : Machine → ℕ → StreamRequest → Option Refusal
stream_refusal m session Open = outbox_refusal m session (passed (is_full m.streams) (codes "streams") m.streams.limit None)
stream_refusal m session (Resume n token) = outbox_refusal m session None
stream_refusal m session (Batch token writes) = batch_refusal m session writes (is_known (take_of m session token))
stream_refusal m session (Ask token) = outbox_refusal m session None
stream_refusal m session (Mixed n token writes) = writes_refusal m writes (outbox_refusal m session None)

-- ---- its stream

-- what a session is told that owns none
abbrev pub unowned : Bool → Reason
unowned ever = if ever then reason.NotOwner else reason.NoStream

abbrev pub reason_of : Bool → StreamError → Reason
reason_of ever (error.Unknown n) = reason.StreamUnknown n
reason_of ever error.NotOwner = unowned ever
reason_of ever (error.Stale token next) = reason.Stale token next
reason_of ever (error.Ahead token next) = reason.Ahead token next
reason_of ever (error.TooMany limit) = reason.AtLimit (codes "streams") limit
reason_of ever error.Second = reason.SecondStream
reason_of ever (error.Memory e) = reason.Memory

abbrev pub unless_taken : {X : Type 0} → Bool → Result X StreamError → Option Refusal
unless_taken ever (Ok x) = None
unless_taken ever (Err e) = Some (refusal_of (reason_of ever e))

abbrev pub has_stream : Machine → ℕ → Bool
has_stream m session = is_some (owned_by session m.streams)

abbrev pub stream_check : Machine → ℕ → StreamRequest → Option Refusal
stream_check m session Open = if has_stream m session then Some (refusal_of reason.SecondStream) else None
stream_check m session (Resume n token) = unless_taken (has_owned session m.sessions) (resume_answer session n token m.streams)
stream_check m session (Batch token writes) = unless_taken (has_owned session m.sessions) (take_of m session token)
stream_check m session (Ask token) = if has_stream m session then None else Some (refusal_of (unowned (has_owned session m.sessions)))
stream_check m session (Mixed n token writes) = Some (refusal_of reason.NoStream)

-- ---- a batch that is new

-- the stream that takes it
abbrev pub new_of : Result Take StreamError → Option ℕ
new_of (Ok (New n)) = Some n
new_of (Ok (Repeat kept)) = None
new_of (Ok (InProgress n)) = None
new_of (Err e) = None

abbrev pub taker_of : Machine → ℕ → StreamRequest → Option ℕ
taker_of m session (Batch token writes) = new_of (take_of m session token)
taker_of m session _ = None

-- the stream that takes the batch of a request
abbrev pub taker : Machine → ℕ → Request → Option ℕ
taker m session (request.Write database asked) = taker_of m session asked
taker m session _ = None

abbrev pub batch_commit : Request → StreamRequest → Request
batch_commit (request.Write database asked) (Batch token writes) = request.Commit database writes None
batch_commit r _ = r

-- a batch as the commit that it is
abbrev pub as_commit : Request → Request
as_commit (request.Write database asked) = batch_commit (request.Write database asked) asked
as_commit r = r

-- a request as a stream takes it
abbrev pub taken_as : Option ℕ → ParkedRequest → ParkedRequest
taken_as None r = r
taken_as (Some n) r = record r { stream = Some n; envelope = record r.envelope { request = as_commit r.envelope.request } }

-- its batch is in progress from now on
abbrev pub taken_by : Option ℕ → Machine → Machine
taken_by None m = m
taken_by (Some n) m = record m { streams = taken (New n) m.streams }

-- ---- responses

abbrev pub answer_by_refusal : Option Refusal → StreamAnswer
answer_by_refusal None = told.Stands
answer_by_refusal (Some refusal) = told.Refused refusal.code (message_text refusal.reason)

-- what became of a batch
abbrev pub answer_of : Kept → StreamAnswer
answer_of kept = option_map_or (λ time. told.Committed time kept.results) kept.commit (answer_by_refusal kept.refusal)

-- the response to the batch that was finished last, each time it is given
abbrev pub response_of : ℕ → Kept → Message
response_of n kept = message.Write n kept.token (answer_of kept)

-- where a stream is
abbrev pub stands_at : ℕ → ℕ → Message
stands_at n finished = message.Write n finished told.Stands

-- the response to a batch that is let into the history, and to one that is refused, as the next that is finished
abbrev pub kept_of : Streams → ℕ → Committed → Kept
kept_of s n c = record { token = suc (stream_of n s).finished; results = c.results; commit = Some c.time; refusal = None }

abbrev pub kept_refused : Streams → ℕ → Refusal → Kept
kept_refused s n refusal = record { token = suc (stream_of n s).finished; results = []; commit = None; refusal = Some refusal }

-- to whoever owns the stream, if anybody does
abbrev pub owner_told : Streams → ℕ → Kept → Option Reply
owner_told s n kept = option_map (λ session. record { session = session; message = response_of n kept }) (key_of n (entries s.owners))

abbrev pub told_if : Option Reply → List Session → List Session
told_if None ss = ss
told_if (Some r) ss = delivered r.session r.message ss

-- what an answer changes: streams, and the outboxes of sessions
abbrev pub Desk : Type 0
Desk = Streams × List Session

abbrev pub desk_of : Machine → Desk
desk_of m = (m.streams, m.sessions)

abbrev pub with_desk : Machine → Desk → Machine
with_desk m d = record m { streams = d.0; sessions = d.1 }

-- a batch in progress is finished, and whoever owns its stream is told
abbrev pub batch_finished : ℕ → Kept → Desk → Desk
batch_finished n kept d = (finished_with n kept d.0, told_if (owner_told d.0 n kept) d.1)

-- by a refusal
abbrev pub batch_refused : ℕ → Refusal → Desk → Desk
batch_refused n refusal d = batch_finished n (kept_refused d.0 n refusal) d

-- ---- carried out, with none of these refusals

abbrev pub streamed : Machine → ℕ → StreamRequest → Machine
streamed m session Open = record m { streams = opened_by session m.streams; sessions = owning session m.sessions }
streamed m session (Resume n token) = record m { streams = handed_to session n m.streams; sessions = owning session m.sessions }
streamed m session (Batch token writes) = m
streamed m session (Ask token) = m
streamed m session (Mixed n token writes) = m

abbrev pub resumed_answer : ℕ → Result Resumed StreamError → Answer
resumed_answer n (Ok (resumed.At finished)) = answer.Reply (stands_at n finished)
resumed_answer n (Ok (resumed.Repeat kept)) = answer.Reply (response_of n kept)
resumed_answer n (Err e) = answer.Refused (refusal_of (reason_of true e))

-- of a batch that isn't new, since that is a commit
abbrev pub known_answer : ℕ → Result Take StreamError → Answer
known_answer n (Ok (New stream)) = answer.InProgress 0
known_answer n (Ok (Repeat kept)) = answer.Reply (response_of n kept)
known_answer n (Ok (InProgress finished)) = answer.InProgress finished
known_answer n (Err e) = answer.Refused (refusal_of (reason_of true e))

abbrev pub asked_answer : Option (ℕ × ℕ) → Answer
asked_answer (Some own) = answer.Reply (stands_at own.0 own.1)
asked_answer None = answer.Refused (refusal_of reason.NoStream)

-- the number of a session's own stream
abbrev pub own_stream : Machine → ℕ → ℕ
own_stream m session = unwrap_or (get m.streams.owners session) 0

abbrev pub streamed_answer : Machine → ℕ → StreamRequest → Answer
streamed_answer m session Open = answer.Reply (stands_at (suc (length m.streams.opened)) 0)
streamed_answer m session (Resume n token) = resumed_answer n (resume_answer session n token m.streams)
streamed_answer m session (Batch token writes) = known_answer (own_stream m session) (take_of m session token)
streamed_answer m session (Ask token) = asked_answer (owned_by session m.streams)
streamed_answer m session (Mixed n token writes) = answer.Refused (refusal_of reason.NoStream)
