-- A request comes on a session: what it is answered at once, and the state afterwards. The rules of queries are tested first, then
-- limits; of a target, its id and its token too. Then it draws its number, if it draws one. Next its transaction or its stream is tested, or
-- the time that is to be read, then whether it has to wait, which as many do as may. What is left is carried out: then a commit may be
-- aborted, or it may be that no document is there. A batch that is the next of its stream is a commit in all this.
use Rattle.std.specs.Prelude.{ℕ, ◌+◌, List, [], ◌∷◌, ◌++◌, Option, Some, None, option_map, length, nat_le, codes, if◌then◌else◌}
use Rattle.fs_request.specs.declared.message.Message.TheVariants as message
use Rattle.fs_request.specs.declared.options.TransactionOptions.{TransactionOptions}
use Rattle.fs_request.specs.declared.options.TransactionOptions.TheVariants.{ReadWrite, ReadOnly}
use Rattle.fs_request.specs.declared.request.Envelope.{Envelope}
use Rattle.fs_request.specs.declared.request.Request.{Request}
use Rattle.fs_request.specs.declared.request.Request.TheVariants.{Commit, GetDocument, BatchGetDocuments, RunQuery, BeginTransaction, Rollback, AddTarget, RemoveTarget}
use Rattle.fs_request.specs.declared.request.Request.TheVariants as request
use Rattle.fs_path.specs.Place.{member_place}
use Rattle.fs_path.specs.declared.place.Rule.TheVariants.{Q}
use Rattle.fs_query.specs.Asked.{Asked}
use Rattle.fs_query.specs.Rules.{rule_of_query}
use Rattle.fs_status.specs.Refusal.{at_limit, refusal_of}
use Rattle.fs_status.specs.declared.reason.Reason.TheVariants.{Rule}
use Rattle.fs_status.specs.declared.refusal.Refusal.{Refusal}
use Rattle.fs_write.specs.declared.write.Write.{Write}
use Rattle.fs_machine.specs.Behind.{behind}
use Rattle.fs_machine.specs.Commit.{author_refusal, commit_refusal, commit_retry_refusal, committed, committed_answer, unless_closed}
use Rattle.fs_machine.specs.Conflict.{plain_behind}
use Rattle.fs_machine.specs.Listen.{added_answer, adding_refusal, removed_answer, removing_refusal, token_time, unadded_answer, with_target, without_target}
use Rattle.fs_machine.specs.Numbered.{draws, number_of}
use Rattle.fs_machine.specs.Read.{batch_get_answer, get_answer, read_in, read_limit_refusal, read_time, reader_behind, run_answer, time_refusal, when_refusal}
use Rattle.fs_machine.specs.Refusing.{ids_refusal, outbox_refusal, passed}
use Rattle.fs_machine.specs.State.{Machine}
use Rattle.fs_machine.specs.Stream.{stream_check, stream_refusal, streamed, streamed_answer, taken_as, taken_by, taker}
use Rattle.fs_machine.specs.Transact.{closed_refusal, with_begun, with_ended}
use Rattle.fs_machine.specs.declared.answer.Answer.{Answer}
use Rattle.fs_machine.specs.declared.answer.Answer.TheVariants.{Reply, Held, Refused}
use Rattle.fs_machine.specs.declared.parked_request.ParkedRequest.{ParkedRequest}

-- ---- rules and limits

-- a query that breaks a rule is refused at its place; one that was read from JSON breaks none
abbrev pub query_refusal : Asked → Option Refusal
query_refusal query = option_map (λ rule. refusal_of (Rule (Q rule.number rule.count) (member_place (codes "runQuery") (codes "structuredQuery")))) (rule_of_query query)

abbrev pub begin_refusal : Machine → ℕ → Option Refusal
begin_refusal m session =
    outbox_refusal m session (passed (nat_le m.limits.transactions (length m.txns.open)) (codes "transactions") m.limits.transactions (ids_refusal m None))

-- at its arrival
abbrev pub arrival_refusal : Machine → ℕ → Request → Option Refusal
arrival_refusal m session (Commit database writes transaction) = commit_refusal m session writes transaction
arrival_refusal m session (GetDocument name mask when) = outbox_refusal m session (read_limit_refusal m when (GetDocument name mask when))
arrival_refusal m session (BatchGetDocuments database names mask when) = outbox_refusal m session (read_limit_refusal m when (BatchGetDocuments database names mask when))
arrival_refusal m session (RunQuery database query when) =
    unless_closed (query_refusal query) (outbox_refusal m session (read_limit_refusal m when (RunQuery database query when)))
arrival_refusal m session (BeginTransaction database options) = begin_refusal m session
arrival_refusal m session (Rollback database transaction) = outbox_refusal m session None
arrival_refusal m session (AddTarget database id t token) = adding_refusal m session id t token
arrival_refusal m session (RemoveTarget database id) = removing_refusal m session id
arrival_refusal m session (request.Write database asked) = stream_refusal m session asked

-- as it is tried again
abbrev pub retry_refusal : Machine → Request → Option Refusal
retry_refusal m (Commit database writes transaction) = commit_retry_refusal m writes transaction
retry_refusal m (GetDocument name mask when) = read_limit_refusal m when (GetDocument name mask when)
retry_refusal m (BatchGetDocuments database names mask when) = read_limit_refusal m when (BatchGetDocuments database names mask when)
retry_refusal m (RunQuery database query when) = read_limit_refusal m when (RunQuery database query when)
retry_refusal m (BeginTransaction database options) = None
retry_refusal m (Rollback database transaction) = None
retry_refusal m (AddTarget database id t token) = None
retry_refusal m (RemoveTarget database id) = None
retry_refusal m (request.Write database asked) = None

-- ---- its transaction or its stream, and the time that it reads

abbrev pub begin_time_refusal : Machine → TransactionOptions → Option Refusal
begin_time_refusal m ReadWrite = None
begin_time_refusal m (ReadOnly None) = None
begin_time_refusal m (ReadOnly (Some time)) = time_refusal m.past time

-- that of a session
abbrev pub check_refusal : Machine → ℕ → Request → Option Refusal
check_refusal m session (Commit database writes transaction) = author_refusal m writes transaction
check_refusal m session (GetDocument name mask when) = when_refusal m when
check_refusal m session (BatchGetDocuments database names mask when) = when_refusal m when
check_refusal m session (RunQuery database query when) = when_refusal m when
check_refusal m session (BeginTransaction database options) = begin_time_refusal m options
check_refusal m session (Rollback database transaction) = closed_refusal m.txns transaction
check_refusal m session (AddTarget database id t token) = None
check_refusal m session (RemoveTarget database id) = None
check_refusal m session (request.Write database asked) = stream_check m session asked

-- ---- whom it waits for

abbrev pub writer_behind : Machine → List Write → Option ℕ → Option ℕ
writer_behind m writes None = plain_behind m.config.mode m.past m.txns.open writes
writer_behind m writes (Some transaction) = behind m.past writes

abbrev pub held_by : Machine → Request → Option ℕ
held_by m (Commit database writes transaction) = writer_behind m writes transaction
held_by m (GetDocument name mask when) = reader_behind m when (GetDocument name mask when)
held_by m (BatchGetDocuments database names mask when) = reader_behind m when (BatchGetDocuments database names mask when)
held_by m (RunQuery database query when) = reader_behind m when (RunQuery database query when)
held_by m (BeginTransaction database options) = None
held_by m (Rollback database transaction) = None
held_by m (AddTarget database id t token) = None
held_by m (RemoveTarget database id) = None
held_by m (request.Write database asked) = None

-- ---- carried out

abbrev pub carried_by : Machine → ParkedRequest → Request → Machine
carried_by m r (Commit database writes transaction) = committed m r writes transaction
carried_by m r (GetDocument name mask when) = read_in m when (GetDocument name mask when)
carried_by m r (BatchGetDocuments database names mask when) = read_in m when (BatchGetDocuments database names mask when)
carried_by m r (RunQuery database query when) = read_in m when (RunQuery database query when)
carried_by m r (BeginTransaction database options) = with_begun m r.id options
carried_by m r (Rollback database transaction) = with_ended m transaction
carried_by m r (AddTarget database id t token) = with_target m r.session id t (token_time token)
carried_by m r (RemoveTarget database id) = without_target m r.session id
carried_by m r (request.Write database asked) = streamed m r.session asked

abbrev pub carried : Machine → ParkedRequest → Machine
carried m r = carried_by m r r.envelope.request

abbrev pub answer_by : Machine → ParkedRequest → Request → Answer
answer_by m r (Commit database writes transaction) = committed_answer m r writes transaction
answer_by m r (GetDocument name mask when) = get_answer m.past r.envelope.id name mask (read_time m when)
answer_by m r (BatchGetDocuments database names mask when) = batch_get_answer m.past r.envelope.id names mask (read_time m when)
answer_by m r (RunQuery database query when) = run_answer m.past r.envelope.id query (read_time m when)
answer_by m r (BeginTransaction database options) = Reply (message.BeginTransaction r.envelope.id r.id)
answer_by m r (Rollback database transaction) = Reply (message.Rollback r.envelope.id)
answer_by m r (AddTarget database id t token) = added_answer id
answer_by m r (RemoveTarget database id) = removed_answer id
answer_by m r (request.Write database asked) = streamed_answer m r.session asked

abbrev pub carried_answer : Machine → ParkedRequest → Answer
carried_answer m r = answer_by m r r.envelope.request

-- ---- what becomes of it

pub data Decision : Type 0 where
  refused : Refusal → Decision
  -- it waits for the commit or the transaction of this number
  held : ℕ → Decision
  goes_on : Decision

abbrev pub unless_refused : Option Refusal → Decision → Decision
unless_refused (Some refusal) d = refused refusal
unless_refused None d = d

abbrev pub unless_held : Option ℕ → Decision
unless_held None = goes_on
unless_held (Some id) = held id

-- one that would have to wait is refused where as many wait as may
abbrev pub unless_full : Machine → Decision → Decision
unless_full m (refused refusal) = refused refusal
unless_full m (held id) = if nat_le m.limits.parked (length m.parked) then refused (at_limit (codes "parked") m.limits.parked) else held id
unless_full m goes_on = goes_on

abbrev pub decision : Machine → ℕ → Request → Decision
decision m session r = unless_refused (check_refusal m session r) (unless_held (held_by m r))

abbrev pub decided_answer : Machine → ParkedRequest → Decision → Answer
decided_answer m r (refused refusal) = Refused refusal
decided_answer m r (held id) = Held id
decided_answer m r goes_on = carried_answer m r

-- ---- the event

-- the request with its number
abbrev pub numbered : Machine → ℕ → Envelope → ParkedRequest
numbered m session e = record { session = session; id = number_of m.numbers.ids e.request; stream = None; envelope = e }

-- and as the stream takes it, whose next batch it is
abbrev pub arrived : Machine → ℕ → Envelope → ParkedRequest
arrived m session e = taken_as (taker m session e.request) (numbered m session e)

-- with the number drawn, if it draws one
abbrev pub drawn : Machine → Request → Machine
drawn m r = if draws r then record m { numbers = record m.numbers { ids = m.numbers.ids + 1 } } else m

abbrev pub with_parked : Machine → ParkedRequest → Machine
with_parked m r = record m { parked = m.parked ++ r ∷ [] }

abbrev pub arrives : Machine → ParkedRequest → Decision → Machine
arrives m r (refused refusal) = m
arrives m r (held id) = with_parked m r
arrives m r goes_on = carried m r

-- a stream takes no batch that is refused
abbrev pub taken_unless : Decision → Option ℕ → Machine → Machine
taken_unless (refused refusal) stream m = m
taken_unless (held id) stream m = taken_by stream m
taken_unless goes_on stream m = taken_by stream m

abbrev pub comes : Machine → ParkedRequest → Decision → Machine
comes m r d = arrives (taken_unless d r.stream m) r d

abbrev pub asked_unless : Option Refusal → Machine → ParkedRequest → Machine
asked_unless (Some refusal) m r = m
asked_unless None m r = comes (drawn m r.envelope.request) r (unless_full m (decision m r.session r.envelope.request))

-- why it isn't carried out; a target that isn't added is told to be removed
abbrev pub refused_by : Machine → ℕ → Request → Refusal → Answer
refused_by m session (AddTarget database id t token) refusal = unadded_answer m session id refusal
refused_by m session (Commit database writes transaction) refusal = Refused refusal
refused_by m session (GetDocument name mask when) refusal = Refused refusal
refused_by m session (BatchGetDocuments database names mask when) refusal = Refused refusal
refused_by m session (RunQuery database query when) refusal = Refused refusal
refused_by m session (BeginTransaction database options) refusal = Refused refusal
refused_by m session (Rollback database transaction) refusal = Refused refusal
refused_by m session (RemoveTarget database id) refusal = Refused refusal
refused_by m session (request.Write database asked) refusal = Refused refusal

abbrev pub answered_unless : Option Refusal → Machine → ParkedRequest → Answer
answered_unless (Some refusal) m r = refused_by m r.session r.envelope.request refusal
answered_unless None m r = decided_answer (drawn m r.envelope.request) r (unless_full m (decision m r.session r.envelope.request))

abbrev pub asked : Machine → ℕ → Envelope → Machine
asked m session e = asked_unless (arrival_refusal m session e.request) m (arrived m session e)

abbrev pub answered : Machine → ℕ → Envelope → Answer
answered m session e = answered_unless (arrival_refusal m session e.request) m (arrived m session e)
