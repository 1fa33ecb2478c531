-- No definition of an answer is the refusal for want of memory.
use Rattle.std.proofs.Common.{◌≡◌, ℕ, suc, ℤ, Bool, true, false, cond, List, [], ◌∷◌, Option, Some, None, option_map, Result, Ok, Err, ap, length, pos}
use Rattle.std.specs.Prelude.{◌==◌, codes, negsuc, not, nat_le, nat_lt, int_lt, slice_get, sum_by, ◌+◌}
use Rattle.std.specs.FinMap.{get, len}
use Rattle.fs_history.specs.Bytes.{commit_size, shown_size}
use Rattle.fs_history.specs.History.{at}
use Rattle.fs_history.specs.declared.read.Read.{Read}
use Rattle.fs_path.specs.Place.{member_place}
use Rattle.fs_path.specs.declared.field.FieldPath.{FieldPath}
use Rattle.fs_path.specs.declared.place.Rule.{Rule}
use Rattle.fs_path.specs.declared.place.Rule.TheVariants.{Q}
use Rattle.fs_query.specs.Rules.{rule_of_query}
use Rattle.fs_query.specs.declared.listen.ListenMessage.TheVariants as listen
use Rattle.fs_query.specs.declared.rule.QueryRule.{QueryRule}
use Rattle.fs_query.specs.declared.target.Target.{Target}
use Rattle.fs_query.specs.declared.target.Target.TheVariants as target
use Rattle.fs_request.specs.declared.message.Message.{Message}
use Rattle.fs_request.specs.declared.message.Message.TheVariants as message
use Rattle.fs_request.specs.declared.options.TransactionOptions.{TransactionOptions}
use Rattle.fs_request.specs.declared.options.TransactionOptions.TheVariants as options
use Rattle.fs_request.specs.declared.request.Envelope.{Envelope}
use Rattle.fs_request.specs.declared.request.Request.{Request}
use Rattle.fs_request.specs.declared.request.Request.TheVariants as request
use Rattle.fs_request.specs.declared.when.When.{When}
use Rattle.fs_request.specs.declared.when.When.TheVariants as when
use Rattle.fs_status.specs.Refusal.{at_limit, refusal_of}
use Rattle.fs_status.specs.declared.reason.Reason.{Reason}
use Rattle.fs_status.specs.declared.reason.Reason.TheVariants.{AtLimit, Conflict, Expired, Memory, NoDocument, NotOpen, ReadOnly, TargetInUse, TargetUnknown, TokenAhead, TooOld, TooNew}
use Rattle.fs_status.specs.declared.reason.Reason.TheVariants as reasons
use Rattle.fs_status.specs.declared.refusal.Refusal.{Refusal}
use Rattle.fs_token.specs.Token.{time_in}
use Rattle.fs_token.specs.declared.error.TokenError.{TokenError}
use Rattle.fs_token.specs.declared.error.TokenError.TheVariants.{BadLength, BadMark, BadTime}
use Rattle.fs_txn.specs.Reading.{shown_bytes}
use Rattle.fs_txn.specs.Transactions.{Transactions, expired_of, is_read_write, txn_of}
use Rattle.fs_txn.specs.declared.expired.Expired.{Expired as Gone}
use Rattle.fs_txn.specs.declared.txn.Txn.{Txn}
use Rattle.fs_value.specs.declared.document.Document.{Document}
use Rattle.fs_write.specs.declared.write.Write.{Write}
use Rattle.fs_machine.specs.Commit.{author_refusal, commit_refusal, committed_answer, committed_answer_in, committed_answer_unless, growth_refusal, number_refusal, only_reads, unless_closed, writing_refusal}
use Rattle.fs_machine.specs.Conflict.{conflict}
use Rattle.fs_machine.specs.Listen.{adding_refusal, cause_of, has_target, is_plain, is_target, listening_of, removed_answer, removing_refusal, rule_refusal, shown_refusal, target_query_place, target_refusal, targets_refusal, token_reason, token_refusal, unbuilt_name, unless_unbuilt, unless_used}
use Rattle.fs_machine.specs.Load.{load_floor, load_refusal, refusal_at, time_refusal as load_time_refusal}
use Rattle.fs_machine.specs.Past.{Past}
use Rattle.fs_machine.specs.Read.{batch_answers, document_answer, is_noted, query_answer, read_limit_refusal, read_time, refusal_from, shown_at, time_refusal, when_refusal}
use Rattle.fs_machine.specs.Refusing.{ids_refusal, journal_count, journal_size, next_time, outbox_is_full, outbox_refusal, passed, reads_refusal, room_refusal, time_limit_refusal}
use Rattle.fs_machine.specs.Request.{Decision, answer_by, answered, answered_unless, arrival_refusal, arrived, begin_refusal, begin_time_refusal, check_refusal, decided_answer, decision, drawn, held_by, query_refusal, refused_by, retry_refusal, unless_full, unless_held, unless_refused}
use Rattle.fs_machine.specs.Retry.{retry_answer, retry_decision, tried_answer}
use Rattle.fs_machine.specs.State.{Machine}
use Rattle.fs_machine.specs.Transact.{closed_refusal, reads_had, refusal_unless}
use Rattle.fs_machine.specs.declared.answer.Answer.{Answer}
use Rattle.fs_machine.specs.declared.answer.Answer.TheVariants.{Reply, Refused}
use Rattle.fs_machine.specs.declared.parked_request.ParkedRequest.{ParkedRequest}
use Rattle.fs_listen.specs.Cuts.{is_loaded}
use Rattle.fs_listen.specs.Listening.{Listened}
use Rattle.fs_machine.specs.Sessions.{has_owned}
use Rattle.fs_machine.specs.Stream.{asked_answer, batch_refusal, has_stream, is_known, known_answer, own_stream, reason_of as stream_reason, resumed_answer, stream_check, stream_refusal, streamed_answer, take_of, unless_taken, unowned, writes_refusal}
use Rattle.fs_request.specs.declared.stream_request.StreamRequest.{StreamRequest}
use Rattle.fs_request.specs.declared.stream_request.StreamRequest.TheVariants.{Open, Resume, Batch, Ask, Mixed}
use Rattle.fs_stream.specs.Answers.{batch_of, by_owned, is_full, is_opened, missed, owns_other, resume_answer, resumed_of, resumption_told}
use Rattle.fs_stream.specs.Streams.{Streams, owned_by, stream_of}
use Rattle.fs_stream.specs.declared.error.StreamError.{StreamError}
use Rattle.fs_stream.specs.declared.error.StreamError.TheVariants as error
use Rattle.fs_stream.specs.declared.kept.Kept.{Kept}
use Rattle.fs_stream.specs.declared.stream.Stream.{Stream as WriteStream}
use Rattle.fs_stream.specs.declared.take.Resumed.{Resumed}
use Rattle.fs_stream.specs.declared.take.Resumed.TheVariants as resumed
use Rattle.fs_stream.specs.declared.take.Take.{Take}
use Rattle.fs_stream.specs.declared.take.Take.TheVariants.{New, Repeat, InProgress}
use Rattle.fs_server.specs.Loading.{answer_of}

abbrev IsOther : Reason → Type 0
IsOther r = r ≡ Memory → ⊥

reason_of : {r s : Refusal} → r ≡ s → r.reason ≡ s.reason
reason_of e = ap (λ (r : Refusal). r.reason) e

other_limit : (name : List ℕ) (n : ℕ) → IsOther (AtLimit name n)
other_limit name n e = cc

-- ---- sessions

-- ---- limits

abbrev AreOther : Option Refusal → Type 0
AreOther None = Unit {0}
AreOther (Some r) = IsOther r.reason

passed_other : (over : Bool) (name : List ℕ) (n : ℕ) (others : Option Refusal) → AreOther others → AreOther (passed over name n others)
passed_other true name n others rest = other_limit name n
passed_other false name n others rest = rest

closed_other : (first others : Option Refusal) → AreOther first → AreOther others → AreOther (unless_closed first others)
closed_other (Some refusal) others one rest = one
closed_other None others one rest = rest

if_other : (b : Bool) (o : Option Refusal) → AreOther o → AreOther (cond b o None)
if_other true o other = other
if_other false o other = tt

unless_other : (b : Bool) (o : Option Refusal) → AreOther o → AreOther (cond b None o)
unless_other true o other = tt
unless_other false o other = other

outbox_other : (m : Machine) (session : ℕ) (others : Option Refusal) → AreOther others → AreOther (outbox_refusal m session others)
outbox_other m session others rest = passed_other (outbox_is_full m session) (codes "outbox") m.limits.outbox others rest

time_limit_other : (m : Machine) → AreOther (time_limit_refusal m)
time_limit_other m = passed_other (int_lt (pos m.limits.time) (next_time m.past)) (codes "time") m.limits.time None tt

ids_other : (m : Machine) (others : Option Refusal) → AreOther others → AreOther (ids_refusal m others)
ids_other m others rest = passed_other (nat_le m.limits.ids m.numbers.ids) (codes "ids") m.limits.ids others rest

room_other : (m : Machine) (writes : List Write) (reads : List Read) (others : Option Refusal) → AreOther others → AreOther (room_refusal m writes reads others)
room_other m writes reads others rest =
    let large = passed (nat_lt m.limits.journal (journal_size m.past + commit_size writes reads)) (codes "journal") m.limits.journal others in
    passed_other (nat_le m.limits.batches (journal_count m.past)) (codes "batches") m.limits.batches large
    (passed_other (nat_lt m.limits.journal (journal_size m.past + commit_size writes reads)) (codes "journal") m.limits.journal others rest)

number_other : (m : Machine) (transaction : Option ℕ) (others : Option Refusal) → AreOther others → AreOther (number_refusal m transaction others)
number_other m None others rest = ids_other m others rest
number_other m (Some id) others rest = rest

growth_other : (m : Machine) (writes : List Write) (transaction : Option ℕ) (others : Option Refusal) → AreOther others → AreOther (growth_refusal m writes transaction others)
growth_other m writes transaction others rest =
    let reads = reads_had m.txns transaction in
    unless_other (only_reads m transaction) (room_refusal m writes reads others) (room_other m writes reads others rest)

commit_other : (m : Machine) (session : ℕ) (writes : List Write) (transaction : Option ℕ) → AreOther (commit_refusal m session writes transaction)
commit_other m session writes transaction =
    let number = number_refusal m transaction (time_limit_refusal m) in
    let growth = growth_refusal m writes transaction number in
    passed_other (nat_lt m.limits.writes (length writes)) (codes "writes") m.limits.writes (outbox_refusal m session growth)
    (outbox_other m session growth (growth_other m writes transaction number (number_other m transaction (time_limit_refusal m) (time_limit_other m))))

read_limit_other : (m : Machine) (w : When) (q : Request) → AreOther (read_limit_refusal m w q)
read_limit_other m w q =
    let reads = shown_at m w q in
    if_other (is_noted m w) (reads_refusal m reads) (passed_other (nat_lt m.limits.reads (shown_bytes m.txns + sum_by shown_size reads)) (codes "reads") m.limits.reads None tt)

rule_not_memory : (rule : Rule) (place : List ℕ) → IsOther (reasons.Rule rule place)
rule_not_memory rule place e = cc

rule_other : (place : List ℕ) (o : Option QueryRule) → AreOther (option_map (λ rule. refusal_of (reasons.Rule (Q rule.number rule.count) place)) o)
rule_other place None = tt
rule_other place (Some rule) = rule_not_memory (Q rule.number rule.count) place

begin_other : (m : Machine) (session : ℕ) → AreOther (begin_refusal m session)
begin_other m session =
    let many = passed (nat_le m.limits.transactions (length m.txns.open)) (codes "transactions") m.limits.transactions (ids_refusal m None) in
    outbox_other m session many (passed_other (nat_le m.limits.transactions (length m.txns.open)) (codes "transactions") m.limits.transactions (ids_refusal m None) (ids_other m None tt))

-- ---- targets

method_not_memory : (name : List ℕ) → IsOther (reasons.Method name)
method_not_memory name e = cc

unbuilt_other : (name : Option (List ℕ)) (others : Option Refusal) → AreOther others → AreOther (unless_unbuilt name others)
unbuilt_other (Some name) others rest = method_not_memory name
unbuilt_other None others rest = rest

target_other : (t : Target) → AreOther (target_refusal t)
target_other (target.Query q) = unbuilt_other (unbuilt_name q) (rule_refusal q) (rule_other target_query_place (rule_of_query q))
target_other (target.Documents names) = tt

token_not_memory : (e : TokenError) → IsOther (token_reason e)
token_not_memory (BadLength n) is = cc
token_not_memory BadMark is = cc
token_not_memory BadTime is = cc

ahead_not_memory : (released time : ℤ) → IsOther (TokenAhead time released)
ahead_not_memory released time is = cc

ahead_other : (released time : ℤ) (later : Bool) → AreOther (cond later (Some (refusal_of (TokenAhead time released))) None)
ahead_other released time true = ahead_not_memory released time
ahead_other released time false = tt

shown_other : (released : ℤ) (r : Result ℤ TokenError) → AreOther (shown_refusal released r)
shown_other released (Ok time) = ahead_other released time (int_lt released time)
shown_other released (Err e) = token_not_memory e

token_other : (m : Machine) (token : Option (List ℕ)) → AreOther (token_refusal m token)
token_other m None = tt
token_other m (Some bytes) = shown_other m.past.released (time_in bytes)

used_not_memory : (id : ℕ) → IsOther (TargetInUse id)
used_not_memory id is = cc

used_other : (used : Bool) (id : ℕ) (others : Option Refusal) → AreOther others → AreOther (unless_used used id others)
used_other true id others rest = used_not_memory id
used_other false id others rest = rest

adding_other : (m : Machine) (session id : ℕ) (t : Target) (token : Option (List ℕ)) → AreOther (adding_refusal m session id t token)
adding_other m session id t token =
    let used = unless_used (has_target m session id) id (token_refusal m token) in
    let numbers = passed (nat_le m.limits.ids m.numbers.targets) (codes "ids") m.limits.ids used in
    closed_other (target_refusal t) (outbox_refusal m session (targets_refusal m session used)) (target_other t)
    (outbox_other m session (targets_refusal m session used)
    (passed_other (nat_le m.limits.targets (len (listening_of m session).targets)) (codes "targets") m.limits.targets numbers
    (passed_other (nat_le m.limits.ids m.numbers.targets) (codes "ids") m.limits.ids used (used_other (has_target m session id) id (token_refusal m token) (token_other m token)))))

unknown_not_memory : (id : ℤ) → IsOther (TargetUnknown id)
unknown_not_memory id e = cc

unknown_other : (there : Bool) (id : ℤ) → AreOther (cond there None (Some (refusal_of (TargetUnknown id))))
unknown_other true id = tt
unknown_other false id = unknown_not_memory id

removing_other : (m : Machine) (session : ℕ) (id : ℤ) → AreOther (removing_refusal m session id)
removing_other m session id = outbox_other m session _ (unknown_other (is_target m session id) id)

-- ---- streams

abbrev ToldOther : {X : Type 0} → Result X StreamError → Type 0
ToldOther (Ok x) = Unit {0}
ToldOther (Err e) = (ever : Bool) → IsOther (stream_reason ever e)

unowned_other : (ever : Bool) → IsOther (unowned ever)
unowned_other true e = cc
unowned_other false e = cc

missed_other : (s : WriteStream) (known : ℕ) → ToldOther (missed s known)
missed_other s known = by_tests (known == s.finished) (suc known == s.finished) (nat_lt known s.finished) where
  told : Bool → Bool → Bool → Result (Option Kept) StreamError
  told now before behind = cond now (Ok None) (cond before (Ok s.kept) (cond behind (Err (error.Stale known s.finished)) (Err (error.Ahead known s.finished))))

  by_tests : (now before behind : Bool) → ToldOther (told now before behind)
  by_tests true before behind = tt
  by_tests false true behind = tt
  by_tests false false true = λ ever e. cc
  by_tests false false false = λ ever e. cc

batch_other : (n : ℕ) (s : WriteStream) (told : Result (Option Kept) StreamError) → ToldOther told → ToldOther (batch_of n s told)
batch_other n s (Err e) other = other
batch_other n s (Ok (Some kept)) other = tt
batch_other n s (Ok None) other = tt

owned_other : (m : Streams) (known : ℕ) (own : Option ℕ) → ToldOther (by_owned own known m)
owned_other m known None = unowned_other
owned_other m known (Some n) = batch_other n (stream_of n m) (missed (stream_of n m) known) (missed_other (stream_of n m) known)

take_other : (m : Machine) (session known : ℕ) → ToldOther (take_of m session known)
take_other m session known = owned_other m.streams known (get m.streams.owners session)

resumption_other : (s : WriteStream) (told : Result (Option Kept) StreamError) → ToldOther told → ToldOther (resumed_of s told)
resumption_other s (Err e) other = other
resumption_other s (Ok (Some kept)) other = tt
resumption_other s (Ok None) other = tt

resume_other : (m : Streams) (session n known : ℕ) → ToldOther (resume_answer session n known m)
resume_other m session n known = by_tests (not (is_opened n m)) (owns_other session n m) where
  resumed : Result Resumed StreamError
  resumed = resumption_told (stream_of n m) known

  told : Bool → Bool → Result Resumed StreamError
  told unknown other = cond unknown (Err (error.Unknown n)) (cond other (Err error.Second) resumed)

  by_tests : (unknown other : Bool) → ToldOther (told unknown other)
  by_tests true other = λ ever e. cc
  by_tests false true = λ ever e. cc
  by_tests false false = resumption_other (stream_of n m) (missed (stream_of n m) known) (missed_other (stream_of n m) known)

taken_other : {X : Type 0} (ever : Bool) (told : Result X StreamError) → ToldOther told → AreOther (unless_taken ever told)
taken_other ever (Ok x) other = tt
taken_other ever (Err e) other = other ever

second_not_memory : IsOther reasons.SecondStream
second_not_memory e = cc

no_stream_not_memory : IsOther reasons.NoStream
no_stream_not_memory e = cc

stream_check_other : (m : Machine) (session : ℕ) (asked : StreamRequest) → AreOther (stream_check m session asked)
stream_check_other m session Open = if_other (has_stream m session) (Some (refusal_of reasons.SecondStream)) second_not_memory
stream_check_other m session (Resume n token) = taken_other (has_owned session m.sessions) (resume_answer session n token m.streams) (resume_other m.streams session n token)
stream_check_other m session (Batch token writes) = taken_other (has_owned session m.sessions) (take_of m session token) (take_other m session token)
stream_check_other m session (Ask token) = unless_other (has_stream m session) (Some (refusal_of (unowned (has_owned session m.sessions)))) (unowned_other (has_owned session m.sessions))
stream_check_other m session (Mixed n token writes) = no_stream_not_memory

writes_other : (m : Machine) (writes : List Write) (others : Option Refusal) → AreOther others → AreOther (writes_refusal m writes others)
writes_other m writes others rest = passed_other (nat_lt m.limits.writes (length writes)) (codes "writes") m.limits.writes others rest

batch_limit_other : (m : Machine) (session : ℕ) (writes : List Write) (known : Bool) → AreOther (batch_refusal m session writes known)
batch_limit_other m session writes true = writes_other m writes (outbox_refusal m session (ids_refusal m None)) (outbox_other m session (ids_refusal m None) (ids_other m None tt))
batch_limit_other m session writes false = commit_other m session writes None

stream_limit_other : (m : Machine) (session : ℕ) (asked : StreamRequest) → AreOther (stream_refusal m session asked)
stream_limit_other m session Open =
    outbox_other m session (passed (is_full m.streams) (codes "streams") m.streams.limit None) (passed_other (is_full m.streams) (codes "streams") m.streams.limit None tt)
stream_limit_other m session (Resume n token) = outbox_other m session None tt
stream_limit_other m session (Batch token writes) = batch_limit_other m session writes (is_known (take_of m session token))
stream_limit_other m session (Ask token) = outbox_other m session None tt
stream_limit_other m session (Mixed n token writes) = writes_other m writes (outbox_refusal m session None) (outbox_other m session None tt)

-- ---- as they come, and as they are tried again

arrival_other : (m : Machine) (session : ℕ) (q : Request) → AreOther (arrival_refusal m session q)
arrival_other m session (request.Commit database writes transaction) = commit_other m session writes transaction
arrival_other m session (request.GetDocument name mask w) = outbox_other m session (read_limit_refusal m w (request.GetDocument name mask w)) (read_limit_other m w (request.GetDocument name mask w))
arrival_other m session (request.BatchGetDocuments database names mask w) =
    outbox_other m session (read_limit_refusal m w (request.BatchGetDocuments database names mask w)) (read_limit_other m w (request.BatchGetDocuments database names mask w))
arrival_other m session (request.RunQuery database query w) =
    let limit = read_limit_refusal m w (request.RunQuery database query w) in
    closed_other (query_refusal query) (outbox_refusal m session limit) (rule_other (member_place (codes "runQuery") (codes "structuredQuery")) (rule_of_query query)) (outbox_other m session limit (read_limit_other m w (request.RunQuery database query w)))
arrival_other m session (request.BeginTransaction database o) = begin_other m session
arrival_other m session (request.Rollback database transaction) = outbox_other m session None tt
arrival_other m session (request.AddTarget database id t token) = adding_other m session id t token
arrival_other m session (request.RemoveTarget database id) = removing_other m session id
arrival_other m session (request.Write database asked) = stream_limit_other m session asked

retry_other : (m : Machine) (q : Request) → AreOther (retry_refusal m q)
retry_other m (request.Commit database writes transaction) = growth_other m writes transaction (time_limit_refusal m) (time_limit_other m)
retry_other m (request.GetDocument name mask w) = read_limit_other m w (request.GetDocument name mask w)
retry_other m (request.BatchGetDocuments database names mask w) = read_limit_other m w (request.BatchGetDocuments database names mask w)
retry_other m (request.RunQuery database query w) = read_limit_other m w (request.RunQuery database query w)
retry_other m (request.BeginTransaction database o) = tt
retry_other m (request.Rollback database transaction) = tt
retry_other m (request.AddTarget database id t token) = tt
retry_other m (request.RemoveTarget database id) = tt
retry_other m (request.Write database asked) = tt

-- ---- transactions and times

expired_not_memory : (id : ℕ) (since now : ℤ) → IsOther (Expired id since now)
expired_not_memory id since now e = cc

not_open_not_memory : (id : ℕ) → IsOther (NotOpen id)
not_open_not_memory id e = cc

gone_other : (id : ℕ) (gone : Option Gone) (found : Option Txn) → AreOther (refusal_unless id gone found)
gone_other id gone (Some t) = tt
gone_other id (Some e) None = expired_not_memory id e.since e.now
gone_other id None None = not_open_not_memory id

open_one_other : (ts : Transactions) (id : ℕ) → AreOther (closed_refusal ts id)
open_one_other ts id = gone_other id (expired_of id ts.expired) (txn_of id ts.open)

read_only_not_memory : (id : ℕ) → IsOther (ReadOnly id)
read_only_not_memory id e = cc

writing_other : (writes : List Write) (id : ℕ) (reads : Bool) → AreOther (writing_refusal writes id reads)
writing_other [] id reads = tt
writing_other (w ∷ writes) id true = read_only_not_memory id
writing_other (w ∷ writes) id false = tt

author_other : (m : Machine) (writes : List Write) (transaction : Option ℕ) → AreOther (author_refusal m writes transaction)
author_other m writes None = tt
author_other m writes (Some id) =
    closed_other (closed_refusal m.txns id) (writing_refusal writes id (only_reads m (Some id))) (open_one_other m.txns id) (writing_other writes id (only_reads m (Some id)))

either_other : (b c : Bool) (old new : Reason) → IsOther old → IsOther new → AreOther (cond b (Some (refusal_of old)) (cond c (Some (refusal_of new)) None))
either_other true c old new o n = o
either_other false true old new o n = n
either_other false false old new o n = tt

too_old : (t floor : ℤ) → IsOther (TooOld t floor)
too_old t floor e = cc

too_new : (t released : ℤ) → IsOther (TooNew t released)
too_new t released e = cc

from_other : (from : ℤ) (p : Past) (t : ℤ) → AreOther (refusal_from from p t)
from_other from p t = either_other (int_lt t from) (int_lt p.released t) (TooOld t from) (TooNew t p.released) (too_old t from) (too_new t p.released)

time_other : (p : Past) (t : ℤ) → AreOther (time_refusal p t)
time_other p t = from_other p.floor p t

when_other : (m : Machine) (w : When) → AreOther (when_refusal m w)
when_other m when.Released = tt
when_other m (when.At time) = time_other m.past time
when_other m (when.In id) = open_one_other m.txns id

begin_time_other : (m : Machine) (o : TransactionOptions) → AreOther (begin_time_refusal m o)
begin_time_other m options.ReadWrite = tt
begin_time_other m (options.ReadOnly None) = tt
begin_time_other m (options.ReadOnly (Some time)) = time_other m.past time

check_other : (m : Machine) (session : ℕ) (q : Request) → AreOther (check_refusal m session q)
check_other m session (request.Commit database writes transaction) = author_other m writes transaction
check_other m session (request.GetDocument name mask w) = when_other m w
check_other m session (request.BatchGetDocuments database names mask w) = when_other m w
check_other m session (request.RunQuery database query w) = when_other m w
check_other m session (request.BeginTransaction database o) = begin_time_other m o
check_other m session (request.Rollback database transaction) = open_one_other m.txns transaction
check_other m session (request.AddTarget database id t token) = tt
check_other m session (request.RemoveTarget database id) = tt
check_other m session (request.Write database asked) = stream_check_other m session asked

-- ---- answers

abbrev IsNot : Answer → Type 0
IsNot a = a ≡ Refused (refusal_of Memory) → ⊥

refused_reason : {r s : Refusal} → Refused r ≡ Refused s → r.reason ≡ s.reason
refused_reason {r} {s} e = let same : r ≡ s = cc in reason_of same

reply_not : (reply : Message) → IsNot (Reply reply)
reply_not reply e = cc

conflict_not_memory : (id : ℕ) → IsOther (Conflict id)
conflict_not_memory id e = cc

unless_not : (m : Machine) (t : Txn) (found : Option ℕ) → IsNot (committed_answer_unless m t found)
unless_not m t (Some other) e = conflict_not_memory other (refused_reason e)
unless_not m t None e = cc

if_not : (m : Machine) (r : ParkedRequest) (writes : List Write) (t : Txn) (b : Bool)
    → IsNot (cond b (committed_answer_unless m t (conflict m.config.mode m.past m.txns.open t writes)) (Reply (message.Commit r.envelope.id t.read_time [])))
if_not m r writes t true = unless_not m t (conflict m.config.mode m.past m.txns.open t writes)
if_not m r writes t false = reply_not (message.Commit r.envelope.id t.read_time [])

in_not : (m : Machine) (r : ParkedRequest) (writes : List Write) (found : Option Txn) → IsNot (committed_answer_in m r writes found)
in_not m r writes None e = cc
in_not m r writes (Some t) e = if_not m r writes t (is_read_write t.kind) e

committed_not : (m : Machine) (r : ParkedRequest) (writes : List Write) (transaction : Option ℕ) → IsNot (committed_answer m r writes transaction)
committed_not m r writes None e = cc
committed_not m r writes (Some id) e = in_not m r writes (txn_of id m.txns.open) e

no_document : (t : ℤ) → IsOther (NoDocument t)
no_document t e = cc

document_not : (id : Option (List ℕ)) (t : ℤ) (mask : Option (List FieldPath)) (o : Option Document) → IsNot (document_answer id t mask o)
document_not id t mask None e = no_document t (refused_reason e)
document_not id t mask (Some d) e = cc

unknown_not : (id : ℤ) → IsNot (Refused (refusal_of (TargetUnknown id)))
unknown_not id e = unknown_not_memory id (refused_reason e)

removed_not : (id : ℤ) → IsNot (removed_answer id)
removed_not (pos id) = reply_not (message.Listen (listen.Remove (id ∷ []) None))
removed_not (negsuc id) = unknown_not (negsuc id)

resumed_not : (n : ℕ) (told : Result Resumed StreamError) → ToldOther told → IsNot (resumed_answer n told)
resumed_not n (Ok (resumed.At finished)) other e = cc
resumed_not n (Ok (resumed.Repeat kept)) other e = cc
resumed_not n (Err f) other e = other true (refused_reason e)

known_not : (n : ℕ) (told : Result Take StreamError) → ToldOther told → IsNot (known_answer n told)
known_not n (Ok (New stream)) other e = cc
known_not n (Ok (Repeat kept)) other e = cc
known_not n (Ok (InProgress finished)) other e = cc
known_not n (Err f) other e = other true (refused_reason e)

asked_not : (own : Option (ℕ × ℕ)) → IsNot (asked_answer own)
asked_not (Some own) e = cc
asked_not None e = no_stream_not_memory (refused_reason e)

streamed_not : (m : Machine) (session : ℕ) (asked : StreamRequest) → IsNot (streamed_answer m session asked)
streamed_not m session Open e = cc
streamed_not m session (Resume n token) e = resumed_not n (resume_answer session n token m.streams) (resume_other m.streams session n token) e
streamed_not m session (Batch token writes) e = known_not (own_stream m session) (take_of m session token) (take_other m session token) e
streamed_not m session (Ask token) e = asked_not (owned_by session m.streams) e
streamed_not m session (Mixed n token writes) e = no_stream_not_memory (refused_reason e)

carried_not : (m : Machine) (r : ParkedRequest) (q : Request) → IsNot (answer_by m r q)
carried_not m r (request.Commit database writes transaction) = committed_not m r writes transaction
carried_not m r (request.GetDocument name mask w) = let t = read_time m w in document_not r.envelope.id t mask (get (at m.past.history t) name)
carried_not m r (request.BatchGetDocuments database names mask w) = let t = read_time m w in reply_not (message.BatchGetDocuments r.envelope.id (batch_answers (at m.past.history t) t mask names))
carried_not m r (request.RunQuery database query w) = let t = read_time m w in reply_not (message.RunQuery r.envelope.id (query_answer (at m.past.history t) query) t)
carried_not m r (request.BeginTransaction database o) = reply_not (message.BeginTransaction r.envelope.id r.id)
carried_not m r (request.Rollback database transaction) = reply_not (message.Rollback r.envelope.id)
carried_not m r (request.AddTarget database id t token) = reply_not (message.Listen (listen.Add (id ∷ [])))
carried_not m r (request.RemoveTarget database id) = removed_not id
carried_not m r (request.Write database asked) = streamed_not m r.session asked

-- ---- what becomes of a request

abbrev AreNot : Decision → Type 0
AreNot (Decision.refused refusal) = IsOther refusal.reason
AreNot (Decision.held id) = Unit {0}
AreNot Decision.goes_on = Unit {0}

held_not : (found : Option ℕ) → AreNot (unless_held found)
held_not None = tt
held_not (Some id) = tt

refused_not : (o : Option Refusal) (d : Decision) → AreOther o → AreNot d → AreNot (unless_refused o d)
refused_not (Some refusal) d other rest = other
refused_not None d other rest = rest

decision_not : (m : Machine) (session : ℕ) (q : Request) → AreNot (decision m session q)
decision_not m session q = refused_not (check_refusal m session q) (unless_held (held_by m q)) (check_other m session q) (held_not (held_by m q))

full_by : (m : Machine) (id : ℕ) (b : Bool) → AreNot (cond b (Decision.refused (at_limit (codes "parked") m.limits.parked)) (Decision.held id))
full_by m id true = other_limit (codes "parked") m.limits.parked
full_by m id false = tt

full_not : (m : Machine) (d : Decision) → AreNot d → AreNot (unless_full m d)
full_not m (Decision.refused refusal) other = other
full_not m (Decision.held id) other = full_by m id (nat_le m.limits.parked (length m.parked))
full_not m Decision.goes_on other = tt

decided_not : (m : Machine) (r : ParkedRequest) (d : Decision) → AreNot d → IsNot (decided_answer m r d)
decided_not m r (Decision.refused refusal) other e = other (refused_reason e)
decided_not m r (Decision.held id) other e = cc
decided_not m r Decision.goes_on other e = carried_not m r r.envelope.request e

refusal_not : (refusal : Refusal) → IsOther refusal.reason → IsNot (Refused refusal)
refusal_not refusal other e = other (refused_reason e)

told_not : (there : Bool) (id : ℕ) (refusal : Refusal) → IsOther refusal.reason → IsNot (cond there (Refused refusal) (Reply (message.Listen (listen.Remove (id ∷ []) (Some (cause_of refusal))))))
told_not true id refusal other = refusal_not refusal other
told_not false id refusal other = reply_not (message.Listen (listen.Remove (id ∷ []) (Some (cause_of refusal))))

unadded_not : (rule there : Bool) (id : ℕ) (refusal : Refusal) → IsOther refusal.reason
    → IsNot (cond rule (Refused refusal) (cond there (Refused refusal) (Reply (message.Listen (listen.Remove (id ∷ []) (Some (cause_of refusal)))))))
unadded_not true there id refusal other = refusal_not refusal other
unadded_not false there id refusal other = told_not there id refusal other

refused_by_not : (m : Machine) (session : ℕ) (q : Request) (refusal : Refusal) → IsOther refusal.reason → IsNot (refused_by m session q refusal)
refused_by_not m session (request.AddTarget database id t token) refusal other = unadded_not (is_plain refusal.reason) (has_target m session id) id refusal other
refused_by_not m session (request.Commit database writes transaction) refusal other = refusal_not refusal other
refused_by_not m session (request.GetDocument name mask w) refusal other = refusal_not refusal other
refused_by_not m session (request.BatchGetDocuments database names mask w) refusal other = refusal_not refusal other
refused_by_not m session (request.RunQuery database query w) refusal other = refusal_not refusal other
refused_by_not m session (request.BeginTransaction database o) refusal other = refusal_not refusal other
refused_by_not m session (request.Rollback database transaction) refusal other = refusal_not refusal other
refused_by_not m session (request.RemoveTarget database id) refusal other = refusal_not refusal other
refused_by_not m session (request.Write database asked) refusal other = refusal_not refusal other

answered_not : (m : Machine) (r : ParkedRequest) (o : Option Refusal) → AreOther o → IsNot (answered_unless o m r)
answered_not m r (Some refusal) other = refused_by_not m r.session r.envelope.request refusal other
answered_not m r None other =
    decided_not (drawn m r.envelope.request) r (unless_full m (decision m r.session r.envelope.request)) (full_not m (decision m r.session r.envelope.request) (decision_not m r.session r.envelope.request))

pub request_not : (m : Machine) (session : ℕ) (e : Envelope) → IsNot (answered m session e)
request_not m session e = answered_not m (arrived m session e) (arrival_refusal m session e.request) (arrival_other m session e.request)

tried_not : (m : Machine) (r : ParkedRequest) → IsNot (tried_answer m r)
tried_not m r =
    let q = r.envelope.request in
    decided_not m r (retry_decision m r.session q) (refused_not (retry_refusal m q) (decision m r.session q) (retry_other m q) (decision_not m r.session q))

found_not : (m : Machine) (found : Option ParkedRequest) → Some (Refused (refusal_of Memory)) ≡ option_map (tried_answer m) found → ⊥
found_not m None e = cc
found_not m (Some r) e = let same : tried_answer m r ≡ Refused (refusal_of Memory) = cc in tried_not m r same

pub retry_not : (m : Machine) (place : ℕ) → Some (Refused (refusal_of Memory)) ≡ retry_answer m place → ⊥
retry_not m place e = found_not m (slice_get m.parked place) e

-- ---- a load

load_time_other : (p : Past) (l : Listened) (at_time : Option ℤ) → AreOther (load_time_refusal p l at_time)
load_time_other p l None = tt
load_time_other p l (Some t) = from_other (load_floor p.floor l.token) p t

refusal_at_other : (p : Past) (target : ℕ) (at_time : Option ℤ) (o : Option Listened) → AreOther (refusal_at p target at_time o)
refusal_at_other p target at_time None = unknown_not_memory (pos target)
refusal_at_other p target at_time (Some l) = unless_other (is_loaded l.loaded) (load_time_refusal p l at_time) (load_time_other p l at_time)

load_answer_not : (o : Option Refusal) → AreOther o → answer_of o ≡ Err (refusal_of Memory) → ⊥
load_answer_not None other e = cc
load_answer_not (Some refusal) other e = let same : refusal ≡ refusal_of Memory = cc in other (reason_of same)

pub load_not : (m : Machine) (session target : ℕ) (at_time : Option ℤ) → answer_of (load_refusal m session target at_time) ≡ Err (refusal_of Memory) → ⊥
load_not m session target at_time e =
    load_answer_not (load_refusal m session target at_time) (refusal_at_other m.past target at_time (get (listening_of m session).targets target)) e
