-- No refusal but that of an abort is ABORTED, and only a commit is answered that it is pending. So an answer that a request waits,
-- that its commit is pending, or that it is aborted, comes from nowhere else.
use Rattle.std.proofs.Common.{◌≡◌, ℕ, ℤ, Bool, true, false, cond, List, [], ◌∷◌, Option, Some, None, Result, Ok, Err, option_map, refl, subst}
use Rattle.std.specs.Prelude.{⊤, ◌+◌, pos, negsuc, codes, int_lt, length, nat_le, nat_lt, sum_by}
use Rattle.std.specs.FinMap.{get, len}
use Rattle.fs_history.specs.Bytes.{commit_size, shown_size}
use Rattle.fs_history.specs.History.{at}
use Rattle.fs_history.specs.declared.read.Read.{Read}
use Rattle.fs_path.specs.declared.field.FieldPath.{FieldPath}
use Rattle.fs_query.specs.Asked.{Asked}
use Rattle.fs_query.specs.Rules.{rule_of_query}
use Rattle.fs_query.specs.declared.target.Target.{Target}
use Rattle.fs_query.specs.declared.target.Target.TheVariants as target
use Rattle.fs_request.specs.declared.options.TransactionOptions.{TransactionOptions}
use Rattle.fs_request.specs.declared.options.TransactionOptions.TheVariants as options
use Rattle.fs_request.specs.declared.request.Request.{Request}
use Rattle.fs_request.specs.declared.request.Request.TheVariants.{Commit, GetDocument, BatchGetDocuments, RunQuery, BeginTransaction, Rollback, AddTarget, RemoveTarget}
use Rattle.fs_request.specs.declared.request.Request.TheVariants as request
use Rattle.fs_request.specs.declared.stream_request.StreamRequest.{StreamRequest}
use Rattle.fs_request.specs.declared.stream_request.StreamRequest.TheVariants.{Open, Resume, Batch, Ask, Mixed}
use Rattle.fs_request.specs.declared.when.When.{When}
use Rattle.fs_request.specs.declared.when.When.TheVariants.{Released, At, In}
use Rattle.fs_status.specs.Reason.{code_of}
use Rattle.fs_status.specs.Refusal.{conflict_with, refusal_of}
use Rattle.fs_status.specs.declared.code.Code.{Code}
use Rattle.fs_status.specs.declared.code.Code.TheVariants.{InvalidArgument, FailedPrecondition, NotFound, AlreadyExists, Aborted, ResourceExhausted, Unimplemented, OutOfMemory}
use Rattle.fs_status.specs.declared.reason.Reason.TheVariants as reason
use Rattle.fs_status.specs.declared.refusal.Refusal.{Refusal}
use Rattle.fs_stream.specs.Answers.{is_full, resume_answer}
use Rattle.fs_stream.specs.Streams.{owned_by}
use Rattle.fs_stream.specs.declared.error.StreamError.{StreamError}
use Rattle.fs_stream.specs.declared.error.StreamError.TheVariants as error
use Rattle.fs_stream.specs.declared.take.Resumed.{Resumed}
use Rattle.fs_stream.specs.declared.take.Resumed.TheVariants as resumed
use Rattle.fs_stream.specs.declared.take.Take.{Take}
use Rattle.fs_stream.specs.declared.take.Take.TheVariants.{New, Repeat, InProgress}
use Rattle.fs_token.specs.Token.{time_in}
use Rattle.fs_token.specs.declared.error.TokenError.{TokenError}
use Rattle.fs_token.specs.declared.error.TokenError.TheVariants.{BadLength, BadMark, BadTime}
use Rattle.fs_txn.specs.Reading.{shown_bytes}
use Rattle.fs_txn.specs.Transactions.{Transactions, expired_of, txn_of}
use Rattle.fs_txn.specs.declared.expired.Expired.{Expired as Gone}
use Rattle.fs_txn.specs.declared.txn.Txn.{Txn}
use Rattle.fs_value.specs.declared.document.Document.{Document}
use Rattle.fs_write.specs.declared.write.Write.{Write}
use Rattle.fs_machine.specs.Commit.{author_refusal, commit_refusal, growth_refusal, number_refusal, only_reads, unless_closed, writing_refusal}
use Rattle.fs_machine.specs.Listen.{adding_refusal, has_target, is_plain, is_target, listening_of, removed_answer, removing_refusal, rule_refusal, shown_refusal, target_refusal, targets_refusal, token_refusal, unbuilt_name, unless_unbuilt, unless_used}
use Rattle.fs_machine.specs.Past.{Past}
use Rattle.fs_machine.specs.Read.{document_answer, is_noted, read_limit_refusal, read_time, shown_at, time_refusal, when_refusal}
use Rattle.fs_machine.specs.Refusing.{ids_refusal, journal_count, journal_size, next_time, outbox_is_full, outbox_refusal, passed, reads_refusal, room_refusal, time_limit_refusal}
use Rattle.fs_machine.specs.Request.{answer_by, arrival_refusal, begin_refusal, begin_time_refusal, check_refusal, query_refusal, refused_by, retry_refusal}
use Rattle.fs_machine.specs.Sessions.{has_owned}
use Rattle.fs_machine.specs.State.{Machine}
use Rattle.fs_machine.specs.Stream.{asked_answer, batch_refusal, has_stream, is_known, known_answer, own_stream, resumed_answer, stream_check, stream_refusal, streamed_answer, take_of, unless_taken, writes_refusal, reason_of, unowned}
use Rattle.fs_machine.specs.Transact.{closed_refusal, gone_refusal, reads_had, refusal_unless}
use Rattle.fs_machine.specs.declared.answer.Answer.{Answer}
use Rattle.fs_machine.specs.declared.answer.Answer.TheVariants as answer
use Rattle.fs_machine.specs.declared.parked_request.ParkedRequest.{ParkedRequest}

-- ---- refusals

abbrev pub is_aborted : Code → Bool
is_aborted Aborted = true
is_aborted InvalidArgument = false
is_aborted FailedPrecondition = false
is_aborted NotFound = false
is_aborted AlreadyExists = false
is_aborted ResourceExhausted = false
is_aborted Unimplemented = false
is_aborted OutOfMemory = false

-- it isn't ABORTED, if there is one
abbrev pub IsNoAbort : Option Refusal → Type 0
IsNoAbort None = ⊤
IsNoAbort (Some refusal) = is_aborted refusal.code ≡ false

none_passed : (over : Bool) (name : List ℕ) (number : ℕ) (others : Option Refusal) → IsNoAbort others → IsNoAbort (passed over name number others)
none_passed true name number others none = refl
none_passed false name number others none = none

none_unless : (b : Bool) (others : Option Refusal) → IsNoAbort others → IsNoAbort (cond b None others)
none_unless true others none = tt
none_unless false others none = none

none_where : (b : Bool) (others : Option Refusal) → IsNoAbort others → IsNoAbort (cond b others None)
none_where true others none = none
none_where false others none = tt

none_first : (first others : Option Refusal) → IsNoAbort first → IsNoAbort others → IsNoAbort (unless_closed first others)
none_first (Some refusal) others none more = none
none_first None others none more = more

none_outbox : (m : Machine) (session : ℕ) (others : Option Refusal) → IsNoAbort others → IsNoAbort (outbox_refusal m session others)
none_outbox m session others none = none_passed (outbox_is_full m session) (codes "outbox") m.limits.outbox others none

none_room : (m : Machine) (ws : List Write) (rs : List Read) (others : Option Refusal) → IsNoAbort others → IsNoAbort (room_refusal m ws rs others)
none_room m ws rs others none =
    none_passed (nat_le m.limits.batches (journal_count m.past)) (codes "batches") m.limits.batches
    (passed (nat_lt m.limits.journal (journal_size m.past + commit_size ws rs)) (codes "journal") m.limits.journal others)
    (none_passed (nat_lt m.limits.journal (journal_size m.past + commit_size ws rs)) (codes "journal") m.limits.journal others none)

none_ids : (m : Machine) (others : Option Refusal) → IsNoAbort others → IsNoAbort (ids_refusal m others)
none_ids m others none = none_passed (nat_le m.limits.ids m.numbers.ids) (codes "ids") m.limits.ids others none

none_time : (m : Machine) → IsNoAbort (time_limit_refusal m)
none_time m = none_passed (int_lt (pos m.limits.time) (next_time m.past)) (codes "time") m.limits.time None tt

none_reads : (m : Machine) (rs : List Read) → IsNoAbort (reads_refusal m rs)
none_reads m rs = none_passed (nat_lt m.limits.reads (shown_bytes m.txns + sum_by shown_size rs)) (codes "reads") m.limits.reads None tt

none_number : (m : Machine) (transaction : Option ℕ) (others : Option Refusal) → IsNoAbort others → IsNoAbort (number_refusal m transaction others)
none_number m None others none = none_ids m others none
none_number m (Some id) others none = none

none_growth : (m : Machine) (ws : List Write) (transaction : Option ℕ) (others : Option Refusal) → IsNoAbort others → IsNoAbort (growth_refusal m ws transaction others)
none_growth m ws transaction others none =
    none_unless (only_reads m transaction) (room_refusal m ws (reads_had m.txns transaction) others) (none_room m ws (reads_had m.txns transaction) others none)

none_writes : (m : Machine) (ws : List Write) (others : Option Refusal) → IsNoAbort others → IsNoAbort (writes_refusal m ws others)
none_writes m ws others none = none_passed (nat_lt m.limits.writes (length ws)) (codes "writes") m.limits.writes others none

none_commit : (m : Machine) (session : ℕ) (ws : List Write) (transaction : Option ℕ) → IsNoAbort (commit_refusal m session ws transaction)
none_commit m session ws transaction =
    let number = number_refusal m transaction (time_limit_refusal m) in
    let growth = growth_refusal m ws transaction number in
    none_writes m ws (outbox_refusal m session growth)
    (none_outbox m session growth (none_growth m ws transaction number (none_number m transaction (time_limit_refusal m) (none_time m))))

none_read_limit : (m : Machine) (when : When) (q : Request) → IsNoAbort (read_limit_refusal m when q)
none_read_limit m when q = none_where (is_noted m when) (reads_refusal m (shown_at m when q)) (none_reads m (shown_at m when q))

none_read : (m : Machine) (session : ℕ) (when : When) (q : Request) → IsNoAbort (outbox_refusal m session (read_limit_refusal m when q))
none_read m session when q = none_outbox m session (read_limit_refusal m when q) (none_read_limit m when q)

none_of : {A : Type 0} (f : A → Refusal) (o : Option A) → ((x : A) → is_aborted (f x).code ≡ false) → IsNoAbort (option_map f o)
none_of f None none = tt
none_of f (Some x) none = none x

none_query : (query : Asked) → IsNoAbort (query_refusal query)
none_query query = none_of _ (rule_of_query query) (λ rule. refl)

none_begin : (m : Machine) (session : ℕ) → IsNoAbort (begin_refusal m session)
none_begin m session =
    let others = passed (nat_le m.limits.transactions (length m.txns.open)) (codes "transactions") m.limits.transactions (ids_refusal m None) in
    none_outbox m session others (none_passed (nat_le m.limits.transactions (length m.txns.open)) (codes "transactions") m.limits.transactions (ids_refusal m None) (none_ids m None tt))

-- ---- those of targets

none_unbuilt : (name : Option (List ℕ)) (others : Option Refusal) → IsNoAbort others → IsNoAbort (unless_unbuilt name others)
none_unbuilt (Some name) others none = refl
none_unbuilt None others none = none

none_target : (t : Target) → IsNoAbort (target_refusal t)
none_target (target.Query q) = none_unbuilt (unbuilt_name q) (rule_refusal q) (none_of _ (rule_of_query q) (λ rule. refl))
none_target (target.Documents names) = tt

none_shown : (released : ℤ) (found : Result ℤ TokenError) → IsNoAbort (shown_refusal released found)
none_shown released (Ok time) = none_where (int_lt released time) (Some (refusal_of (reason.TokenAhead time released))) refl
none_shown released (Err (BadLength n)) = refl
none_shown released (Err BadMark) = refl
none_shown released (Err BadTime) = refl

none_token : (m : Machine) (token : Option (List ℕ)) → IsNoAbort (token_refusal m token)
none_token m None = tt
none_token m (Some bytes) = none_shown m.past.released (time_in bytes)

none_used : (used : Bool) (id : ℕ) (others : Option Refusal) → IsNoAbort others → IsNoAbort (unless_used used id others)
none_used true id others none = refl
none_used false id others none = none

none_targets : (m : Machine) (session : ℕ) (others : Option Refusal) → IsNoAbort others → IsNoAbort (targets_refusal m session others)
none_targets m session others none =
    none_passed (nat_le m.limits.targets (len (listening_of m session).targets)) (codes "targets") m.limits.targets (passed (nat_le m.limits.ids m.numbers.targets) (codes "ids") m.limits.ids others)
    (none_passed (nat_le m.limits.ids m.numbers.targets) (codes "ids") m.limits.ids others none)

none_adding : (m : Machine) (session id : ℕ) (t : Target) (token : Option (List ℕ)) → IsNoAbort (adding_refusal m session id t token)
none_adding m session id t token =
    let used = unless_used (has_target m session id) id (token_refusal m token) in
    let targets = targets_refusal m session used in
    none_first (target_refusal t) (outbox_refusal m session targets) (none_target t)
    (none_outbox m session targets (none_targets m session used (none_used (has_target m session id) id (token_refusal m token) (none_token m token))))

none_removing : (m : Machine) (session : ℕ) (id : ℤ) → IsNoAbort (removing_refusal m session id)
none_removing m session id =
    let unknown = cond (is_target m session id) None (Some (refusal_of (reason.TargetUnknown id))) in
    none_outbox m session unknown (none_unless (is_target m session id) (Some (refusal_of (reason.TargetUnknown id))) refl)

-- ---- those of streams

none_batch : (m : Machine) (session : ℕ) (ws : List Write) (known : Bool) → IsNoAbort (batch_refusal m session ws known)
none_batch m session ws true = none_writes m ws (outbox_refusal m session (ids_refusal m None)) (none_outbox m session (ids_refusal m None) (none_ids m None tt))
none_batch m session ws false = none_commit m session ws None

none_stream : (m : Machine) (session : ℕ) (asked : StreamRequest) → IsNoAbort (stream_refusal m session asked)
none_stream m session Open =
    none_outbox m session (passed (is_full m.streams) (codes "streams") m.streams.limit None) (none_passed (is_full m.streams) (codes "streams") m.streams.limit None tt)
none_stream m session (Resume n token) = none_outbox m session None tt
none_stream m session (Batch token ws) = none_batch m session ws (is_known (take_of m session token))
none_stream m session (Ask token) = none_outbox m session None tt
none_stream m session (Mixed n token ws) = none_writes m ws (outbox_refusal m session None) (none_outbox m session None tt)

none_unowned : (ever : Bool) → is_aborted (code_of (unowned ever)) ≡ false
none_unowned true = refl
none_unowned false = refl

none_stream_error : (ever : Bool) (e : StreamError) → is_aborted (code_of (reason_of ever e)) ≡ false
none_stream_error ever (error.Unknown n) = refl
none_stream_error ever error.NotOwner = none_unowned ever
none_stream_error ever (error.Stale token next) = refl
none_stream_error ever (error.Ahead token next) = refl
none_stream_error ever (error.TooMany limit) = refl
none_stream_error ever error.Second = refl
none_stream_error ever (error.Memory e) = refl

none_taken : {X : Type 0} (ever : Bool) (x : Result X StreamError) → IsNoAbort (unless_taken ever x)
none_taken ever (Ok x) = tt
none_taken ever (Err e) = none_stream_error ever e

none_stream_check : (m : Machine) (session : ℕ) (asked : StreamRequest) → IsNoAbort (stream_check m session asked)
none_stream_check m session Open = none_where (has_stream m session) (Some (refusal_of reason.SecondStream)) refl
none_stream_check m session (Resume n token) = none_taken _ (resume_answer session n token m.streams)
none_stream_check m session (Batch token ws) = none_taken _ (take_of m session token)
none_stream_check m session (Ask token) = none_unless (has_stream m session) (Some (refusal_of (unowned (has_owned session m.sessions)))) (none_unowned (has_owned session m.sessions))
none_stream_check m session (Mixed n token ws) = refl

-- ---- those of transactions and times

none_gone : (id : ℕ) (found : Option Gone) → is_aborted (gone_refusal id found).code ≡ false
none_gone id (Some e) = refl
none_gone id None = refl

none_unless_open : (id : ℕ) (ended : Option Gone) (found : Option Txn) → IsNoAbort (refusal_unless id ended found)
none_unless_open id ended (Some t) = tt
none_unless_open id ended None = none_gone id ended

none_closed : (ts : Transactions) (id : ℕ) → IsNoAbort (closed_refusal ts id)
none_closed ts id = none_unless_open id (expired_of id ts.expired) (txn_of id ts.open)

none_writing : (ws : List Write) (id : ℕ) (reads : Bool) → IsNoAbort (writing_refusal ws id reads)
none_writing [] id reads = tt
none_writing (w ∷ ws) id reads = none_where reads (Some (refusal_of (reason.ReadOnly id))) refl

none_author : (m : Machine) (ws : List Write) (transaction : Option ℕ) → IsNoAbort (author_refusal m ws transaction)
none_author m ws None = tt
none_author m ws (Some id) = none_first (closed_refusal m.txns id) (writing_refusal ws id (only_reads m (Some id))) (none_closed m.txns id) (none_writing ws id (only_reads m (Some id)))

none_between : (from : ℤ) (p : Past) (t : ℤ) (early late : Bool) → IsNoAbort (cond early (Some (refusal_of (reason.TooOld t from))) (cond late (Some (refusal_of (reason.TooNew t p.released))) None))
none_between from p t true late = refl
none_between from p t false true = refl
none_between from p t false false = tt

none_at : (p : Past) (t : ℤ) → IsNoAbort (time_refusal p t)
none_at p t = none_between p.floor p t (int_lt t p.floor) (int_lt p.released t)

none_when : (m : Machine) (when : When) → IsNoAbort (when_refusal m when)
none_when m Released = tt
none_when m (At time) = none_at m.past time
none_when m (In id) = none_closed m.txns id

none_begin_time : (m : Machine) (o : TransactionOptions) → IsNoAbort (begin_time_refusal m o)
none_begin_time m options.ReadWrite = tt
none_begin_time m (options.ReadOnly None) = tt
none_begin_time m (options.ReadOnly (Some time)) = none_at m.past time

-- ---- of any request

pub none_arrival : (m : Machine) (session : ℕ) (q : Request) → IsNoAbort (arrival_refusal m session q)
none_arrival m session (Commit database ws transaction) = none_commit m session ws transaction
none_arrival m session (GetDocument name mask when) = none_read m session when (GetDocument name mask when)
none_arrival m session (BatchGetDocuments database names mask when) = none_read m session when (BatchGetDocuments database names mask when)
none_arrival m session (RunQuery database query when) =
    none_first (query_refusal query) (outbox_refusal m session (read_limit_refusal m when (RunQuery database query when))) (none_query query) (none_read m session when (RunQuery database query when))
none_arrival m session (BeginTransaction database o) = none_begin m session
none_arrival m session (Rollback database transaction) = none_outbox m session None tt
none_arrival m session (AddTarget database id t token) = none_adding m session id t token
none_arrival m session (RemoveTarget database id) = none_removing m session id
none_arrival m session (request.Write database asked) = none_stream m session asked

pub none_retry : (m : Machine) (q : Request) → IsNoAbort (retry_refusal m q)
none_retry m (Commit database ws transaction) = none_growth m ws transaction (time_limit_refusal m) (none_time m)
none_retry m (GetDocument name mask when) = none_read_limit m when (GetDocument name mask when)
none_retry m (BatchGetDocuments database names mask when) = none_read_limit m when (BatchGetDocuments database names mask when)
none_retry m (RunQuery database query when) = none_read_limit m when (RunQuery database query when)
none_retry m (BeginTransaction database o) = tt
none_retry m (Rollback database transaction) = tt
none_retry m (AddTarget database id t token) = tt
none_retry m (RemoveTarget database id) = tt
none_retry m (request.Write database asked) = tt

pub none_check : (m : Machine) (session : ℕ) (q : Request) → IsNoAbort (check_refusal m session q)
none_check m session (Commit database ws transaction) = none_author m ws transaction
none_check m session (GetDocument name mask when) = none_when m when
none_check m session (BatchGetDocuments database names mask when) = none_when m when
none_check m session (RunQuery database query when) = none_when m when
none_check m session (BeginTransaction database o) = none_begin_time m o
none_check m session (Rollback database transaction) = none_closed m.txns transaction
none_check m session (AddTarget database id t token) = tt
none_check m session (RemoveTarget database id) = tt
none_check m session (request.Write database asked) = none_stream_check m session asked

-- ---- answers

-- it isn't that a commit is pending, that a request waits, or that a transaction is aborted
abbrev pub IsOrdinary : Answer → Type 0
IsOrdinary (answer.Reply message) = ⊤
IsOrdinary (answer.Prepared id time) = ⊥
IsOrdinary (answer.Held id) = ⊥
IsOrdinary (answer.InProgress n) = ⊤
IsOrdinary (answer.Refused refusal) = is_aborted refusal.code ≡ false

pub isnt_pending : (a : Answer) (id : ℕ) (time : ℤ) → IsOrdinary a → a ≡ answer.Prepared id time → ⊥
isnt_pending a id time ordinary is = subst IsOrdinary is ordinary

pub isnt_held : (a : Answer) (id : ℕ) → IsOrdinary a → a ≡ answer.Held id → ⊥
isnt_held a id ordinary is = subst IsOrdinary is ordinary

pub never_both : true ≡ false → ⊥
never_both is = cc

pub isnt_aborted : (a : Answer) (id : ℕ) → IsOrdinary a → a ≡ answer.Refused (conflict_with id) → ⊥
isnt_aborted a id ordinary is = never_both (subst IsOrdinary is ordinary)

document_told : (of : Option (List ℕ)) (t : ℤ) (mask : Option (List FieldPath)) (found : Option Document) → IsOrdinary (document_answer of t mask found)
document_told of t mask None = refl
document_told of t mask (Some document) = tt

removed_told : (id : ℤ) → IsOrdinary (removed_answer id)
removed_told (pos id) = tt
removed_told (negsuc id) = refl

resumed_told : (n : ℕ) (found : Result Resumed StreamError) → IsOrdinary (resumed_answer n found)
resumed_told n (Ok (resumed.At finished)) = tt
resumed_told n (Ok (resumed.Repeat kept)) = tt
resumed_told n (Err e) = none_stream_error true e

known_told : (n : ℕ) (found : Result Take StreamError) → IsOrdinary (known_answer n found)
known_told n (Ok (New stream)) = tt
known_told n (Ok (Repeat kept)) = tt
known_told n (Ok (InProgress finished)) = tt
known_told n (Err e) = none_stream_error true e

asked_told : (found : Option (ℕ × ℕ)) → IsOrdinary (asked_answer found)
asked_told (Some own) = tt
asked_told None = refl

streamed_told : (m : Machine) (session : ℕ) (asked : StreamRequest) → IsOrdinary (streamed_answer m session asked)
streamed_told m session Open = tt
streamed_told m session (Resume n token) = resumed_told n (resume_answer session n token m.streams)
streamed_told m session (Batch token ws) = known_told (own_stream m session) (take_of m session token)
streamed_told m session (Ask token) = asked_told (owned_by session m.streams)
streamed_told m session (Mixed n token ws) = refl

abbrev pub is_commit : Request → Bool
is_commit (Commit database ws transaction) = true
is_commit (GetDocument name mask when) = false
is_commit (BatchGetDocuments database names mask when) = false
is_commit (RunQuery database query when) = false
is_commit (BeginTransaction database o) = false
is_commit (Rollback database transaction) = false
is_commit (AddTarget database id t token) = false
is_commit (RemoveTarget database id) = false
is_commit (request.Write database asked) = false

module _ (m : Machine) (r : ParkedRequest) where
  -- one that is carried out, and no commit
  pub carried_told : (q : Request) → is_commit q ≡ false → IsOrdinary (answer_by m r q)
  carried_told (Commit database ws transaction) is = absurd (cc)
  carried_told (GetDocument name mask when) is = document_told r.envelope.id (read_time m when) mask (get (at m.past.history (read_time m when)) name)
  carried_told (BatchGetDocuments database names mask when) is = tt
  carried_told (RunQuery database query when) is = tt
  carried_told (BeginTransaction database o) is = tt
  carried_told (Rollback database transaction) is = tt
  carried_told (AddTarget database id t token) is = tt
  carried_told (RemoveTarget database id) is = removed_told id
  carried_told (request.Write database asked) is = streamed_told m r.session asked

unadded_told : (plain used : Bool) (refusal : Refusal) (other : Answer) → is_aborted refusal.code ≡ false → IsOrdinary other → IsOrdinary (cond plain (answer.Refused refusal) (cond used (answer.Refused refusal) other))
unadded_told true used refusal other none ordinary = none
unadded_told false true refusal other none ordinary = none
unadded_told false false refusal other none ordinary = ordinary

-- one that isn't carried out
pub refused_told : (m : Machine) (session : ℕ) (q : Request) (refusal : Refusal) → is_aborted refusal.code ≡ false → IsOrdinary (refused_by m session q refusal)
refused_told m session (AddTarget database id t token) refusal none = unadded_told (is_plain refusal.reason) (has_target m session id) refusal _ none tt
refused_told m session (Commit database ws transaction) refusal none = none
refused_told m session (GetDocument name mask when) refusal none = none
refused_told m session (BatchGetDocuments database names mask when) refusal none = none
refused_told m session (RunQuery database query when) refusal none = none
refused_told m session (BeginTransaction database o) refusal none = none
refused_told m session (Rollback database transaction) refusal none = none
refused_told m session (RemoveTarget database id) refusal none = none
refused_told m session (request.Write database asked) refusal none = none
