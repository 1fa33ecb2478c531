-- What a request that is carried out keeps of what was committed, and of what open transactions have read.
use Rattle.std.proofs.Common.{◌≡◌, ℕ, ℤ, ◌≤ℤ◌, ◌<ℤ◌, Bool, true, false, cond, List, [], ◌∷◌, ◌++◌, map, Option, Some, None, refl, sym, ap, ◌∙◌, subst, arith}
use Rattle.std.specs.Prelude.{pos, negsuc, ◌+◌, ◌+ℤ◌, ◌==◌, codes, int_lt, length, nat_le, not, remove, unwrap_or}
use Rattle.std.specs.FinMap.{get, values}
use Rattle.std.specs.Option.{option_map_or}
use Rattle.std.proofs.lemmas.Int.{ints}
use Rattle.fs_history.specs.History.{at}
use Rattle.fs_history.specs.Serial.{AreShown}
use Rattle.fs_history.specs.declared.batch.Batch.{Batch}
use Rattle.fs_history.specs.declared.read.Read.{Read}
use Rattle.fs_history.specs.declared.read.Read.TheVariants as read
use Rattle.fs_history.proofs.HistoryLaws.{at_whole}
use Rattle.fs_history.proofs.NamesListed.{listed_by_name}
use Rattle.fs_path.specs.declared.name.DocName.{DocName}
use Rattle.fs_query.proofs.AnswerLaws.{some_answer}
use Rattle.fs_request.specs.declared.options.TransactionOptions.{TransactionOptions}
use Rattle.fs_request.specs.declared.options.TransactionOptions.TheVariants.{ReadWrite, ReadOnly}
use Rattle.fs_request.specs.declared.request.Request.{Request}
use Rattle.fs_request.specs.declared.request.Request.TheVariants.{Commit, GetDocument, BatchGetDocuments, RunQuery, BeginTransaction, Rollback, AddTarget, RemoveTarget}
use Rattle.fs_request.specs.declared.request.Request.TheVariants as request
use Rattle.fs_request.specs.declared.stream_request.StreamRequest.{StreamRequest}
use Rattle.fs_request.specs.declared.stream_request.StreamRequest.TheVariants as write
use Rattle.fs_request.specs.declared.when.When.{When}
use Rattle.fs_request.specs.declared.when.When.TheVariants.{Released, At, In}
use Rattle.fs_status.specs.Refusal.{at_limit, refusal_of}
use Rattle.fs_status.specs.declared.reason.Reason.TheVariants.{TooOld, TooNew}
use Rattle.fs_status.specs.declared.refusal.Refusal.{Refusal}
use Rattle.fs_stream.specs.Streams.{Streams}
use Rattle.fs_txn.specs.Transactions.{is_read_write, txn_of}
use Rattle.fs_txn.specs.declared.kind.Kind.{Kind}
use Rattle.fs_txn.specs.declared.kind.Kind.TheVariants as kind
use Rattle.fs_txn.specs.declared.txn.Txn.{Txn}
use Rattle.fs_write.proofs.AfterChanges.{law_at_own_names}
use Rattle.fs_write.specs.Batch.{Docs}
use Rattle.fs_write.specs.declared.write.Write.{Write}
use Rattle.fs_machine.specs.Behind.{behind, least, writing_same}
use Rattle.fs_machine.specs.Commit.{author_refusal, committed, committed_in, committed_unless, next_commit, past_prepared}
use Rattle.fs_machine.specs.Conflict.{conflict, plain_behind, read_behind, readers_of}
use Rattle.fs_machine.specs.Facts.{PastFacts}
use Rattle.fs_machine.specs.HistoryRises.{HistoryRises}
use Rattle.fs_machine.specs.Numbered.{draws}
use Rattle.fs_machine.specs.Past.{Past}
use Rattle.fs_machine.specs.Read.{docs_at, is_noted, read_in, read_time, reader_behind, refusal_from, shown_at, shown_of, time_refusal, when_refusal}
use Rattle.fs_machine.specs.ReadsHold.{MayRead}
use Rattle.fs_machine.specs.Request.{Decision, arrives, asked_unless, begin_time_refusal, carried_by, check_refusal, comes, taken_unless, decision, held_by, retry_refusal, unless_full, unless_held, unless_refused, writer_behind}
use Rattle.fs_machine.specs.Retry.{retried_if, tried}
use Rattle.fs_machine.specs.State.{Machine}
use Rattle.fs_machine.specs.Stream.{stream_check}
use Rattle.fs_machine.specs.Transact.{kind_of, time_asked, time_in, time_of_kind, with_begun, with_ended}
use Rattle.fs_machine.specs.TransactionsHold.{IsOpen, TransactionsHold, docs_read}
use Rattle.fs_machine.specs.declared.config.Mode.{Mode}
use Rattle.fs_machine.specs.declared.config.Mode.TheVariants.{Pessimistic, Optimistic}
use Rattle.fs_machine.specs.declared.numbers.Numbers.{Numbers}
use Rattle.fs_machine.specs.declared.parked_request.ParkedRequest.{ParkedRequest}
use Rattle.fs_machine.proofs.Behind.{free_behind_none}
use Rattle.fs_machine.proofs.NamesApart.{names_prepared}
use Rattle.fs_machine.proofs.ReadsHold.{nothing_read, reads_prepared}
use Rattle.fs_machine.proofs.ResultsHold.{results_prepared}
use Rattle.fs_machine.proofs.TransactionsHold.{MayMake, all_open, free_behind, may_commit, open_all_noted, open_begun, open_committed, open_left, open_prepared}
use Rattle.fs_machine.proofs.UnreleasedRise.{unreleased_prepared}
use Rattle.fs_machine.proofs.Streaming.{streamed_rest, taken_rest}

-- what was committed and what transactions have read
pub record Holds (m : Machine) : Type 0 where
  pub past : PastFacts m.past
  pub txns : TransactionsHold m.config.mode m.past m.txns.open

-- ---- a commit

after_last : (t : ℤ) → t <ℤ (t +ℤ pos 1)
after_last t = omega (arith, ints)

pub past_kept_prepared : (p : Past) (id : ℕ) (r : ParkedRequest) (writes : List Write) (reads : List Read) → behind p writes ≡ None → MayRead p reads → PastFacts p → PastFacts (past_prepared p (next_commit p id r writes reads))
past_kept_prepared p id r writes reads free may facts =
    let u = next_commit p id r writes reads in
    record {
      history = facts.history;
      unreleased = unreleased_prepared p u (after_last p.last) facts.unreleased;
      floor = facts.floor;
      names = names_prepared p u (free_behind_none p.unreleased writes free) facts.names;
      results = results_prepared p u refl facts.results;
      reads = reads_prepared p u may facts.reads;
    }

none_first : (xs ys : List ℕ) → least (xs ++ ys) ≡ None → least xs ≡ None
none_first [] ys none = refl
none_first (x ∷ xs) ys none = absurd (cc)

pub behind_plain : (mode : Mode) (p : Past) (ts : List Txn) (ws : List Write) → plain_behind mode p ts ws ≡ None → behind p ws ≡ None
behind_plain Pessimistic p ts ws free = none_first (writing_same p.unreleased ws) (readers_of ts ws) free
behind_plain Optimistic p ts ws free = free

plain_holds : (m : Machine) (r : ParkedRequest) (writes : List Write) → plain_behind m.config.mode m.past m.txns.open writes ≡ None → Holds m → Holds (committed m r writes None)
plain_holds m r writes free holds = record {
  past = past_kept_prepared m.past r.id r writes [] (behind_plain m.config.mode m.past m.txns.open writes free) (nothing_read m.past [] refl) holds.past;
  txns = open_prepared m.config.mode m.past (next_commit m.past r.id r writes []) m.txns.open free holds.txns;
}

pub ended_holds : (m : Machine) (id : ℕ) → Holds m → Holds (with_ended m id)
ended_holds m id holds = record { past = holds.past; txns = open_left m.config.mode m.past (λ t. not (t.id == id)) m.txns.open holds.txns }

-- what a read-write one without a conflict has read may stand before its commit
pub may_be_read : (m : Machine) (t : Txn) (ws : List Write) → conflict m.config.mode m.past m.txns.open t ws ≡ None → is_read_write t.kind ≡ true → IsOpen m.config.mode m.past t → PastFacts m.past → MayRead m.past t.reads
may_be_read m t ws free rw here facts =
    let both = may_commit m.config.mode m.past m.txns.open t ws free rw here facts.history facts.unreleased in
    record { shown = both.0; spared = both.1 }

unless_holds : (m : Machine) (r : ParkedRequest) (writes : List Write) (t : Txn) (found : Option ℕ) → conflict m.config.mode m.past m.txns.open t writes ≡ found → is_read_write t.kind ≡ true
    → IsOpen m.config.mode m.past t → behind m.past writes ≡ None → Holds m → Holds (committed_unless m r writes t found)
unless_holds m r writes t (Some other) meets rw here free holds = ended_holds m t.id holds
unless_holds m r writes t None meets rw here free holds = record {
  past = past_kept_prepared m.past t.id r writes t.reads free (may_be_read m t writes meets rw here holds.past) holds.past;
  txns = open_committed m.config.mode m.past (next_commit m.past t.id r writes t.reads) m.txns.open t meets holds.txns;
}

if_holds : (m : Machine) (r : ParkedRequest) (writes : List Write) (t : Txn) (b : Bool) → is_read_write t.kind ≡ b → IsOpen m.config.mode m.past t → behind m.past writes ≡ None → Holds m
    → Holds (cond b (committed_unless m r writes t (conflict m.config.mode m.past m.txns.open t writes)) (with_ended m t.id))
if_holds m r writes t true rw here free holds = unless_holds m r writes t (conflict m.config.mode m.past m.txns.open t writes) refl rw here free holds
if_holds m r writes t false rw here free holds = ended_holds m t.id holds

in_holds : (m : Machine) (r : ParkedRequest) (writes : List Write) (id : ℕ) (found : Option Txn) → txn_of id m.txns.open ≡ found → behind m.past writes ≡ None → Holds m → Holds (committed_in m r writes found)
in_holds m r writes id None is free holds = holds
in_holds m r writes id (Some t) is free holds = if_holds m r writes t (is_read_write t.kind) refl (all_open (IsOpen m.config.mode m.past) m.txns.open id t is holds.txns) free holds

-- ---- a read

names_shown : (docs : Docs) (names : List DocName) → AreShown docs (map (λ name. read.Name name (get docs name)) names)
names_shown docs [] = tt
names_shown docs (n ∷ names) = (refl, names_shown docs names)

-- what is read of the documents at a time is what they show
pub are_shown : (h : List Batch) (t : ℤ) (q : Request) → AreShown (at h t) (shown_of (at h t) q)
are_shown h t (Commit database writes transaction) = tt
are_shown h t (GetDocument name mask when) = (refl, tt)
are_shown h t (BatchGetDocuments database names mask when) = names_shown (at h t) names
are_shown h t (RunQuery database query when) = (some_answer query (values (at h t)) (listed_by_name law_at_own_names h t).0, tt)
are_shown h t (BeginTransaction database options) = tt
are_shown h t (Rollback database transaction) = tt
are_shown h t (AddTarget database id l token) = tt
are_shown h t (RemoveTarget database id) = tt
are_shown h t (request.Write database asked) = tt

kind_read : (mode : Mode) (p : Past) (t : Txn) (k : Kind) → t.kind ≡ k → is_read_write k ≡ true → HistoryRises p → at p.history (time_of_kind mode p k t.read_time) ≡ docs_read mode p t
kind_read Pessimistic p t kind.ReadWrite is rw rises = at_whole p.history p.released rises.rising rises.ends
kind_read Pessimistic p t kind.ReadOnly is rw rises = absurd (cc)
kind_read Optimistic p t k is rw rises = refl

-- a read-write one reads what it has to
pub time_read : (mode : Mode) (p : Past) (t : Txn) → is_read_write t.kind ≡ true → HistoryRises p → at p.history (time_in mode p t) ≡ docs_read mode p t
time_read mode p t rw rises = kind_read mode p t t.kind refl rw rises

-- where it isn't held
unheld : (m : Machine) (id : ℕ) (q : Request) (t : Txn) → txn_of id m.txns.open ≡ Some t → is_read_write t.kind ≡ true → reader_behind m (In id) q ≡ None → read_behind m.config.mode m.past (shown_at m (In id) q) ≡ None
unheld m id q t is rw free =
    let noted : is_noted m (In id) ≡ true = ap (λ o. option_map_or (λ (x : Txn). is_read_write x.kind) o false) is ∙ rw in
    sym (ap (λ b. cond b (read_behind m.config.mode m.past (shown_at m (In id) q)) None) noted) ∙ free

makes : (m : Machine) (id : ℕ) (q : Request) → reader_behind m (In id) q ≡ None → HistoryRises m.past → MayMake m.config.mode m.past m.txns.open id (shown_at m (In id) q)
makes m id q free rises t is rw =
    let time : read_time m (In id) ≡ time_in m.config.mode m.past t = ap (λ o. option_map_or (time_in m.config.mode m.past) o m.past.released) is in
    let docs : docs_at m (In id) ≡ docs_read m.config.mode m.past t = ap (at m.past.history) time ∙ time_read m.config.mode m.past t rw rises in (
      subst (λ d. AreShown d (shown_at m (In id) q)) docs (are_shown m.past.history (read_time m (In id)) q),
      free_behind m.config.mode m.past (shown_at m (In id) q) (unheld m id q t is rw free),
    )

read_holds : (m : Machine) (when : When) (q : Request) → reader_behind m when q ≡ None → Holds m → Holds (read_in m when q)
read_holds m Released q free holds = holds
read_holds m (At time) q free holds = holds
read_holds m (In id) q free holds = record {
  past = holds.past;
  txns = open_all_noted m.config.mode m.past m.txns id (shown_at m (In id) q) m.past.moment (makes m id q free holds.past.history) holds.txns;
}

-- ---- a begin

between : (from : ℤ) (p : Past) (t : ℤ) (early late : Bool) → int_lt t from ≡ early → int_lt p.released t ≡ late → refusal_from from p t ≡ None → (from ≤ℤ t) × (t ≤ℤ p.released)
between from p t true late is too none = let old : refusal_from from p t ≡ Some (refusal_of (TooOld t from)) = ap (λ b. cond b (Some (refusal_of (TooOld t from))) (cond (int_lt p.released t) (Some (refusal_of (TooNew t p.released))) None)) is in absurd (cc)
between from p t false true is too none =
    let new : refusal_from from p t ≡ Some (refusal_of (TooNew t p.released)) =
    ap (λ b. cond b (Some (refusal_of (TooOld t from))) (cond (int_lt p.released t) (Some (refusal_of (TooNew t p.released))) None)) is
    ∙ ap (λ b. cond b (Some (refusal_of (TooNew t p.released))) None) too in
    absurd (cc)
between from p t false false is too none = grind (arith, ints)

pub within_from : (from : ℤ) (p : Past) (t : ℤ) → refusal_from from p t ≡ None → (from ≤ℤ t) × (t ≤ℤ p.released)
within_from from p t none = between from p t (int_lt t from) (int_lt p.released t) refl refl none

pub may_be_read_at : (p : Past) (t : ℤ) → time_refusal p t ≡ None → (p.floor ≤ℤ t) × (t ≤ℤ p.released)
may_be_read_at p t none = within_from p.floor p t none

begins_at : (m : Machine) (options : TransactionOptions) (t : ℤ) → t ≡ unwrap_or (time_asked options) m.past.released → begin_time_refusal m options ≡ None → PastFacts m.past → (m.past.floor ≤ℤ t) × (t ≤ℤ m.past.released)
begins_at m ReadWrite t is none facts = let within = facts.floor in (omega (arith, ints, is), omega (arith, ints, is))
begins_at m (ReadOnly None) t is none facts = let within = facts.floor in (omega (arith, ints, is), omega (arith, ints, is))
begins_at m (ReadOnly (Some time)) t is none facts = let both = may_be_read_at m.past time none in (subst (λ x. m.past.floor ≤ℤ x) (sym is) both.0, subst (λ x. x ≤ℤ m.past.released) (sym is) both.1)

begun_holds : (m : Machine) (id : ℕ) (options : TransactionOptions) → begin_time_refusal m options ≡ None → Holds m → Holds (with_begun m id options)
begun_holds m id options none holds =
    let within = begins_at m options (unwrap_or (time_asked options) m.past.released) refl none holds.past in
    record {
      past = holds.past;
      txns = open_begun m.config.mode m.past (record { id = id; kind = kind_of options; read_time = unwrap_or (time_asked options) m.past.released; begun = m.past.moment; used = m.past.moment; reads = [] }) m.txns.open refl within.0 within.1 holds.txns;
    }

-- ---- any request

pub carried_holds : (m : Machine) (r : ParkedRequest) (q : Request) → check_refusal m r.session q ≡ None → held_by m q ≡ None → Holds m → Holds (carried_by m r q)
carried_holds m r (Commit database writes None) none free holds = plain_holds m r writes free holds
carried_holds m r (Commit database writes (Some id)) none free holds = in_holds m r writes id (txn_of id m.txns.open) refl free holds
carried_holds m r (GetDocument name mask when) none free holds = read_holds m when (GetDocument name mask when) free holds
carried_holds m r (BatchGetDocuments database names mask when) none free holds = read_holds m when (BatchGetDocuments database names mask when) free holds
carried_holds m r (RunQuery database query when) none free holds = read_holds m when (RunQuery database query when) free holds
carried_holds m r (BeginTransaction database options) none free holds = begun_holds m r.id options none holds
carried_holds m r (Rollback database transaction) none free holds = ended_holds m transaction holds
carried_holds m r (AddTarget database id t token) none free holds = record { past = holds.past; txns = holds.txns }
carried_holds m r (RemoveTarget database (pos id)) none free holds = record { past = holds.past; txns = holds.txns }
carried_holds m r (RemoveTarget database (negsuc id)) none free holds = holds
carried_holds m r (request.Write database asked) none free holds = subst Holds (sym (streamed_rest m r.session asked)) (record { past = holds.past; txns = holds.txns })

-- ---- beside other numbers, other requests that wait, and other streams

abbrev pub beside : Machine → Numbers → List ParkedRequest → Machine
beside m k ps = record m { numbers = k; parked = ps }

abbrev also : Machine → Numbers → List ParkedRequest → Streams → Machine
also m k ps s = record m { numbers = k; parked = ps; streams = s }

author_alike : (m : Machine) (k : Numbers) (ps : List ParkedRequest) (s : Streams) (writes : List Write) (transaction : Option ℕ) → author_refusal (also m k ps s) writes transaction ≡ author_refusal m writes transaction
author_alike m k ps s writes None = refl
author_alike m k ps s writes (Some id) = refl

when_alike : (m : Machine) (k : Numbers) (ps : List ParkedRequest) (s : Streams) (when : When) → when_refusal (also m k ps s) when ≡ when_refusal m when
when_alike m k ps s Released = refl
when_alike m k ps s (At time) = refl
when_alike m k ps s (In id) = refl

begin_alike : (m : Machine) (k : Numbers) (ps : List ParkedRequest) (s : Streams) (options : TransactionOptions) → begin_time_refusal (also m k ps s) options ≡ begin_time_refusal m options
begin_alike m k ps s ReadWrite = refl
begin_alike m k ps s (ReadOnly None) = refl
begin_alike m k ps s (ReadOnly (Some time)) = refl

stream_alike : (m : Machine) (k : Numbers) (ps : List ParkedRequest) (session : ℕ) (asked : StreamRequest) → stream_check (beside m k ps) session asked ≡ stream_check m session asked
stream_alike m k ps session write.Open = refl
stream_alike m k ps session (write.Resume n token) = refl
stream_alike m k ps session (write.Batch token writes) = refl
stream_alike m k ps session (write.Ask token) = refl
stream_alike m k ps session (write.Mixed n token writes) = refl

pub check_alike : (m : Machine) (k : Numbers) (ps : List ParkedRequest) (session : ℕ) (q : Request) → check_refusal (beside m k ps) session q ≡ check_refusal m session q
check_alike m k ps session (Commit database writes transaction) = author_alike m k ps m.streams writes transaction
check_alike m k ps session (GetDocument name mask when) = when_alike m k ps m.streams when
check_alike m k ps session (BatchGetDocuments database names mask when) = when_alike m k ps m.streams when
check_alike m k ps session (RunQuery database query when) = when_alike m k ps m.streams when
check_alike m k ps session (BeginTransaction database options) = begin_alike m k ps m.streams options
check_alike m k ps session (Rollback database transaction) = refl
check_alike m k ps session (AddTarget database id t token) = refl
check_alike m k ps session (RemoveTarget database id) = refl
check_alike m k ps session (request.Write database asked) = stream_alike m k ps session asked

reader_alike : (m : Machine) (k : Numbers) (ps : List ParkedRequest) (s : Streams) (when : When) (q : Request) → reader_behind (also m k ps s) when q ≡ reader_behind m when q
reader_alike m k ps s Released q = refl
reader_alike m k ps s (At time) q = refl
reader_alike m k ps s (In id) q = refl

writer_alike : (m : Machine) (k : Numbers) (ps : List ParkedRequest) (s : Streams) (writes : List Write) (transaction : Option ℕ) → writer_behind (also m k ps s) writes transaction ≡ writer_behind m writes transaction
writer_alike m k ps s writes None = refl
writer_alike m k ps s writes (Some id) = refl

held_alike : (m : Machine) (k : Numbers) (ps : List ParkedRequest) (s : Streams) (q : Request) → held_by (also m k ps s) q ≡ held_by m q
held_alike m k ps s (Commit database writes transaction) = writer_alike m k ps s writes transaction
held_alike m k ps s (GetDocument name mask when) = reader_alike m k ps s when (GetDocument name mask when)
held_alike m k ps s (BatchGetDocuments database names mask when) = reader_alike m k ps s when (BatchGetDocuments database names mask when)
held_alike m k ps s (RunQuery database query when) = reader_alike m k ps s when (RunQuery database query when)
held_alike m k ps s (BeginTransaction database options) = refl
held_alike m k ps s (Rollback database transaction) = refl
held_alike m k ps s (AddTarget database id t token) = refl
held_alike m k ps s (RemoveTarget database id) = refl
held_alike m k ps s (request.Write database asked) = refl

-- the same request has the same to wait for
pub decision_alike : (m : Machine) (k : Numbers) (ps : List ParkedRequest) (session : ℕ) (q : Request) → decision (beside m k ps) session q ≡ decision m session q
decision_alike m k ps session q = (λ i. unless_refused (check_alike m k ps session q i) (unless_held (held_alike m k ps m.streams q i)))

-- ---- one comes, or is tried again

module _ (m : Machine) (k : Numbers) (ps : List ParkedRequest) (s : Streams) (r : ParkedRequest) (holds : Holds m) where
  still : Holds (also m k ps s)
  still = record { past = holds.past; txns = holds.txns }

  -- no request but those of streams looks at these
  carried_also : (q : Request) → check_refusal m r.session q ≡ None → held_by m q ≡ None → Holds (carried_by (also m k ps s) r q)
  carried_also (Commit database writes transaction) none free =
      carried_holds (also m k ps s) r (Commit database writes transaction) (author_alike m k ps s writes transaction ∙ none) (held_alike m k ps s (Commit database writes transaction) ∙ free) still
  carried_also (GetDocument name mask when) none free =
      carried_holds (also m k ps s) r (GetDocument name mask when) (when_alike m k ps s when ∙ none) (held_alike m k ps s (GetDocument name mask when) ∙ free) still
  carried_also (BatchGetDocuments database names mask when) none free =
      carried_holds (also m k ps s) r (BatchGetDocuments database names mask when) (when_alike m k ps s when ∙ none) (held_alike m k ps s (BatchGetDocuments database names mask when) ∙ free) still
  carried_also (RunQuery database query when) none free =
      carried_holds (also m k ps s) r (RunQuery database query when) (when_alike m k ps s when ∙ none) (held_alike m k ps s (RunQuery database query when) ∙ free) still
  carried_also (BeginTransaction database options) none free = carried_holds (also m k ps s) r (BeginTransaction database options) (begin_alike m k ps s options ∙ none) free still
  carried_also (Rollback database transaction) none free = carried_holds (also m k ps s) r (Rollback database transaction) none free still
  carried_also (AddTarget database id t token) none free = carried_holds (also m k ps s) r (AddTarget database id t token) none free still
  carried_also (RemoveTarget database id) none free = carried_holds (also m k ps s) r (RemoveTarget database id) none free still
  carried_also (request.Write database asked) none free = subst Holds (sym (streamed_rest (also m k ps s) r.session asked)) (record { past = holds.past; txns = holds.txns })

  full_holds : (by : ℕ) (full : Bool) → Holds (arrives (also m k ps s) r (cond full (Decision.refused (at_limit (codes "parked") m.limits.parked)) (Decision.held by)))
  full_holds by true = still
  full_holds by false = record { past = holds.past; txns = holds.txns }

  behind_holds : (found : Option ℕ) → held_by m r.envelope.request ≡ found → check_refusal m r.session r.envelope.request ≡ None → Holds (arrives (also m k ps s) r (unless_full m (unless_held found)))
  behind_holds None free none = carried_also r.envelope.request none free
  behind_holds (Some by) free none = full_holds by (nat_le m.limits.parked (length m.parked))

  arrives_holds : (refusal : Option Refusal) → check_refusal m r.session r.envelope.request ≡ refusal
      → Holds (arrives (also m k ps s) r (unless_full m (unless_refused refusal (unless_held (held_by m r.envelope.request)))))
  arrives_holds (Some refusal) is = still
  arrives_holds None is = behind_holds (held_by m r.envelope.request) refl is

comes_holds : (m : Machine) (k : Numbers) (r : ParkedRequest) → Holds m → Holds (comes (record m { numbers = k }) r (unless_full m (decision m r.session r.envelope.request)))
comes_holds m k r holds =
    let d = unless_full m (decision m r.session r.envelope.request) in
    let n = record m { numbers = k } in
    let taken = (taken_unless d r.stream n).streams in
    subst (λ (x : Machine). Holds (arrives x r d)) (sym (taken_rest d r.stream n)) (arrives_holds m k m.parked taken r holds (check_refusal m r.session r.envelope.request) refl)

drawn_holds : (m : Machine) (r : ParkedRequest) (b : Bool) → Holds m
    → Holds (comes (cond b (record m { numbers = record m.numbers { ids = m.numbers.ids + 1 } }) m) r (unless_full m (decision m r.session r.envelope.request)))
drawn_holds m r true holds = comes_holds m (record m.numbers { ids = m.numbers.ids + 1 }) r holds
drawn_holds m r false holds = comes_holds m m.numbers r holds

pub asked_holds : (m : Machine) (r : ParkedRequest) (refusal : Option Refusal) → Holds m → Holds (asked_unless refusal m r)
asked_holds m r (Some refusal) holds = holds
asked_holds m r None holds = drawn_holds m r (draws r.envelope.request) holds

tried_behind : (m : Machine) (place : ℕ) (r : ParkedRequest) (found : Option ℕ) → held_by m r.envelope.request ≡ found → check_refusal m r.session r.envelope.request ≡ None → Holds m → Holds (tried m place r (unless_held found))
tried_behind m place r None free none holds = carried_also m m.numbers (remove m.parked place) m.streams r holds r.envelope.request none free
tried_behind m place r (Some by) free none holds = holds

tried_check : (m : Machine) (place : ℕ) (r : ParkedRequest) (refusal : Option Refusal) → check_refusal m r.session r.envelope.request ≡ refusal → Holds m
    → Holds (tried m place r (unless_refused refusal (unless_held (held_by m r.envelope.request))))
tried_check m place r (Some refusal) is holds = record { past = holds.past; txns = holds.txns }
tried_check m place r None is holds = tried_behind m place r (held_by m r.envelope.request) refl is holds

tried_within : (m : Machine) (place : ℕ) (r : ParkedRequest) (refusal : Option Refusal) → Holds m → Holds (tried m place r (unless_refused refusal (decision m r.session r.envelope.request)))
tried_within m place r (Some refusal) holds = record { past = holds.past; txns = holds.txns }
tried_within m place r None holds = tried_check m place r (check_refusal m r.session r.envelope.request) refl holds

pub retried_holds : (m : Machine) (place : ℕ) (found : Option ParkedRequest) → Holds m → Holds (retried_if m place found)
retried_holds m place None holds = holds
retried_holds m place (Some r) holds = tried_within m place r (retry_refusal m r.envelope.request) holds
