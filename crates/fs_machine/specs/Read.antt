-- What reads answer: the documents of a time that can be read, or why it can't. One in a transaction reads at the transaction's time.
-- (v1 reference, "GetDocument", "BatchGetDocuments", "RunQuery": `readTime`, `transaction`.)
use Rattle.std.specs.Prelude.{ℕ, ℤ, int_lt, Bool, false, List, [], ◌∷◌, Option, Some, None, map, if◌then◌else◌}
use Rattle.std.specs.FinMap.{get, values}
use Rattle.std.specs.Option.{option_map_or}
use Rattle.fs_path.specs.declared.field.FieldPath.{FieldPath}
use Rattle.fs_path.specs.declared.name.DocName.{DocName}
use Rattle.fs_query.specs.AnswerTo.{answer_to}
use Rattle.fs_query.specs.Asked.{Asked}
use Rattle.fs_query.specs.Project.{projected}
use Rattle.fs_request.specs.declared.message.BatchAnswer.{BatchAnswer}
use Rattle.fs_request.specs.declared.message.BatchAnswer.TheVariants.{Found, Missing}
use Rattle.fs_request.specs.declared.message.Message.TheVariants as message
use Rattle.fs_request.specs.declared.request.Request.{Request}
use Rattle.fs_request.specs.declared.request.Request.TheVariants.{Commit, GetDocument, BatchGetDocuments, RunQuery, BeginTransaction, Rollback, AddTarget, RemoveTarget, Write}
use Rattle.fs_request.specs.declared.when.When.{When}
use Rattle.fs_request.specs.declared.when.When.TheVariants.{Released, At, In}
use Rattle.fs_status.specs.Refusal.{refusal_of}
use Rattle.fs_status.specs.declared.reason.Reason.TheVariants.{NoDocument, TooOld, TooNew}
use Rattle.fs_status.specs.declared.refusal.Refusal.{Refusal}
use Rattle.fs_txn.specs.Transactions.{is_read_write, txn_of}
use Rattle.fs_value.specs.declared.document.Document.{Document}
use Rattle.fs_write.specs.Batch.{Docs}
use Rattle.fs_history.specs.History.{at}
use Rattle.fs_history.specs.declared.read.Read.{Read}
use Rattle.fs_history.specs.declared.read.Read.TheVariants as read
use Rattle.fs_machine.specs.Conflict.{read_behind}
use Rattle.fs_machine.specs.Past.{Past}
use Rattle.fs_machine.specs.Refusing.{reads_refusal}
use Rattle.fs_machine.specs.State.{Machine}
use Rattle.fs_machine.specs.Transact.{closed_refusal, time_in, with_reads}
use Rattle.fs_machine.specs.declared.answer.Answer.{Answer}
use Rattle.fs_machine.specs.declared.answer.Answer.TheVariants.{Reply, Refused}

-- ---- times

-- the time of a read: the released one, the one that is asked for, or its transaction's
abbrev pub read_time : Machine → When → ℤ
read_time m Released = m.past.released
read_time m (At time) = time
read_time m (In id) = option_map_or (time_in m.config.mode m.past) (txn_of id m.txns.open) m.past.released

-- why a time isn't one from another on, up to what is released
abbrev pub refusal_from : ℤ → Past → ℤ → Option Refusal
refusal_from from p t = if int_lt t from then Some (refusal_of (TooOld t from)) else if int_lt p.released t then Some (refusal_of (TooNew t p.released)) else None

-- why a time can't be read
abbrev pub time_refusal : Past → ℤ → Option Refusal
time_refusal p t = refusal_from p.floor p t

-- why one isn't made: the time that is asked for can't be read, or its transaction isn't open
abbrev pub when_refusal : Machine → When → Option Refusal
when_refusal m Released = None
when_refusal m (At time) = time_refusal m.past time
when_refusal m (In id) = closed_refusal m.txns id

-- ---- what is read

-- what these documents show of what a request asks for
abbrev pub shown_of : Docs → Request → List Read
shown_of docs (Commit database writes transaction) = []
shown_of docs (GetDocument name mask when) = read.Name name (get docs name) ∷ []
shown_of docs (BatchGetDocuments database names mask when) = map (λ name. read.Name name (get docs name)) names
shown_of docs (RunQuery database query when) = read.Query query (answer_to query (values docs)) ∷ []
shown_of docs (BeginTransaction database options) = []
shown_of docs (Rollback database transaction) = []
shown_of docs (AddTarget database id t token) = []
shown_of docs (RemoveTarget database id) = []
shown_of docs (Write database asked) = []

-- the documents that are read
abbrev pub docs_at : Machine → When → Docs
docs_at m when = at m.past.history (read_time m when)

abbrev pub shown_at : Machine → When → Request → List Read
shown_at m when r = shown_of (docs_at m when) r

-- the reads of one in a read-write transaction are noted, and held in pessimistic mode
abbrev pub is_noted : Machine → When → Bool
is_noted m Released = false
is_noted m (At time) = false
is_noted m (In id) = option_map_or (λ t. is_read_write t.kind) (txn_of id m.txns.open) false

-- ---- limits

abbrev pub read_limit_refusal : Machine → When → Request → Option Refusal
read_limit_refusal m when r = if is_noted m when then reads_refusal m (shown_at m when r) else None

-- ---- whom one waits for

abbrev pub reader_behind : Machine → When → Request → Option ℕ
reader_behind m when r = if is_noted m when then read_behind m.config.mode m.past (shown_at m when r) else None

-- ---- what becomes of it

abbrev pub read_in : Machine → When → Request → Machine
read_in m Released r = m
read_in m (At time) r = m
read_in m (In id) r = with_reads m id (shown_at m (In id) r)

-- ---- documents

-- a document with the fields that a mask names, or with all of them
abbrev pub masked : Option (List FieldPath) → Document → Document
masked None d = d
masked (Some paths) d = projected d paths

abbrev pub document_answer : Option (List ℕ) → ℤ → Option (List FieldPath) → Option Document → Answer
document_answer id t mask None = Refused (refusal_of (NoDocument t))
document_answer id t mask (Some document) = Reply (message.GetDocument id (masked mask document))

-- one of several documents
abbrev pub told_of : ℤ → Option (List FieldPath) → DocName → Option Document → BatchAnswer
told_of t mask name None = Missing name t
told_of t mask name (Some document) = Found (masked mask document) t

abbrev pub batch_answers : Docs → ℤ → Option (List FieldPath) → List DocName → List BatchAnswer
batch_answers docs t mask names = map (λ name. told_of t mask name (get docs name)) names

-- a query's answer, of which it selects the fields
abbrev pub query_answer : Docs → Asked → List Document
query_answer docs q = map (masked q.select) (answer_to q (values docs))

-- ---- what is answered, of the documents at a time

abbrev pub get_answer : Past → Option (List ℕ) → DocName → Option (List FieldPath) → ℤ → Answer
get_answer p id name mask t = document_answer id t mask (get (at p.history t) name)

abbrev pub batch_get_answer : Past → Option (List ℕ) → List DocName → Option (List FieldPath) → ℤ → Answer
batch_get_answer p id names mask t = Reply (message.BatchGetDocuments id (batch_answers (at p.history t) t mask names))

abbrev pub run_answer : Past → Option (List ℕ) → Asked → ℤ → Answer
run_answer p id q t = Reply (message.RunQuery id (query_answer (at p.history t) q) t)
