-- What reads show: the documents of one time, which is not before the floor and not after what is released. It is the released one, the one that is
-- asked for, or that of the read's transaction. In optimistic mode a transaction reads at what was released at its begin, however long it is open; in
-- pessimistic mode a read-write one reads what is released then. And a read-write one has read just what it is told, which its commit is judged by.
--
--     5 is released, and 1 begins        1, read-write, reads at 5
--     1 gets c/a with the mask n         it is told {n: 1}, and has read c/a as {n: 1, s: "x"}
--     1 gets c/b, which isn't there      it is told NOT_FOUND, and has read that there is no c/b
--     7 is released                      in optimistic mode 1 still reads at 5, in pessimistic mode at 7
-- (v1 reference, "GetDocument", "BatchGetDocuments", "RunQuery": `readTime`, `transaction`.)
use Rattle.std.specs.Prelude.{◌≡◌, ◌⊎◌, ℕ, ℤ, ◌≤ℤ◌, Bool, true, false, ⊤, List, [], ◌∷◌, ◌++◌, Option, Some, None, map, slice_get, unwrap_or}
use Rattle.std.specs.FinMap.{get, values}
use Rattle.fs_history.specs.History.{at}
use Rattle.fs_history.specs.declared.read.Read.{Read}
use Rattle.fs_history.specs.declared.read.Read.TheVariants as read
use Rattle.fs_path.specs.declared.field.FieldPath.{FieldPath}
use Rattle.fs_path.specs.declared.name.DocName.{DocName}
use Rattle.fs_path.specs.declared.name.Root.{Root}
use Rattle.fs_query.specs.AnswerTo.{answer_to}
use Rattle.fs_query.specs.Asked.{Asked}
use Rattle.fs_request.specs.declared.message.BatchAnswer.{BatchAnswer}
use Rattle.fs_request.specs.declared.message.BatchAnswer.TheVariants.{Found, Missing}
use Rattle.fs_request.specs.declared.message.Message.{Message}
use Rattle.fs_request.specs.declared.message.Message.TheVariants as message
use Rattle.fs_request.specs.declared.options.TransactionOptions.{TransactionOptions}
use Rattle.fs_request.specs.declared.request.Envelope.{Envelope}
use Rattle.fs_request.specs.declared.request.Request.{Request}
use Rattle.fs_request.specs.declared.request.Request.TheVariants.{GetDocument, BatchGetDocuments, RunQuery, BeginTransaction}
use Rattle.fs_request.specs.declared.when.When.{When}
use Rattle.fs_request.specs.declared.when.When.TheVariants.{Released, At, In}
use Rattle.fs_status.specs.Refusal.{refusal_of}
use Rattle.fs_status.specs.declared.reason.Reason.TheVariants.{NoDocument}
use Rattle.fs_txn.specs.Transactions.{is_read_write, txn_of}
use Rattle.fs_txn.specs.declared.kind.Kind.{Kind}
use Rattle.fs_txn.specs.declared.kind.Kind.TheVariants.{ReadWrite, ReadOnly}
use Rattle.fs_txn.specs.declared.txn.Txn.{Txn}
use Rattle.fs_value.specs.declared.document.Document.{Document}
use Rattle.fs_write.specs.Batch.{Docs}
use Rattle.fs_machine.specs.Event.{Event, after}
use Rattle.fs_machine.specs.Facts.{Facts}
use Rattle.fs_machine.specs.Past.{Past}
use Rattle.fs_machine.specs.Read.{masked}
use Rattle.fs_machine.specs.Request.{Decision, answered, arrival_refusal, asked, decision}
use Rattle.fs_machine.specs.Retry.{retried, retry_decision, tried_answer}
use Rattle.fs_machine.specs.State.{Machine}
use Rattle.fs_machine.specs.Transact.{kind_of, time_asked}
use Rattle.fs_machine.specs.declared.answer.Answer.{Answer}
use Rattle.fs_machine.specs.declared.answer.Answer.TheVariants.{Reply, Refused}
use Rattle.fs_machine.specs.declared.config.Mode.{Mode}
use Rattle.fs_machine.specs.declared.config.Mode.TheVariants.{Pessimistic, Optimistic}
use Rattle.fs_machine.specs.declared.parked_request.ParkedRequest.{ParkedRequest}

-- ---- the time of a read

-- that of one in a transaction: in pessimistic mode a read-write one reads what is released, and all others read at their own time
abbrev pub IsTimeFor : Mode → Kind → Past → ℤ → ℤ → Type 0
IsTimeFor Pessimistic ReadWrite p own t = t ≡ p.released
IsTimeFor Pessimistic ReadOnly p own t = t ≡ own
IsTimeFor Optimistic kind p own t = t ≡ own

abbrev pub IsTimeOf : Machine → When → ℤ → Type 0
IsTimeOf m Released t = t ≡ m.past.released
IsTimeOf m (At time) t = t ≡ time
IsTimeOf m (In id) t = (txn : Txn) × (txn_of id m.txns.open ≡ Some txn) × IsTimeFor m.config.mode txn.kind m.past txn.read_time t

-- ---- what these documents give, as it is told

abbrev pub IsGotten : Docs → ℤ → Option (List ℕ) → DocName → Option (List FieldPath) → Answer → Type 0
IsGotten docs t id name mask a =
    ((d : Document) × (get docs name ≡ Some d) × (a ≡ Reply (message.GetDocument id (masked mask d)))) ⊎ ((get docs name ≡ None) × (a ≡ Refused (refusal_of (NoDocument t))))

-- of one name that is asked for, and of several in their order
abbrev pub IsOneOf : Docs → ℤ → Option (List FieldPath) → DocName → BatchAnswer → Type 0
IsOneOf docs t mask name (Found shown time) = (d : Document) × (get docs name ≡ Some d) × (shown ≡ masked mask d) × (time ≡ t)
IsOneOf docs t mask name (Missing missing time) = (get docs name ≡ None) × (missing ≡ name) × (time ≡ t)

abbrev pub AreAllOf : Docs → ℤ → Option (List FieldPath) → List DocName → List BatchAnswer → Type 0
AreAllOf docs t mask [] [] = ⊤
AreAllOf docs t mask [] (a ∷ more) = ⊥
AreAllOf docs t mask (n ∷ ns) [] = ⊥
AreAllOf docs t mask (n ∷ ns) (a ∷ more) = IsOneOf docs t mask n a × AreAllOf docs t mask ns more

abbrev pub AreGotten : Docs → ℤ → Option (List ℕ) → List DocName → Option (List FieldPath) → Answer → Type 0
AreGotten docs t id names mask a = (told : List BatchAnswer) × (a ≡ Reply (message.BatchGetDocuments id told)) × AreAllOf docs t mask names told

abbrev pub AreFound : Docs → ℤ → Option (List ℕ) → Asked → Answer → Type 0
AreFound docs t id query a = a ≡ Reply (message.RunQuery id (map (masked query.select) (answer_to query (values docs))) t)

-- they are those of the time of the read, which can be read
pub record IsOfItsTime (m : Machine) (when : When) (tells : Docs → ℤ → Type 0) : Type 0 where
  pub time : ℤ
  pub its : IsTimeOf m when time
  pub floor : m.past.floor ≤ℤ time
  pub released : time ≤ℤ m.past.released
  pub told : tells (at m.past.history time) time

-- a read that is carried out is answered so
abbrev pub ReadsItsTime : Machine → Option (List ℕ) → Request → Answer → Type 0
ReadsItsTime m id (GetDocument name mask when) a = IsOfItsTime m when (λ docs t. IsGotten docs t id name mask a)
ReadsItsTime m id (BatchGetDocuments database names mask when) a = IsOfItsTime m when (λ docs t. AreGotten docs t id names mask a)
ReadsItsTime m id (RunQuery database query when) a = IsOfItsTime m when (λ docs t. AreFound docs t id query a)
ReadsItsTime m id _ a = ⊤

-- ---- what is noted

-- a read by what it is told: the document that is told, as far as the mask shows it, or that there is none
abbrev pub IsNotedGet : DocName → Option (List FieldPath) → Option (List ℕ) → Answer → List Read → Type 0
IsNotedGet name mask id a rs =
    ((d : Document) × (rs ≡ read.Name name (Some d) ∷ []) × (a ≡ Reply (message.GetDocument id (masked mask d)))) ⊎ ((t : ℤ) × (rs ≡ read.Name name None ∷ []) × (a ≡ Refused (refusal_of (NoDocument t))))

abbrev pub IsNotedAs : Option (List FieldPath) → DocName → BatchAnswer → Read → Type 0
IsNotedAs mask name (Found shown time) r = (d : Document) × (r ≡ read.Name name (Some d)) × (shown ≡ masked mask d)
IsNotedAs mask name (Missing missing time) r = (r ≡ read.Name name None) × (missing ≡ name)

-- one read for each name, in their order
abbrev pub AreNotedAs : Option (List FieldPath) → List DocName → List BatchAnswer → List Read → Type 0
AreNotedAs mask [] [] [] = ⊤
AreNotedAs mask (n ∷ ns) (a ∷ more) (r ∷ rs) = IsNotedAs mask n a r × AreNotedAs mask ns more rs
AreNotedAs mask _ _ _ = ⊥

abbrev pub AreNotedGets : List DocName → Option (List FieldPath) → Option (List ℕ) → Answer → List Read → Type 0
AreNotedGets names mask id a rs = (told : List BatchAnswer) × (a ≡ Reply (message.BatchGetDocuments id told)) × AreNotedAs mask names told rs

abbrev pub IsNotedQuery : Asked → Option (List ℕ) → Answer → List Read → Type 0
IsNotedQuery query id a rs = (shown : List Document) × (t : ℤ) × (rs ≡ read.Query query shown ∷ []) × (a ≡ Reply (message.RunQuery id (map (masked query.select) shown) t))

-- one that reads and writes has these reads behind its others
pub record HasReadMore (n : Machine) (id : ℕ) (t : Txn) (tells : List Read → Type 0) : Type 0 where
  pub more : List Read
  pub later : Txn
  pub found : txn_of id n.txns.open ≡ Some later
  pub reads : later.reads ≡ t.reads ++ more
  pub told : tells more

abbrev pub NotesIn : Machine → Machine → When → (List Read → Type 0) → Type 0
NotesIn m n Released tells = ⊤
NotesIn m n (At time) tells = ⊤
NotesIn m n (In id) tells = (t : Txn) → txn_of id m.txns.open ≡ Some t → is_read_write t.kind ≡ true → HasReadMore n id t tells

-- what a read in a read-write transaction is told is noted as read, and nothing else
abbrev pub NotesWhatItTells : Machine → Machine → Option (List ℕ) → Request → Answer → Type 0
NotesWhatItTells m n id (GetDocument name mask when) a = NotesIn m n when (IsNotedGet name mask id a)
NotesWhatItTells m n id (BatchGetDocuments database names mask when) a = NotesIn m n when (AreNotedGets names mask id a)
NotesWhatItTells m n id (RunQuery database query when) a = NotesIn m n when (IsNotedQuery query id a)
NotesWhatItTells m n id _ a = ⊤

-- ---- the laws

-- a request that comes is carried out
pub record GoesOn (m : Machine) (session : ℕ) (r : Request) : Type 0 where
  pub within : arrival_refusal m session r ≡ None
  pub decided : decision m session r ≡ Decision.goes_on

abbrev pub AskedReads : Machine → Type 0
AskedReads m = (session : ℕ) (e : Envelope) → GoesOn m session e.request
    → ReadsItsTime m e.id e.request (answered m session e) × NotesWhatItTells m (asked m session e) e.id e.request (answered m session e)

abbrev pub RetriedReads : Machine → Type 0
RetriedReads m = (place : ℕ) (r : ParkedRequest) → slice_get m.parked place ≡ Some r → retry_decision m r.session r.envelope.request ≡ Decision.goes_on
    → ReadsItsTime m r.envelope.id r.envelope.request (tried_answer m r) × NotesWhatItTells m (retried m place) r.envelope.id r.envelope.request (tried_answer m r)

-- and a read is replied to only where it is carried out
abbrev pub is_read : Request → Bool
is_read (GetDocument name mask when) = true
is_read (BatchGetDocuments database names mask when) = true
is_read (RunQuery database query when) = true
is_read _ = false

abbrev pub OnlyCarriedOutReply : Machine → Type 0
OnlyCarriedOutReply m = ((session : ℕ) (e : Envelope) (reply : Message) → is_read e.request ≡ true → answered m session e ≡ Reply reply → GoesOn m session e.request)
    × ((r : ParkedRequest) (reply : Message) → is_read r.envelope.request ≡ true → tried_answer m r ≡ Reply reply → retry_decision m r.session r.envelope.request ≡ Decision.goes_on)

abbrev pub ReadsAreTrue : Type 0
ReadsAreTrue = (m : Machine) → Facts m → AskedReads m × RetriedReads m × OnlyCarriedOutReply m

-- a transaction that is open reads at what was released at its begin, or at the time that was asked for then, whatever came meanwhile; and it is what it was
abbrev pub TimesOfReadsStay : Type 0
TimesOfReadsStay = (m : Machine) (session : ℕ) (e : Envelope) (database : Root) (options : TransactionOptions) (id : ℕ) (events : List Event) (t : Txn) → Facts m
    → e.request ≡ BeginTransaction database options → answered m session e ≡ Reply (message.BeginTransaction e.id id) → txn_of id (after (asked m session e) events).txns.open ≡ Some t
    → (t.read_time ≡ unwrap_or (time_asked options) m.past.released) × (t.kind ≡ kind_of options)
