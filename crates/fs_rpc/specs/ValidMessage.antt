-- The messages that are read back from what is written of them.
use Rattle.std.specs.Prelude.{ℕ, ◌<◌, ◌^◌, List, IfSome}
use Rattle.std.specs.List.{AllByRecursion}
use Rattle.fs_path.specs.Document.{IsDocumentOf}
use Rattle.fs_path.specs.declared.name.Root.{Root}
use Rattle.fs_query.specs.declared.listen.ListenMessage.{ListenMessage}
use Rattle.fs_query.specs.declared.listen.ListenMessage.TheVariants.{Add, Remove, Reset, Current, NoChange, Changed, Deleted, Removed}
use Rattle.fs_valjson.specs.Valid.{IsValid}
use Rattle.fs_request.specs.declared.message.BatchAnswer.{BatchAnswer}
use Rattle.fs_request.specs.declared.message.BatchAnswer.TheVariants.{Found, Missing}
use Rattle.fs_request.specs.declared.message.StreamAnswer.{StreamAnswer}
use Rattle.fs_request.specs.declared.message.StreamAnswer.TheVariants.{Stands, Committed, Refused}
use Rattle.fs_request.specs.declared.message.Message.{Message}
use Rattle.fs_request.specs.declared.message.Message.TheVariants.{Commit, GetDocument, BatchGetDocuments, RunQuery, BeginTransaction, Rollback, Listen, Write, Error}
use Rattle.fs_writejson.specs.Valid.{ResultHasNames}

-- what is told of a name of the root
abbrev pub IsAnswerOf : Root → BatchAnswer → Type 0
IsAnswerOf root (Found document time) = IsValid root document
IsAnswerOf root (Missing name time) = IsDocumentOf root name

-- a number of 32 bits, of which one is the sign, as those of targets and of statuses are
abbrev pub IsSmall : ℕ → Type 0
IsSmall n = n < 2 ^ 31

abbrev pub AreSmall : List ℕ → Type 0
AreSmall ns = AllByRecursion IsSmall ns

-- what a session is told of the root's documents
abbrev pub IsListenOf : Root → ListenMessage → Type 0
IsListenOf root (Add targets) = AreSmall targets
IsListenOf root (Remove targets cause) = AreSmall targets × IfSome cause (λ c. IsSmall c.code)
IsListenOf root (Reset targets) = AreSmall targets
IsListenOf root (Current targets time token) = AreSmall targets
IsListenOf root (NoChange time token) = Unit {0}
IsListenOf root (Changed document targets left) = IsValid root document × AreSmall targets × AreSmall left
IsListenOf root (Deleted name time left) = IsDocumentOf root name × AreSmall left
IsListenOf root (Removed name time left) = IsDocumentOf root name × AreSmall left

-- the results of a batch, whose references are names of documents
abbrev pub HasAnswerNames : StreamAnswer → Type 0
HasAnswerNames Stands = Unit {0}
HasAnswerNames (Committed time results) = AllByRecursion ResultHasNames results
HasAnswerNames (Refused code message) = Unit {0}

-- a message of the root's documents: those that it has, and the names of those that it hasn't found, are the root's
abbrev pub IsMessageOf : Root → Message → Type 0
IsMessageOf root (Commit id time results) = AllByRecursion ResultHasNames results
IsMessageOf root (GetDocument id document) = IsValid root document
IsMessageOf root (BatchGetDocuments id answers) = AllByRecursion (IsAnswerOf root) answers
IsMessageOf root (RunQuery id documents time) = AllByRecursion (IsValid root) documents
IsMessageOf root (BeginTransaction id transaction) = Unit {0}
IsMessageOf root (Rollback id) = Unit {0}
IsMessageOf root (Listen told) = IsListenOf root told
IsMessageOf root (Write stream token answer) = HasAnswerNames answer
IsMessageOf root (Error id code message) = Unit {0}
