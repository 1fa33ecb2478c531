-- What only private clauses cite: that the parts of a message, as they are written, are read back.
use Rattle.std.specs.Prelude.{◌≡◌, ℕ, List, Some}
use Rattle.std.specs.List.{AllByRecursion}
use Rattle.fs_json.specs.Base64.{bytes_json, bytes_of}
use Rattle.fs_json.specs.Time.{IsTimeHeld}
use Rattle.fs_query.specs.declared.listen.ListenMessage.{ListenMessage}
use Rattle.fs_query.specs.declared.listen.ListenMessage.TheVariants.{Add, Remove, Reset, Current, NoChange, Changed, Deleted, Removed}
use Rattle.fs_valjson.specs.Valid.{IsDocumentHeld}
use Rattle.fs_writejson.specs.Results.{IsResultHeld}
use Rattle.fs_rpc.specs.Decimal.{IsDecimalHeld}
use Rattle.fs_rpc.specs.Eight.{IsEightHeld}
use Rattle.fs_request.specs.declared.message.BatchAnswer.{BatchAnswer}
use Rattle.fs_request.specs.declared.message.BatchAnswer.TheVariants.{Found, Missing}
use Rattle.fs_request.specs.declared.message.StreamAnswer.{StreamAnswer}
use Rattle.fs_request.specs.declared.message.StreamAnswer.TheVariants.{Stands, Committed, Refused}
use Rattle.fs_request.specs.declared.message.Message.{Message}
use Rattle.fs_request.specs.declared.message.Message.TheVariants.{Commit, GetDocument, BatchGetDocuments, RunQuery, BeginTransaction, Rollback, Listen, Write, Error}

-- what is told of a name
abbrev pub IsAnswerHeld : BatchAnswer → Type 0
IsAnswerHeld (Found document time) = IsDocumentHeld document × IsTimeHeld time
IsAnswerHeld (Missing name time) = IsTimeHeld time

-- a token
abbrev pub IsTokenHeld : List ℕ → Type 0
IsTokenHeld token = bytes_of (bytes_json token) ≡ Some token

-- the documents, the times and the tokens of what a session is told
abbrev pub IsListenHeld : ListenMessage → Type 0
IsListenHeld (Add targets) = Unit {0}
IsListenHeld (Remove targets cause) = Unit {0}
IsListenHeld (Reset targets) = Unit {0}
IsListenHeld (Current targets time token) = IsTimeHeld time × IsTokenHeld token
IsListenHeld (NoChange time token) = IsTimeHeld time × IsTokenHeld token
IsListenHeld (Changed document targets left) = IsDocumentHeld document
IsListenHeld (Deleted name time left) = IsTimeHeld time
IsListenHeld (Removed name time left) = IsTimeHeld time

-- the time and the results of a batch
abbrev pub IsAnsweredHeld : StreamAnswer → Type 0
IsAnsweredHeld Stands = Unit {0}
IsAnsweredHeld (Committed time results) = IsTimeHeld time × AllByRecursion IsResultHeld results
IsAnsweredHeld (Refused code message) = Unit {0}

-- a stream, its token, and what is told of it
pub record IsStreamHeld (n : ℕ) (finished : ℕ) (told : StreamAnswer) : Type 0 where
  pub stream : IsDecimalHeld n
  pub token : IsEightHeld finished
  pub answer : IsAnsweredHeld told

-- the documents, the times, the results, the transaction and the stream of a message
abbrev pub IsMessageHeld : Message → Type 0
IsMessageHeld (Commit id time results) = IsTimeHeld time × AllByRecursion IsResultHeld results
IsMessageHeld (GetDocument id document) = IsDocumentHeld document
IsMessageHeld (BatchGetDocuments id answers) = AllByRecursion IsAnswerHeld answers
IsMessageHeld (RunQuery id documents time) = AllByRecursion IsDocumentHeld documents × IsTimeHeld time
IsMessageHeld (BeginTransaction id transaction) = IsEightHeld transaction
IsMessageHeld (Rollback id) = Unit {0}
IsMessageHeld (Listen told) = IsListenHeld told
IsMessageHeld (Write stream token answer) = IsStreamHeld stream token answer
IsMessageHeld (Error id code message) = Unit {0}
