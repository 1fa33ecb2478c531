-- For private clauses: the tokens of parts of answers.
use Rattle.std.specs.Prelude.{ℕ, Bool, true, false, List, [], ◌∷◌, ◌++◌, Option, codes, decimal, map}
use Rattle.json.specs.Token.{Token, begin_object, end_object, key, number}
use Rattle.serde_json.specs.Data.{Data, array, no_members}
use Rattle.serde_json.specs.View.{items_of}
use Rattle.fs_rpc.specs.MessageJson.{batch_answer_json, with_id}
use Rattle.fs_request.specs.declared.message.BatchAnswer.{BatchAnswer}
use Rattle.fs_request.specs.declared.message.Message.{Message}
use Rattle.fs_request.specs.declared.message.Message.TheVariants.{Commit, GetDocument, BatchGetDocuments, RunQuery, BeginTransaction, Rollback, Listen, Write, Error}
use Rattle.fs_status.specs.Status.{http_of}
use Rattle.fs_status.specs.declared.code.Code.{Code}
use Rattle.fs_valjson.specs.Tokens.{member_tokens}

-- whether the session stands before the members of a message
abbrev pub session_first : Message → Bool
session_first (Commit id time results) = false
session_first (GetDocument id document) = false
session_first (BatchGetDocuments id answers) = false
session_first (RunQuery id documents time) = false
session_first (BeginTransaction id transaction) = false
session_first (Rollback id) = false
session_first (Listen told) = false
session_first (Write stream token answer) = true
session_first (Error id code message) = false

-- what stands before a result
abbrev pub result_head : Option (List ℕ) → List Token
result_head id = member_tokens (with_id id no_members) ++ key (codes "result") ∷ []

abbrev pub code_member : Code → List Token
code_member code = key (codes "code") ∷ number (decimal (http_of code)) ∷ []

-- what is told of several names
abbrev pub answers_json : List BatchAnswer → Data
answers_json answers = array (items_of (map batch_answer_json answers))

-- what stands before the members of what a session that listens is told, and behind them
abbrev pub told_head : List ℕ → List Token
told_head name = begin_object ∷ key name ∷ begin_object ∷ []

abbrev pub told_end : List Token
told_end = end_object ∷ end_object ∷ []
