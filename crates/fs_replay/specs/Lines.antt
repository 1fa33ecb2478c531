-- How much is written for a line, where no transaction keeps commits waiting, and no session has a target.
use Rattle.std.specs.Prelude.{◌≡◌, ℕ, Bool, true, false, not, ◌&&◌, ◌||◌, ◌==◌, is_some, List, [], ◌∷◌, ◌++◌, Result, Ok, Err}
use Rattle.std.specs.FinMap.{entries}
use Rattle.std.specs.List.{list_any}
use Rattle.fs_json.specs.declared.bad.Bad.{Bad}
use Rattle.fs_listen.specs.Listening.{Listened}
use Rattle.fs_machine.specs.Listeners.{Listener}
use Rattle.fs_machine.specs.State.{Machine}
use Rattle.fs_machine.specs.declared.config.Mode.{Mode}
use Rattle.fs_machine.specs.declared.config.Mode.TheVariants.{Pessimistic, Optimistic}
use Rattle.fs_machine.specs.declared.parked_request.ParkedRequest.{ParkedRequest}
use Rattle.fs_request.specs.declared.request.Request.{Request}
use Rattle.fs_request.specs.declared.request.Request.TheVariants.{Commit, GetDocument, BatchGetDocuments, RunQuery, BeginTransaction, Rollback, AddTarget, RemoveTarget}
use Rattle.fs_request.specs.declared.request.Request.TheVariants as request
use Rattle.fs_txn.specs.Transactions.{is_read_write}
use Rattle.fs_txn.specs.declared.txn.Txn.{Txn}
use Rattle.fs_replay.specs.Line.{line_of}
use Rattle.fs_replay.specs.declared.request.Line.{Line}
use Rattle.fs_replay.specs.declared.request.Line.TheVariants as line
use Rattle.fs_replay.specs.declared.state.State.{State}

-- ---- what waits, and who listens

abbrev pub none_waits : List ParkedRequest → Bool
none_waits [] = true
none_waits (r ∷ rs) = false

abbrev pub is_any : List (ℕ × Listened) → Bool
is_any [] = false
is_any (e ∷ es) = true

-- no session has a target
abbrev pub nobody_listens : Machine → Bool
nobody_listens m = not (list_any (λ (l : Listener). is_any (entries l.listening.targets)) m.listeners)

-- ---- lines

abbrev pub line_in_state : State → List ℕ → Line
line_in_state s bytes = line_of s.server.config.root bytes

-- whether a line is answered
abbrev pub is_answered : Line → Bool
is_answered line.Empty = false
is_answered line.NotBuilt = true
is_answered (line.Refused reason) = true
is_answered (line.Asked a) = true
is_answered (line.Clock time) = false
is_answered (line.Compact time) = false
is_answered (line.Leave name) = false
is_answered (line.Manual on) = false
is_answered (line.Settle id) = false
is_answered line.Retry = false
is_answered (line.Load name target at) = false
is_answered (line.Match shard) = false
is_answered (line.Raise name) = false

-- whether it gives nothing in any case: the clock may let requests go on that wait, as a transaction expires, and each session that listens is
-- told that it went on
abbrev pub is_silent : State → Line → Bool
is_silent s line.Empty = true
is_silent s line.NotBuilt = false
is_silent s (line.Refused reason) = false
is_silent s (line.Asked a) = false
is_silent s (line.Clock time) = s.manual || (none_waits s.server.parked && nobody_listens s.server)
is_silent s (line.Compact time) = true
is_silent s (line.Leave name) = false
is_silent s (line.Manual on) = on
is_silent s (line.Settle id) = false
is_silent s line.Retry = false
is_silent s (line.Load name target at) = false
is_silent s (line.Match shard) = false
is_silent s (line.Raise name) = false

-- one line of output: a text without a newline, and its newline
abbrev pub IsOneLine : List ℕ → Type 0
IsOneLine output = (text : List ℕ) × (output ≡ text ++ 10 ∷ []) × (list_any (λ b. b == 10) text ≡ false)

-- ---- transactions

-- whether one that is open may keep commits waiting: in pessimistic mode, one that reads and writes
abbrev pub some_keep : Mode → List Txn → Bool
some_keep Pessimistic ts = list_any (λ t. is_read_write t.kind) ts
some_keep Optimistic ts = false

abbrev pub keeps_waiting : Machine → Bool
keeps_waiting m = some_keep m.config.mode m.txns.open

-- whether a request is to end one
abbrev pub ends_one : Request → Bool
ends_one (Commit database writes transaction) = is_some transaction
ends_one (GetDocument name mask when) = false
ends_one (BatchGetDocuments database names mask when) = false
ends_one (RunQuery database query when) = false
ends_one (BeginTransaction database options) = false
ends_one (Rollback database transaction) = true
ends_one (AddTarget database id t token) = false
ends_one (RemoveTarget database id) = false
ends_one (request.Write database asked) = false

abbrev pub ends_read : Result Request Bad → Bool
ends_read (Ok request) = ends_one request
ends_read (Err bad) = false

-- whether a line is a request that is to end one while others wait, which may go on then, unless the script settles by hand
abbrev pub may_let_on : State → Line → Bool
may_let_on s line.Empty = false
may_let_on s line.NotBuilt = false
may_let_on s (line.Refused reason) = false
may_let_on s (line.Asked a) = not s.manual && (ends_read a.request && not (none_waits s.server.parked))
may_let_on s (line.Clock time) = false
may_let_on s (line.Compact time) = false
may_let_on s (line.Leave name) = false
may_let_on s (line.Manual on) = false
may_let_on s (line.Settle id) = false
may_let_on s line.Retry = false
may_let_on s (line.Load name target at) = false
may_let_on s (line.Match shard) = false
may_let_on s (line.Raise name) = false
