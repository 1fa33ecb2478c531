-- Which lines commit, what they write, and which may move what was committed.
use Rattle.std.specs.Prelude.{ℕ, ◌+◌, Bool, true, false, not, ◌||◌, List, [], ◌∷◌, Option, Some, None, Result, Ok, Err}
use Rattle.std.specs.List.{list_any}
use Rattle.fs_path.specs.declared.name.DocName.{DocName}
use Rattle.fs_json.specs.declared.bad.Bad.{Bad}
use Rattle.fs_machine.specs.Open.{open_answer, opened}
use Rattle.fs_machine.specs.Request.{answered}
use Rattle.fs_machine.specs.State.{Machine}
use Rattle.fs_machine.specs.declared.answer.Answer.{Answer}
use Rattle.fs_machine.specs.declared.answer.Answer.TheVariants.{Reply, Prepared, Held, InProgress, Refused}
use Rattle.fs_rpc.specs.declared.envelope.SessionRequest.{SessionRequest}
use Rattle.fs_request.specs.declared.request.Request.{Request}
use Rattle.fs_request.specs.declared.request.Request.TheVariants.{Commit, GetDocument, BatchGetDocuments, RunQuery, BeginTransaction, Rollback, AddTarget, RemoveTarget}
use Rattle.fs_request.specs.declared.request.Request.TheVariants as request
use Rattle.fs_request.specs.declared.stream_request.StreamRequest.{StreamRequest}
use Rattle.fs_request.specs.declared.stream_request.StreamRequest.TheVariants.{Open, Resume, Batch, Ask, Mixed}
use Rattle.fs_status.specs.declared.refusal.Refusal.{Refusal}
use Rattle.fs_write.specs.WrittenName.{is_written}
use Rattle.fs_write.specs.declared.write.Write.{Write}
use Rattle.fs_replay.specs.Directory.{number_of}
use Rattle.fs_replay.specs.Lines.{line_in_state, may_let_on}
use Rattle.fs_replay.specs.Step.{after_line}
use Rattle.fs_replay.specs.declared.request.Line.{Line}
use Rattle.fs_replay.specs.declared.request.Line.TheVariants as line
use Rattle.fs_replay.specs.declared.state.State.{State}

-- the writes of a batch; a stream that is named with them takes none
abbrev pub writes_in : StreamRequest → List Write
writes_in Open = []
writes_in (Resume n token) = []
writes_in (Batch token writes) = writes
writes_in (Ask token) = []
writes_in (Mixed n token writes) = []

-- the writes that a request asks for
abbrev pub writes_of : Request → List Write
writes_of (Commit database writes transaction) = writes
writes_of (GetDocument name mask when) = []
writes_of (BatchGetDocuments database names mask when) = []
writes_of (RunQuery database query when) = []
writes_of (BeginTransaction database options) = []
writes_of (Rollback database transaction) = []
writes_of (AddTarget database id t token) = []
writes_of (RemoveTarget database id) = []
writes_of (request.Write database asked) = writes_in asked

-- and those that a line asks for
abbrev pub writes_read : Result Request Bad → List Write
writes_read (Ok request) = writes_of request
writes_read (Err bad) = []

abbrev pub asked_writes : Line → List Write
asked_writes line.Empty = []
asked_writes line.NotBuilt = []
asked_writes (line.Refused reason) = []
asked_writes (line.Asked a) = writes_read a.request
asked_writes (line.Clock time) = []
asked_writes (line.Compact time) = []
asked_writes (line.Leave name) = []
asked_writes (line.Manual on) = []
asked_writes (line.Settle id) = []
asked_writes line.Retry = []
asked_writes (line.Load name target at) = []
asked_writes (line.Match shard) = []
asked_writes (line.Raise name) = []

-- whether one of the lines writes a name
abbrev pub is_written_in : DocName → State → ℕ → List (List ℕ) → Bool
is_written_in name s n [] = false
is_written_in name s n (line ∷ lines) = is_written name (asked_writes (line_in_state s line)) || is_written_in name (after_line s n line) (n + 1) lines

-- whether it is answered that a commit is under way
abbrev pub is_prepared : Answer → Bool
is_prepared (Reply message) = false
is_prepared (Prepared id time) = true
is_prepared (Held id) = false
is_prepared (InProgress finished) = false
is_prepared (Refused refusal) = false

-- whether a request on the session of a number is a commit that goes on: no limit is passed, it waits for nobody, and isn't aborted
abbrev pub commits_on : Machine → ℕ → Option (List ℕ) → Result Request Bad → Bool
commits_on m session id (Ok request) = is_prepared (answered m session (record { id = id; request = request }))
commits_on m session id (Err bad) = false

abbrev pub commits_opened : Machine → SessionRequest → Result ℕ Refusal → Bool
commits_opened m a (Ok session) = commits_on m session a.id a.request
commits_opened m a (Err refusal) = false

abbrev pub commits_in : Machine → SessionRequest → Option ℕ → Bool
commits_in m a (Some session) = commits_on m session a.id a.request
commits_in m a None = commits_opened (opened m) a (open_answer m)

abbrev pub is_commit : State → Line → Bool
is_commit s line.Empty = false
is_commit s line.NotBuilt = false
is_commit s (line.Refused reason) = false
is_commit s (line.Asked a) = commits_in s.server a (number_of a.session s.directory)
is_commit s (line.Clock time) = false
is_commit s (line.Compact time) = false
is_commit s (line.Leave name) = false
is_commit s (line.Manual on) = false
is_commit s (line.Settle id) = false
is_commit s line.Retry = false
is_commit s (line.Load name target at) = false
is_commit s (line.Match shard) = false
is_commit s (line.Raise name) = false

-- whether a line may move what was committed, or its times
abbrev pub may_move : State → Line → Bool
may_move s line.Empty = false
may_move s line.NotBuilt = false
may_move s (line.Refused reason) = false
may_move s (line.Asked a) = is_commit s (line.Asked a) || may_let_on s (line.Asked a)
may_move s (line.Clock time) = true
may_move s (line.Compact time) = true
may_move s (line.Leave name) = false
may_move s (line.Manual on) = not on
may_move s (line.Settle id) = true
may_move s line.Retry = true
may_move s (line.Load name target at) = false
may_move s (line.Match shard) = false
may_move s (line.Raise name) = false

-- whether a commit that isn't released, or a request that waits, writes a name
abbrev pub will_be_written : DocName → Machine → Bool
will_be_written name m =
    list_any (λ u. is_written name u.batch.writes) m.past.unreleased || list_any (λ r. is_written name (writes_of r.envelope.request)) m.parked
