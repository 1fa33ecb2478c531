-- Where a script starts, and what a line does: to the server and the sessions, and to the output. A line is an event of the
-- server, with what it answers at once, and then the outboxes are emptied. Then commits are settled, and requests that wait are tried
-- again, until there is nothing left to do (Settling.antt): unless the script settles by hand.
--
--     s begins            {"id":"1","result":{"transaction":"AAAAAAAAAAE="},"session":"s"}
--     s reads c/a in it   its answer
--     t commits c/a       nothing: it waits
--     s rolls it back     {"id":"4","result":{},"session":"s"}, and behind it what t is answered
use Rattle.std.specs.Prelude.{ℕ, ℤ, pos, Bool, false, ◌&&◌, nat_lt, is_some, List, [], ◌∷◌, ◌++◌, Option, Some, None, Result, Ok, Err, codes, if◌then◌else◌}
use Rattle.std.specs.FinMap.{get}
use Rattle.fs_json.specs.declared.bad.Bad.{Bad}
use Rattle.fs_machine.specs.declared.config.Config.{Config}
use Rattle.fs_machine.specs.declared.limits.Limits.{Limits}
use Rattle.fs_listen.specs.Cuts.{is_loaded}
use Rattle.fs_listen.specs.Listening.{Listened}
use Rattle.fs_machine.specs.Event.{Event}
use Rattle.fs_machine.specs.Listen.{listening_of}
use Rattle.fs_machine.specs.Load.{load_refusal}
use Rattle.fs_machine.specs.Open.{open_answer, opened}
use Rattle.fs_machine.specs.Request.{answered}
use Rattle.fs_machine.specs.Settle.{pending_of}
use Rattle.fs_machine.specs.State.{started}
use Rattle.fs_machine.specs.Tick.{later}
use Rattle.fs_request.specs.Refused.{refused}
use Rattle.fs_rpc.specs.MessageJson.{error_json}
use Rattle.fs_rpc.specs.declared.envelope.SessionRequest.{SessionRequest}
use Rattle.fs_request.specs.declared.request.Envelope.{Envelope}
use Rattle.fs_request.specs.declared.request.Request.{Request}
use Rattle.fs_status.specs.Refusal.{refusal_of}
use Rattle.fs_status.specs.declared.code.Code.TheVariants.{Unimplemented}
use Rattle.fs_status.specs.declared.reason.LineFault.TheVariants.{DoesNotApply}
use Rattle.fs_status.specs.declared.reason.Reason.{Reason}
use Rattle.fs_status.specs.declared.reason.Reason.TheVariants as reasons
use Rattle.fs_status.specs.declared.refusal.Refusal.{Refusal}
use Rattle.fs_replay.specs.Directory.{number_of, without}
use Rattle.fs_replay.specs.Line.{line_of, reason_of}
use Rattle.fs_replay.specs.Outboxes.{message_line, reply_output}
use Rattle.fs_replay.specs.Played.{Played, followed_by, happens, nothing, prints}
use Rattle.fs_replay.specs.Reply.{refused_json, line_error, json_line}
use Rattle.fs_replay.specs.Settling.{closed, emptied, settles, tries_all}
use Rattle.fs_replay.specs.declared.request.Line.{Line}
use Rattle.fs_replay.specs.declared.request.Line.TheVariants as line
use Rattle.fs_replay.specs.declared.state.State.{State}

-- 2024-01-01T00:00:00Z
abbrev pub start_moment : ℤ
start_moment = pos 1704067200000000

-- a server without documents, and no session; commits are settled by themselves
abbrev pub start : Config → Limits → State
start config limits = record { server = started config limits start_moment; directory = []; moment = start_moment; manual = false }

-- ---- requests

abbrev pub requested : State → List ℕ → ℕ → Envelope → Played
requested s name number e = happens s (Event.asking number e) (reply_output name e.id (answered s.server number e))

-- a request on the session of a number, one that isn't read too
abbrev pub asks : State → List ℕ → ℕ → Option (List ℕ) → Result Request Bad → Played
asks s name number id (Ok request) = requested s name number (record { id = id; request = request })
asks s name number id (Err bad) = prints s (message_line name (refused id (refusal_of (reason_of bad))))

-- with one session more
abbrev pub named : State → List ℕ → ℕ → State
named s name number = record s { directory = s.directory ++ record { name = name; number = number } ∷ [] }

-- if it opens
abbrev pub named_if : State → List ℕ → Result ℕ Refusal → State
named_if s name (Ok number) = named s name number
named_if s name (Err refusal) = s

-- A session opens with its first request: the state then,
abbrev pub entered : State → List ℕ → Option ℕ → State
entered s name (Some number) = s
entered s name None = named_if (record s { server = opened s.server }) name (open_answer s.server)

-- and its number, or why it may not open.
abbrev pub entry : State → Option ℕ → Result ℕ Refusal
entry s (Some number) = Ok number
entry s None = open_answer s.server

-- Where it may not, the request isn't carried out.
abbrev pub asks_if : State → SessionRequest → Result ℕ Refusal → Played
asks_if s a (Ok number) = asks s a.session number a.id a.request
asks_if s a (Err refusal) = prints s (message_line a.session (refused a.id refusal))

-- whether it opens
abbrev pub opening : Option ℕ → List Event
opening (Some number) = []
opening None = Event.opening ∷ []

abbrev pub enters : State → List ℕ → Option ℕ → Played
enters s name number = record { state = entered s name number; output = []; events = opening number }

abbrev pub in_session : State → SessionRequest → Option ℕ → Played
in_session s a number = followed_by (enters s a.session number) (λ t. asks_if t a (entry s number))

-- ---- other lines

abbrev pub error_line : Reason → ℕ → List ℕ
error_line reason n = json_line (line_error (refused_json reason) n)

-- the clock goes on, and never back
abbrev pub clocks : State → ℤ → Played
clocks s time =
    followed_by (followed_by (happens (record s { moment = later s.moment time }) (Event.advancing (later s.moment time)) []) (λ t. happens t Event.releasing [])) closed

-- a line that is of a form, and does not apply as things stand
abbrev pub does_not_apply : State → ℕ → Played
does_not_apply s n = prints s (error_line (reasons.Line DoesNotApply) n)

abbrev pub leaves : State → ℕ → List ℕ → Option ℕ → Played
leaves s n name None = does_not_apply s n
leaves s n name (Some number) = followed_by (happens (record s { directory = without name s.directory }) (Event.leaving number) []) closed

-- ---- settling by hand: only where nothing settles by itself

-- a commit that is pending is settled, with what its writes come to
abbrev pub settles_by_hand : State → ℕ → ℕ → Played
settles_by_hand s n id = if s.manual && is_some (pending_of s.server.past id) then settles s id else does_not_apply s n

-- each request that waits is tried once
abbrev pub tries_by_hand : State → ℕ → Played
tries_by_hand s n = if s.manual then tries_all s else does_not_apply s n

-- ---- targets by hand: only where nothing is done by itself

-- why a target isn't loaded is told, without an id
abbrev pub load_output : List ℕ → Option Refusal → List ℕ
load_output name None = []
load_output name (Some refusal) = message_line name (refused None refusal)

abbrev pub loads : State → List ℕ → ℕ → ℕ → Option ℤ → Played
loads s name number target at =
    followed_by (happens s (Event.loading number target at) (load_output name (load_refusal s.server number target at))) emptied

abbrev pub is_loaded_target : Option Listened → Bool
is_loaded_target None = false
is_loaded_target (Some l) = is_loaded l.loaded

-- one that is loaded isn't loaded again
abbrev pub loads_named : State → ℕ → List ℕ → ℕ → Option ℤ → Option ℕ → Played
loads_named s n name target at None = does_not_apply s n
loads_named s n name target at (Some number) =
    if is_loaded_target (get (listening_of s.server number).targets target) then does_not_apply s n else loads s name number target at

abbrev pub loads_by_hand : State → ℕ → List ℕ → ℕ → Option ℤ → Played
loads_by_hand s n name target at = if s.manual then loads_named s n name target at (number_of name s.directory) else does_not_apply s n

-- a shard that is there is matched up to what is released
abbrev pub matches_by_hand : State → ℕ → ℕ → Played
matches_by_hand s n shard =
    if s.manual && nat_lt shard s.server.config.shards then followed_by (happens s (Event.matching shard s.server.past.released) []) emptied
    else does_not_apply s n

abbrev pub raises_named : State → ℕ → Option ℕ → Played
raises_named s n None = does_not_apply s n
raises_named s n (Some number) = followed_by (happens s (Event.raising number) []) emptied

abbrev pub raises_by_hand : State → ℕ → List ℕ → Played
raises_by_hand s n name = if s.manual then raises_named s n (number_of name s.directory) else does_not_apply s n

-- ---- lines

abbrev pub line_played : State → ℕ → Line → Played
line_played s n line.Empty = nothing s
line_played s n line.NotBuilt = prints s (json_line (line_error (error_json Unimplemented (codes "line not read yet")) n))
line_played s n (line.Refused reason) = prints s (error_line reason n)
line_played s n (line.Asked a) = followed_by (in_session s a (number_of a.session s.directory)) closed
line_played s n (line.Clock time) = clocks s time
line_played s n (line.Compact time) = followed_by (happens s (Event.compacting time) []) closed
line_played s n (line.Leave name) = leaves s n name (number_of name s.directory)
line_played s n (line.Manual on) = closed (record s { manual = on })
line_played s n (line.Settle id) = settles_by_hand s n id
line_played s n line.Retry = tries_by_hand s n
line_played s n (line.Load name target at) = loads_by_hand s n name target at
line_played s n (line.Match shard) = matches_by_hand s n shard
line_played s n (line.Raise name) = raises_by_hand s n name

-- the state after a line, which has this number
unfoldable pub after_line : State → ℕ → List ℕ → State
after_line s n bytes = (line_played s n (line_of s.server.config.root bytes)).state

-- the events of the server that it is
unfoldable pub line_events : State → ℕ → List ℕ → List Event
line_events s n bytes = (line_played s n (line_of s.server.config.root bytes)).events

-- what is written for it
unfoldable pub line_output : State → ℕ → List ℕ → List ℕ
line_output s n bytes = (line_played s n (line_of s.server.config.root bytes)).output
