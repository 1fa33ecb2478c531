-- All that a session is told of its targets, event by event, whether its outbox is taken meanwhile or not: by what its requests are
-- answered, and by what comes into its outbox.
--
--     the event                      session 0 is told
--     0 asks for target 1, on c      ADD 1, as the answer
--     loading 1 of 0                 -
--     raising 0                      CURRENT 1 and NO_CHANGE, in its outbox
--     taking 0                       -
use Rattle.std.specs.Prelude.{ℕ, Bool, ◌==◌, List, [], ◌∷◌, ◌++◌, Option, Some, None, drop, length, slice_get, if◌then◌else◌}
use Rattle.std.specs.List.{filter_map, list_any}
use Rattle.fs_query.specs.declared.listen.ListenMessage.{ListenMessage}
use Rattle.fs_request.specs.declared.message.Message.{Message}
use Rattle.fs_request.specs.declared.message.Message.TheVariants as message
use Rattle.fs_listen.specs.Runs.{World}
use Rattle.fs_machine.specs.Event.{Event, asking, retrying, step}
use Rattle.fs_machine.specs.Listen.{listening_of}
use Rattle.fs_machine.specs.Outbox.{outbox_of}
use Rattle.fs_machine.specs.Request.{answered}
use Rattle.fs_machine.specs.Retry.{tried_answer}
use Rattle.fs_machine.specs.State.{Machine}
use Rattle.fs_machine.specs.declared.answer.Answer.{Answer}
use Rattle.fs_machine.specs.declared.answer.Answer.TheVariants.{Reply, Prepared, Held, InProgress, Refused}
use Rattle.fs_machine.specs.declared.parked_request.ParkedRequest.{ParkedRequest}
use Rattle.fs_machine.specs.declared.session.Session.{Session}

-- whether a session is open
abbrev pub is_open : ℕ → List Session → Bool
is_open session ss = list_any (λ s. s.number == session) ss

-- ---- what messages say of targets

abbrev pub said_in : Message → Option ListenMessage
said_in (message.Listen said) = Some said
said_in (message.Commit id time results) = None
said_in (message.GetDocument id document) = None
said_in (message.BatchGetDocuments id answers) = None
said_in (message.RunQuery id documents time) = None
said_in (message.BeginTransaction id transaction) = None
said_in (message.Rollback id) = None
said_in (message.Error id code text) = None
said_in (message.Write n token told) = None

abbrev pub all_said : List Message → List ListenMessage
all_said ms = filter_map said_in ms

abbrev pub said_by : Answer → List ListenMessage
said_by (Reply m) = all_said (m ∷ [])
said_by (Prepared id time) = []
said_by (Held id) = []
said_by (InProgress finished) = []
said_by (Refused refusal) = []

-- ---- what an event tells a session

abbrev pub retry_said : Machine → Option ParkedRequest → ℕ → List ListenMessage
retry_said m None session = []
retry_said m (Some r) session = if r.session == session then said_by (tried_answer m r) else []

-- by the answer to its request
abbrev pub answer_said : Machine → Event → ℕ → List ListenMessage
answer_said m (asking s e) session = if s == session then said_by (answered m s e) else []
answer_said m (retrying place) session = retry_said m (slice_get m.parked place) session
answer_said m _ session = []

-- by the messages behind those that stood in its outbox
abbrev pub outbox_said : Machine → Event → ℕ → List ListenMessage
outbox_said m e session = all_said (drop (length (outbox_of m session)) (outbox_of (step m e) session))

abbrev pub told_by : Machine → Event → ℕ → List ListenMessage
told_by m e session = if is_open session m.sessions then answer_said m e session ++ outbox_said m e session else []

-- ---- over a run

-- the first of the events first
abbrev pub told_in : Machine → List Event → ℕ → List ListenMessage
told_in m [] session = []
told_in m (e ∷ es) session = told_by m e session ++ told_in (step m e) es session

-- what whoever reads this looks at
abbrev pub world_of : Machine → ℕ → List ListenMessage → World
world_of m session said =
    record { history = m.past.history; released = m.past.released; floor = m.past.floor; listening = listening_of m session; said = said }
