-- What sessions are told: their messages are taken from their outboxes, the sessions in the order of opening, and each message
-- is written on a line of its own.
use Rattle.std.specs.Prelude.{ℕ, List, [], ◌∷◌, ◌++◌, Option}
use Rattle.fs_machine.specs.declared.answer.Answer.{Answer}
use Rattle.fs_machine.specs.declared.answer.Answer.TheVariants.{Reply, Prepared, Held, InProgress, Refused}
use Rattle.fs_machine.specs.Outbox.{outbox_of, taken}
use Rattle.fs_machine.specs.State.{Machine}
use Rattle.fs_request.specs.Refused.{refused}
use Rattle.fs_rpc.specs.MessageJson.{message_json_on}
use Rattle.fs_request.specs.declared.message.Message.{Message}
use Rattle.fs_replay.specs.Reply.{json_line}
use Rattle.fs_replay.specs.declared.directory.Named.{Named}

-- a message of a session by its name
abbrev pub message_line : List ℕ → Message → List ℕ
message_line name m = json_line (message_json_on name m)

abbrev pub message_lines : List ℕ → List Message → List ℕ
message_lines name [] = []
message_lines name (m ∷ ms) = message_line name m ++ message_lines name ms

-- the server with the outboxes of these sessions empty
abbrev pub drained : List Named → Machine → Machine
drained [] m = m
drained (n ∷ ns) m = drained ns (taken m n.number)

-- and what they held
abbrev pub drain_output : List Named → Machine → List ℕ
drain_output [] m = []
drain_output (n ∷ ns) m = message_lines n.name (outbox_of m n.number) ++ drain_output ns (taken m n.number)

-- what is told at once; the reply to a commit comes to the outbox, and so does that to a batch in progress; what waits is told when it goes on
abbrev pub reply_output : List ℕ → Option (List ℕ) → Answer → List ℕ
reply_output name id (Reply message) = message_line name message
reply_output name id (Prepared commit time) = []
reply_output name id (Held commit) = []
reply_output name id (InProgress finished) = []
reply_output name id (Refused refusal) = message_line name (refused id refusal)
