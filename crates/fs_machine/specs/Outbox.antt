-- A session's messages are taken: they are its messages, and it has none left.
use Rattle.std.specs.Prelude.{ℕ, List}
use Rattle.fs_request.specs.declared.message.Message.{Message}
use Rattle.fs_machine.specs.Sessions.{outbox_in, emptied}
use Rattle.fs_machine.specs.State.{Machine}

abbrev pub outbox_of : Machine → ℕ → List Message
outbox_of m session = outbox_in session m.sessions

abbrev pub taken : Machine → ℕ → Machine
taken m session = record m { sessions = emptied session m.sessions }
