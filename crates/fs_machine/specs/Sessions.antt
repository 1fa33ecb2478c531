-- The sessions that are open, each with the messages that it has still to be sent.
use Rattle.std.specs.Prelude.{ℕ, Bool, true, false, List, [], ◌∷◌, ◌++◌, ◌==◌, if◌then◌else◌}
use Rattle.fs_request.specs.declared.message.Message.{Message}
use Rattle.fs_machine.specs.declared.session.Session.{Session}

-- the messages of a session; none where it isn't open
abbrev pub outbox_in : ℕ → List Session → List Message
outbox_in number [] = []
outbox_in number (s ∷ ss) = if s.number == number then s.outbox else outbox_in number ss

-- with other messages for a session, if it is open
abbrev pub with_outbox : ℕ → (List Message → List Message) → List Session → List Session
with_outbox number change [] = []
with_outbox number change (s ∷ ss) = if s.number == number then record s { outbox = change s.outbox } ∷ ss else s ∷ with_outbox number change ss

-- with one message more for it
abbrev pub delivered : ℕ → Message → List Session → List Session
delivered number message ss = with_outbox number (λ ms. ms ++ message ∷ []) ss

-- with no message left for it
abbrev pub emptied : ℕ → List Session → List Session
emptied number ss = with_outbox number (λ ms. []) ss

-- it owns a write stream, or did
abbrev pub owning : ℕ → List Session → List Session
owning number [] = []
owning number (s ∷ ss) = if s.number == number then record s { has_owned = true } ∷ ss else s ∷ owning number ss

-- whether it does or ever did; not, where it isn't open
abbrev pub has_owned : ℕ → List Session → Bool
has_owned number [] = false
has_owned number (s ∷ ss) = if s.number == number then s.has_owned else has_owned number ss

-- without it
abbrev pub without : ℕ → List Session → List Session
without number [] = []
without number (s ∷ ss) = if s.number == number then ss else s ∷ without number ss
