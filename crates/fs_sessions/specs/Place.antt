-- Where a session stands, for private clauses, and what it listens to; and what is told several sessions, one after another, or taken back.
use Rattle.std.specs.Prelude.{ℕ, ◌+◌, ◌-◌, List, [], ◌∷◌, Option, Some, None, option_map, length, take, ◌==◌, if◌then◌else◌}
use Rattle.fs_request.specs.declared.message.Message.{Message}
use Rattle.fs_machine.specs.Sessions.{delivered, with_outbox}
use Rattle.fs_machine.specs.declared.reply.Reply.{Reply}
use Rattle.fs_machine.specs.declared.session.Session.{Session}
use Rattle.fs_sessions.specs.Heard.{Heard}

-- the place of the first session with a number
abbrev pub place_in : ℕ → List Session → Option ℕ
place_in number [] = None
place_in number (s ∷ ss) = if s.number == number then Some 0 else option_map (λ place. place + 1) (place_in number ss)

abbrev pub ear_in : ℕ → List Heard → Option ℕ
ear_in number [] = None
ear_in number (h ∷ hs) = if h.session == number then Some 0 else option_map (λ place. place + 1) (ear_in number hs)

-- each reply is delivered, the first of them first
abbrev pub all_delivered : List Reply → List Session → List Session
all_delivered [] ss = ss
all_delivered (r ∷ rs) ss = all_delivered rs (delivered r.session r.message ss)

abbrev pub without_last : List Message → List Message
without_last ms = take (length ms - 1) ms

abbrev pub taken_back : ℕ → List Session → List Session
taken_back number ss = with_outbox number without_last ss

-- the last messages of these sessions, where that of the last was delivered last
abbrev pub all_taken_back : List ℕ → List Session → List Session
all_taken_back [] ss = ss
all_taken_back (n ∷ ns) ss = taken_back n (all_taken_back ns ss)
