-- A session is raised: where its targets are together at a time, it is told how their views became what they are at that time, and that
-- these are all of them. Nothing happens where it can't be raised, or too many messages wait for it.
-- (v1 reference, `TargetChange`: CURRENT, NO_CHANGE.)
use Rattle.std.specs.Prelude.{ℕ, ℤ, List, ◌++◌, map, if◌then◌else◌}
use Rattle.fs_query.specs.declared.listen.ListenMessage.{ListenMessage}
use Rattle.fs_request.specs.declared.message.Message.TheVariants as message
use Rattle.fs_listen.specs.Cuts.{cut, is_ready}
use Rattle.fs_listen.specs.Listening.{raised_to}
use Rattle.fs_listen.specs.Raised.{raised as sent_by}
use Rattle.fs_listen.specs.declared.cut.Cut.{Cut}
use Rattle.fs_listen.specs.declared.cut.Cut.TheVariants.{At, Loading, NoTarget}
use Rattle.fs_machine.specs.Listen.{listening_of}
use Rattle.fs_machine.specs.Listeners.{with_listening}
use Rattle.fs_machine.specs.Refusing.{outbox_is_full}
use Rattle.fs_machine.specs.Sessions.{with_outbox}
use Rattle.fs_machine.specs.State.{Machine}
use Rattle.fs_machine.specs.declared.session.Session.{Session}

-- these messages more for a session, if it is open
abbrev pub all_told : ℕ → List ListenMessage → List Session → List Session
all_told session said ss = with_outbox session (λ ms. ms ++ map message.Listen said) ss

-- how far its targets are together
abbrev pub cut_of : Machine → ℕ → Cut
cut_of m session = cut (listening_of m session)

abbrev pub raised_to_time : Machine → ℕ → ℤ → Machine
raised_to_time m session time = record m {
  listeners = with_listening session (raised_to time) m.listeners;
  sessions = all_told session (sent_by m.past.history time (listening_of m session)) m.sessions;
}

abbrev pub raised_at : Machine → ℕ → Cut → Machine
raised_at m session (At time) = raised_to_time m session time
raised_at m session (Loading id) = m
raised_at m session NoTarget = m

abbrev pub raised : Machine → ℕ → Machine
raised m session =
    if outbox_is_full m session then m
    else if is_ready (listening_of m session) then raised_at m session (cut_of m session)
    else m
