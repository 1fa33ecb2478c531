-- A target is loaded at a time: at the one that is asked for, or at what is released. It is no time that can't be read, and none before
-- what its token shows. One whose token shows a time that can't be read any more is reset: the session is told so, and its view is told
-- from nothing on. A target that is loaded stays as it is.
--
--     what can be read begins at 2, and ends at 3
--     without a token, or with one of 2        told from nothing, or from what was there at 2
--     with one of 1                            RESET, and told from nothing
-- (v1 reference, `TargetChange`: RESET.)
use Rattle.std.specs.Prelude.{ℕ, ℤ, pos, Bool, List, [], ◌∷◌, Option, Some, None, if◌then◌else◌, unwrap_or}
use Rattle.std.specs.FinMap.{get}
use Rattle.fs_query.specs.declared.listen.ListenMessage.TheVariants as listen
use Rattle.fs_request.specs.declared.message.Message.TheVariants as message
use Rattle.fs_status.specs.Refusal.{refusal_of}
use Rattle.fs_status.specs.declared.reason.Reason.TheVariants.{TargetUnknown}
use Rattle.fs_status.specs.declared.refusal.Refusal.{Refusal}
use Rattle.fs_listen.specs.Cuts.{is_loaded}
use Rattle.fs_listen.specs.Listening.{Listened, loaded as loaded_in}
use Rattle.fs_listen.specs.Runs.{is_lost}
use Rattle.fs_machine.specs.Listen.{listening_of}
use Rattle.fs_machine.specs.Listeners.{with_listening}
use Rattle.fs_machine.specs.Past.{Past}
use Rattle.fs_machine.specs.Read.{refusal_from}
use Rattle.fs_machine.specs.Sessions.{delivered}
use Rattle.fs_machine.specs.State.{Machine}
use Rattle.fs_machine.specs.Tick.{later}
use Rattle.fs_machine.specs.declared.session.Session.{Session}

-- the earliest time at which a target can be loaded
abbrev pub load_floor : ℤ → Option ℤ → ℤ
load_floor floor None = floor
load_floor floor (Some token) = later floor token

abbrev pub time_refusal : Past → Listened → Option ℤ → Option Refusal
time_refusal p l None = None
time_refusal p l (Some t) = refusal_from (load_floor p.floor l.token) p t

-- why a target isn't loaded
abbrev pub refusal_at : Past → ℕ → Option ℤ → Option Listened → Option Refusal
refusal_at p target at None = Some (refusal_of (TargetUnknown (pos target)))
refusal_at p target at (Some l) = if is_loaded l.loaded then None else time_refusal p l at

abbrev pub load_refusal : Machine → ℕ → ℕ → Option ℤ → Option Refusal
load_refusal m session target at = refusal_at m.past target at (get (listening_of m session).targets target)

-- ---- the event

-- the message that a target is reset
abbrev pub with_reset : ℕ → ℕ → Bool → List Session → List Session
with_reset session target reset ss = if reset then delivered session (message.Listen (listen.Reset (target ∷ []))) ss else ss

abbrev pub loaded_with : Machine → ℕ → ℕ → ℤ → Bool → Machine
loaded_with m session target time reset = record m {
  listeners = with_listening session (loaded_in m.config.shards target time reset) m.listeners;
  sessions = with_reset session target reset m.sessions;
}

-- one that isn't there or is loaded, or that is refused, stays as it is
abbrev pub loaded_unless : Machine → ℕ → ℕ → Option ℤ → Option Listened → Option Refusal → Machine
loaded_unless m session target at None refusal = m
loaded_unless m session target at (Some l) (Some refusal) = m
loaded_unless m session target at (Some l) None =
    if is_loaded l.loaded then m else loaded_with m session target (unwrap_or at m.past.released) (is_lost m.past.floor l.token)

abbrev pub loaded : Machine → ℕ → ℕ → Option ℤ → Machine
loaded m session target at = loaded_unless m session target at (get (listening_of m session).targets target) (load_refusal m session target at)
