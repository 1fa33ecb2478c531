-- What a session was told stands in front of what it is told later, and is consistent at each NO_CHANGE in it, not only where an event ends.
--
--     session 0 was told     ADD 1, c/a {n: 1} for 1, CURRENT 1, NO_CHANGE at 4, c/a {n: 2} for 1, NO_CHANGE at 6
--     of target 1 it had     at the first NO_CHANGE its view at 4, at the second that at 6
use Rattle.std.specs.Prelude.{◌≡◌, ℕ, ℤ, true, List, [], ◌∷◌, ◌++◌}
use Rattle.fs_query.specs.declared.listen.ListenMessage.{ListenMessage}
use Rattle.fs_query.specs.declared.listen.ListenMessage.TheVariants as listen
use Rattle.fs_listen.specs.Laws.{IsOneTime}
use Rattle.fs_machine.specs.declared.config.Config.{Config}
use Rattle.fs_machine.specs.declared.limits.Limits.{Limits}
use Rattle.fs_machine.specs.Event.{Event, after}
use Rattle.fs_machine.specs.Facts.{Facts}
use Rattle.fs_machine.specs.State.{Machine, started}
use Rattle.fs_machine.specs.Told.{is_open, told_by, told_in, world_of}

-- whatever events come, what a session was told is a front of what it is told then
abbrev pub ToldGoesOn : Type 0
ToldGoesOn = (m : Machine) (events more : List Event) (session : ℕ) → told_in m (events ++ more) session ≡ told_in m events session ++ told_in (after m events) more session

-- an event tells a session of one NO_CHANGE at most, and of nothing behind it
abbrev pub RaisesEndWhatIsTold : Type 0
RaisesEndWhatIsTold = (m : Machine) (e : Event) (session : ℕ) (front rest : List ListenMessage) (time : ℤ) (token : List ℕ) → Facts m
    → told_by m e session ≡ front ++ listen.NoChange time token ∷ rest → rest ≡ []

-- a session was told just these messages, up to a NO_CHANGE, by the first of some events, and has then the views of all its targets at that time
pub record IsRaisedIn (start : Machine) (events : List Event) (session : ℕ) (front : List ListenMessage) (time : ℤ) (token : List ℕ) : Type 0 where
  pub earlier : List Event
  pub later : List Event
  pub parts : events ≡ earlier ++ later
  pub opened : is_open session (after start earlier).sessions ≡ true
  pub told : told_in start earlier session ≡ front ++ listen.NoChange time token ∷ []
  pub views : IsOneTime (world_of (after start earlier) session (front ++ listen.NoChange time token ∷ [])) time

-- and so it is at each NO_CHANGE among what it was told
abbrev pub ConsistentAtEachRaise : Type 0
ConsistentAtEachRaise = (config : Config) (limits : Limits) (start : ℤ) (events : List Event) (session : ℕ) (front rest : List ListenMessage) (time : ℤ) (token : List ℕ)
    → told_in (started config limits start) events session ≡ front ++ listen.NoChange time token ∷ rest
    → IsRaisedIn (started config limits start) events session front time token
