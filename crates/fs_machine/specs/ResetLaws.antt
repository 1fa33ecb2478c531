-- When a session is told that a target is reset: exactly as the target is loaded whose resume token is from before what can be read. What can
-- be read begins later than the server did only once times were given up.
--
--     the server began at 5       target 1 is added with a token of 7
--     loading 1                   no RESET
--     compacting to 8, then 1     RESET 1
-- (v1 reference, `TargetChange`: RESET.)
use Rattle.std.specs.Prelude.{◌≡◌, ◌↔◌, ℕ, ℤ, ◌<ℤ◌, ◌≤ℤ◌, Bool, true, false, IfSome, IsTrue, List, Option, Some, None}
use Rattle.std.specs.FinMap.{get}
use Rattle.std.specs.List.{list_any}
use Rattle.fs_query.specs.declared.listen.ListenMessage.{ListenMessage}
use Rattle.fs_query.specs.declared.listen.ListenMessage.TheVariants as listen
use Rattle.fs_listen.specs.Gathered.{is_in}
use Rattle.fs_listen.specs.Listening.{Listened}
use Rattle.fs_machine.specs.declared.config.Config.{Config}
use Rattle.fs_machine.specs.declared.limits.Limits.{Limits}
use Rattle.fs_machine.specs.Event.{Event, after}
use Rattle.fs_machine.specs.Facts.{Facts}
use Rattle.fs_machine.specs.Listen.{listening_of}
use Rattle.fs_machine.specs.Load.{load_refusal}
use Rattle.fs_machine.specs.State.{Machine, started}
use Rattle.fs_machine.specs.Told.{told_by}

-- whether a message says that a target is reset
abbrev pub resets : ℕ → ListenMessage → Bool
resets id (listen.Reset ids) = is_in id ids
resets id (listen.Add ids) = false
resets id (listen.Remove ids cause) = false
resets id (listen.Current ids time token) = false
resets id (listen.NoChange time token) = false
resets id (listen.Changed d ids left) = false
resets id (listen.Deleted name time left) = false
resets id (listen.Removed name time left) = false

abbrev pub has_reset : ℕ → List ListenMessage → Bool
has_reset id said = list_any (resets id) said

-- ---- which event resets

-- it loads a target that isn't loaded, isn't refused, and has a token of a time that can't be read any more
pub record LoadsLost (m : Machine) (e : Event) (session id : ℕ) : Type 0 where
  pub at : Option ℤ
  pub loads : e ≡ Event.loading session id at
  pub target : Listened
  pub listened : get (listening_of m session).targets id ≡ Some target
  pub unloaded : target.loaded ≡ None
  pub allowed : load_refusal m session id at ≡ None
  pub token : ℤ
  pub shown : target.token ≡ Some token
  pub lost : token <ℤ m.past.floor

-- a session is told so by that event, and by no other
abbrev pub ResetsAreOfLostLoads : Type 0
ResetsAreOfLostLoads = (m : Machine) (e : Event) (session id : ℕ) → Facts m → IsTrue (has_reset id (told_by m e session)) ↔ LoadsLost m e session id

-- ---- over a run

abbrev pub gives_up : Event → Bool
gives_up (Event.compacting to) = true
gives_up _ = false

-- what can be read begins where the server did, until times are given up
abbrev pub FloorStaysUntilGivenUp : Type 0
FloorStaysUntilGivenUp = (config : Config) (limits : Limits) (start : ℤ) (events : List Event) → list_any gives_up events ≡ false
    → (after (started config limits start) events).past.floor ≡ start

-- so a target whose token is of a time since then is reset only after times were given up
abbrev pub ResetsFollowCompaction : Type 0
ResetsFollowCompaction = (config : Config) (limits : Limits) (start : ℤ) (events : List Event) (e : Event) (session id : ℕ) (target : Listened)
    → get (listening_of (after (started config limits start) events) session).targets id ≡ Some target → IfSome target.token (λ time. start ≤ℤ time)
    → IsTrue (has_reset id (told_by (after (started config limits start) events) e session)) → IsTrue (list_any gives_up events)
