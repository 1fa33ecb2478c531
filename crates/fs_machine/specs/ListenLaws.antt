-- What holds of every session that listens, over every run of a server.
use Rattle.std.specs.Prelude.{◌≡◌, ◌≢◌, ℕ, ℤ, true, List, Some, IfSome}
use Rattle.std.specs.FinMap.{get}
use Rattle.std.specs.List.{filter_map}
use Rattle.fs_path.specs.declared.name.DocName.{DocName}
use Rattle.fs_listen.specs.Gathered.{NeverFalls, ended_at, raise_in}
use Rattle.fs_listen.specs.Laws.{IsOneTime, IsServed, IsCurrentOnce, IsFromLoad}
use Rattle.fs_listen.specs.declared.cut.Cut.TheVariants.{NoTarget}
use Rattle.fs_machine.specs.declared.config.Config.{Config}
use Rattle.fs_machine.specs.declared.limits.Limits.{Limits}
use Rattle.fs_machine.specs.Event.{Event, after}
use Rattle.fs_machine.specs.Listen.{listening_of}
use Rattle.fs_machine.specs.Raise.{cut_of}
use Rattle.fs_listen.specs.Versions.{versions_told}
use Rattle.fs_listen.specs.Listening.{Listened}
use Rattle.fs_machine.specs.State.{started}
use Rattle.fs_machine.specs.Told.{is_open, told_in, world_of}

-- whatever events come, and wherever what a session was told ends with NO_CHANGE, whoever gathered all of it has just the views of all its
-- targets at that time
abbrev pub CutsAreConsistent : Type 0
CutsAreConsistent = (config : Config) (limits : Limits) (start : ℤ) (events : List Event) (session : ℕ) (time : ℤ)
    → is_open session (after (started config limits start) events).sessions ≡ true
    → ended_at (told_in (started config limits start) events session) ≡ Some time
    → IsOneTime (world_of (after (started config limits start) events) session (told_in (started config limits start) events session)) time

-- and none of these times is below one before it
abbrev pub RaisesNeverFall : Type 0
RaisesNeverFall = (config : Config) (limits : Limits) (start : ℤ) (events : List Event) (session : ℕ)
    → is_open session (after (started config limits start) events).sessions ≡ true
    → NeverFalls (filter_map raise_in (told_in (started config limits start) events session))

-- Where nothing is left to be done for a session, it was raised at the released time, if it listens to anything: all of its targets are loaded
-- then, each shard is matched up to that time, and it isn't ready to be raised again.
abbrev pub ServedAreRaised : Type 0
ServedAreRaised = (config : Config) (limits : Limits) (start : ℤ) (events : List Event) (session : ℕ)
    → is_open session (after (started config limits start) events).sessions ≡ true
    → IsServed config.shards (world_of (after (started config limits start) events) session (told_in (started config limits start) events session))
    → cut_of (after (started config limits start) events) session ≢ NoTarget
    → (listening_of (after (started config limits start) events) session).raised ≡ Some (after (started config limits start) events).past.released

-- each target of it was told to be current once since it was added, if it is current, and else not yet; with a NO_CHANGE each was
abbrev pub CurrentIsToldOnce : Type 0
CurrentIsToldOnce = (config : Config) (limits : Limits) (start : ℤ) (events : List Event) (session : ℕ)
    → is_open session (after (started config limits start) events).sessions ≡ true
    → IsCurrentOnce (world_of (after (started config limits start) events) session (told_in (started config limits start) events session))

-- and no position of one is before its load
abbrev pub LoadsComeFirst : Type 0
LoadsComeFirst = (config : Config) (limits : Limits) (start : ℤ) (events : List Event) (session id : ℕ) (l : Listened)
    → is_open session (after (started config limits start) events).sessions ≡ true
    → get (listening_of (after (started config limits start) events) session).targets id ≡ Some l → IfSome l.loaded IsFromLoad

-- and of the versions of a name that it was told none is below one before it
abbrev pub VersionsRise : Type 0
VersionsRise = (config : Config) (limits : Limits) (start : ℤ) (events : List Event) (session : ℕ) (name : DocName)
    → is_open session (after (started config limits start) events).sessions ≡ true
    → NeverFalls (versions_told name (told_in (started config limits start) events session))
