-- What a run has done when it ends: what it has written, how often its source and its sink have failed, what it has committed, and what
-- sessions were told.
use Rattle.std.specs.Prelude.{◌≡◌, ◌≢◌, ℕ, ◌<◌, ℤ, true, false, List, ◌++◌, Option, Some}
use Rattle.std.specs.List.{filter_map}
use Rattle.fs_edge.specs.Count.{one_more, AtMostOneMore}
use Rattle.fs_edge.specs.declared.status.Status.{Status}
use Rattle.fs_edge.specs.declared.status.Status.TheVariants as status
use Rattle.fs_history.specs.Serial.{IsSerial}
use Rattle.fs_listen.specs.Gathered.{NeverFalls, ended_at, raise_in}
use Rattle.fs_listen.specs.Laws.{IsOneTime}
use Rattle.fs_listen.specs.declared.cut.Cut.TheVariants.{NoTarget}
use Rattle.fs_machine.specs.Event.{Event, after}
use Rattle.fs_machine.specs.Facts.{Facts}
use Rattle.fs_machine.specs.Grows.{Grows}
use Rattle.fs_machine.specs.Listen.{listening_of}
use Rattle.fs_machine.specs.Raise.{cut_of}
use Rattle.fs_machine.specs.State.{Machine}
use Rattle.fs_machine.specs.Told.{is_open, told_in, world_of}
use Rattle.fs_machine.specs.declared.config.Config.{Config}
use Rattle.fs_machine.specs.declared.limits.Limits.{Limits}
use Rattle.fs_query.specs.declared.listen.ListenMessage.{ListenMessage}
use Rattle.fs_replay.specs.Moved.{Gained, GainedFront}
use Rattle.fs_replay.specs.Step.{start}
use Rattle.fs_replay.specs.Transcript.{after_lines, begun, events_of, transcript}

-- What the sink has gained of the bytes that were taken. Where the source failed or gave too much, the lines that
-- have their newline were carried out. Where memory ran out or the sink failed, it has some front of the transcript.
abbrev pub Wrote : Config → Limits → Status → List ℕ → Option (List ℕ) → Option (List ℕ) → Type 0
Wrote config limits status.Ok taken before after = Gained before after (transcript config limits taken)
Wrote config limits status.Usage taken before after = after ≡ before
Wrote config limits status.Memory taken before after = GainedFront before after (transcript config limits taken)
Wrote config limits status.ReadFault taken before after = Gained before after (begun config limits taken)
Wrote config limits status.WriteFault taken before after = GainedFront before after (transcript config limits taken)
Wrote config limits status.InputLimit taken before after = Gained before after (begun config limits taken)
Wrote config limits status.DoorFault taken before after = after ≡ before

-- How often a read has failed: the first failure ends the run. Where the sink failed or memory ran out, that came behind
-- the last read, which may have failed as well.
abbrev pub ReadFaults : Status → ℕ → ℕ → Type 0
ReadFaults status.Ok before after = after ≡ before
ReadFaults status.Usage before after = after ≡ before
ReadFaults status.Memory before after = AtMostOneMore before after
ReadFaults status.ReadFault before after = after ≡ one_more before
ReadFaults status.WriteFault before after = AtMostOneMore before after
ReadFaults status.InputLimit before after = after ≡ before
ReadFaults status.DoorFault before after = after ≡ before

-- How often a read has told the end: it is asked for once.
abbrev pub Ends : Status → ℕ → ℕ → Type 0
Ends status.Ok before after = after ≡ one_more before
Ends status.Usage before after = after ≡ before
Ends status.Memory before after = AtMostOneMore before after
Ends status.ReadFault before after = after ≡ before
Ends status.WriteFault before after = AtMostOneMore before after
Ends status.InputLimit before after = after ≡ before
Ends status.DoorFault before after = after ≡ before

-- How often a write has failed: the first failure ends the run.
abbrev pub WriteFaults : Status → ℕ → ℕ → Type 0
WriteFaults status.Ok before after = after ≡ before
WriteFaults status.Usage before after = after ≡ before
WriteFaults status.Memory before after = after ≡ before
WriteFaults status.ReadFault before after = after ≡ before
WriteFaults status.WriteFault before after = after ≡ one_more before
WriteFaults status.InputLimit before after = after ≡ before
WriteFaults status.DoorFault before after = after ≡ before

-- ---- the events of a run

-- the server after them
abbrev pub server_after : Config → Limits → List Event → Machine
server_after config limits events = after (start config limits).server events

-- A cut between lines is one between events: those of the lines before it are a front of the run's, and lead to the server there.
pub record IsAfterItsEvents (config : Config) (limits : Limits) (front lines : List (List ℕ)) : Type 0 where
  pub more : List Event
  pub events : events_of (start config limits) 1 lines ≡ events_of (start config limits) 1 front ++ more
  pub server : (after_lines (start config limits) 1 front).server ≡ server_after config limits (events_of (start config limits) 1 front)

abbrev pub LinesAreEvents : Config → Limits → List (List ℕ) → Type 0
LinesAreEvents config limits lines = (front back : List (List ℕ)) → lines ≡ front ++ back → IsAfterItsEvents config limits front lines

-- Wherever the events are cut, what always holds of a server holds there,
abbrev pub KeptThroughout : Config → Limits → List (List ℕ) → Type 0
KeptThroughout config limits lines = (front back : List Event) → events_of (start config limits) 1 lines ≡ front ++ back → Facts (server_after config limits front)

-- what was committed by then explains every read in it,
abbrev pub IsSerialThroughout : Config → Limits → List (List ℕ) → Type 0
IsSerialThroughout config limits lines = (front back : List Event) → events_of (start config limits) 1 lines ≡ front ++ back → IsSerial (server_after config limits front).past.history

-- and what stood then at a time that was released stands there to the end.
abbrev pub GrowsThroughout : Config → Limits → List (List ℕ) → Type 0
GrowsThroughout config limits lines = (front back : List Event) → events_of (start config limits) 1 lines ≡ front ++ back
    → Grows (server_after config limits front).past (server_after config limits (events_of (start config limits) 1 lines)).past

-- ---- what sessions are told of their targets

-- all that a session was told of its targets by then
abbrev pub told_by_then : Config → Limits → List Event → ℕ → List ListenMessage
told_by_then config limits events session = told_in (start config limits).server events session

-- Wherever the events of a run are cut, and what a session was told by then ends with NO_CHANGE, whoever gathered all of it has just the views
-- of all its targets at that time; and none of these times is below one before it.
pub record CutsThroughout (config : Config) (limits : Limits) (lines : List (List ℕ)) : Type 0 where
  pub cuts : (front back : List Event) (session : ℕ) (time : ℤ) → events_of (start config limits) 1 lines ≡ front ++ back
      → is_open session (server_after config limits front).sessions ≡ true → ended_at (told_by_then config limits front session) ≡ Some time
      → IsOneTime (world_of (server_after config limits front) session (told_by_then config limits front session)) time
  pub times : (front back : List Event) (session : ℕ) → events_of (start config limits) 1 lines ≡ front ++ back
      → is_open session (server_after config limits front).sessions ≡ true
      → NeverFalls (filter_map raise_in (told_by_then config limits front session))

-- Between lines, unless the script settles by hand, each session that listens to anything was raised at the released time.
abbrev pub RaisedThroughout : Config → Limits → List (List ℕ) → Type 0
RaisedThroughout config limits lines = (front back : List (List ℕ)) (session : ℕ) → lines ≡ front ++ back
    → (after_lines (start config limits) 1 front).manual ≡ false → 0 < limits.outbox → is_open session (after_lines (start config limits) 1 front).server.sessions ≡ true
    → cut_of (after_lines (start config limits) 1 front).server session ≢ NoTarget
    → (listening_of (after_lines (start config limits) 1 front).server session).raised ≡ Some (after_lines (start config limits) 1 front).server.past.released
