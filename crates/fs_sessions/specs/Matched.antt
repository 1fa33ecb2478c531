-- Only private clauses cite this: what commits are to targets.
use Rattle.std.specs.Prelude.{ℕ, ℤ, IfSome, int_lt, List, [], Option, Some, None, if◌then◌else◌}
use Rattle.std.specs.FinMap.{entries, get}
use Rattle.std.specs.List.{AllByRecursion, filter_map, flat_map}
use Rattle.fs_value.specs.declared.document.Document.{Document}
use Rattle.fs_write.specs.declared.change.Change.{Change}
use Rattle.fs_write.specs.declared.timed_change.TimedChange.{TimedChange}
use Rattle.fs_listen.specs.Cuts.{least, least_before}
use Rattle.fs_listen.specs.Listening.{Listened}
use Rattle.fs_query.specs.declared.target.Target.{Target}
use Rattle.fs_target.specs.Held.{Held, IsListenedByNone, position_in, positions_in}
use Rattle.fs_target.specs.Keeps.{event_of}
use Rattle.fs_target.specs.declared.event.TimedEvent.{TimedEvent}
use Rattle.fs_sessions.specs.Heard.{Heard}

-- to a target of a number, behind a time
abbrev pub commit_events : ℕ → Target → ℤ → TimedChange → List TimedEvent
commit_events number t from c = if int_lt from c.time then filter_map (event_of number t c.time) c.changes else []

abbrev pub target_events : ℕ → Target → ℤ → List TimedChange → List TimedEvent
target_events number t from cs = flat_map (commit_events number t from) cs

-- to one of a session, by its id and its number, behind what it was told of a shard
abbrev pub events_from : ℕ → Target → Option ℤ → List TimedChange → List TimedEvent
events_from number t None cs = []
events_from number t (Some from) cs = target_events number t from cs

abbrev pub events_to : ℕ → ℕ → List TimedChange → Option Listened → List TimedEvent
events_to shard number cs None = []
events_to shard number cs (Some l) = events_from number l.target (position_in shard (Some l)) cs

abbrev pub numbered_events : ℕ → List TimedChange → Heard → ℕ × ℕ → List TimedEvent
numbered_events shard cs h e = events_to shard e.1 cs (get h.held.listening.targets e.0)

abbrev pub ear_events : ℕ → List TimedChange → Heard → List TimedEvent
ear_events shard cs h = flat_map (numbered_events shard cs h) (entries h.numbers)

-- ---- what concerns none of a session's targets

abbrev pub IsUnlistened : Held → Option Document → Type 0
IsUnlistened h o = IfSome o (λ d. IsListenedByNone d.name h)

-- neither what was there before a change nor what is there after it
abbrev pub IsNoMatter : Held → Change → Type 0
IsNoMatter h c = IsUnlistened h c.before × IsUnlistened h c.after

abbrev pub AreNoMatter : Held → List TimedChange → Type 0
AreNoMatter h cs = AllByRecursion (λ (c : TimedChange). AllByRecursion (IsNoMatter h) c.changes) cs

-- ---- how far a shard was told

abbrev pub lesser : Option ℤ → Option ℤ → Option ℤ
lesser time other = least_before time other

abbrev pub least_in : ℕ → List Heard → Option ℤ
least_in shard hs = least (flat_map (λ (h : Heard). positions_in shard h.held) hs)
