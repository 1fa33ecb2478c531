-- Only private clauses cite this: what is ready for the targets of a session.
use Rattle.std.specs.Prelude.{ℕ, List}
use Rattle.std.specs.List.{filter_map}
use Rattle.fs_target.specs.Prepared.{ArePrepared}
use Rattle.fs_target.specs.declared.event.TimedEvent.{TimedEvent}
use Rattle.fs_sessions.specs.Heard.{heard_of, picked}
use Rattle.fs_sessions.specs.declared.listeners.Ear.{Ear}

-- of events those that its targets are told
abbrev pub IsEarReady : ℕ → List TimedEvent → Ear → Type 0
IsEarReady shard es e = ArePrepared shard (filter_map (picked shard (heard_of e)) es) e.targets
