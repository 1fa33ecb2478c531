use Rattle.std.proofs.Common.{◌≡◌, ◌++◌, drop}
use Rattle.std.specs.List.{filter_map}
use Rattle.fs_sessions.specs.Heard.{heard_of, picked}
use Rattle.fs_sessions.proofs.matching.pick_all.Given as goal

-- those so far, and those of the events that are left
abbrev pub invariant-loop-event : goal.invariant-loop-event
invariant-loop-event l =
    filter_map (picked l.shard (heard_of l.ear)) l.events
    ≡ l.own.items ++ filter_map (picked l.shard (heard_of l.ear)) (drop l.event-index l.events)
