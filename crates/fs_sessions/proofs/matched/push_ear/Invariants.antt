use Rattle.std.proofs.Common.{◌≡◌, ◌++◌}
use Rattle.std.specs.FinMap.{entries}
use Rattle.std.specs.List.{flat_map}
use Rattle.fs_sessions.specs.Heard.{heard_of}
use Rattle.fs_sessions.specs.Matched.{numbered_events}
use Rattle.fs_sessions.proofs.matched.push_ear.Given as goal

-- the events so far, and those to the targets that are left
abbrev pub invariant-loop-id : goal.invariant-loop-id
invariant-loop-id l =
    l.fn.events.items ++ flat_map (numbered_events l.shard l.commits (heard_of l.ear)) (entries l.ear.numbers)
    ≡ l.events.items ++ flat_map (numbered_events l.shard l.commits (heard_of l.ear)) l.id-iterator
