use Rattle.std.proofs.Common.{◌≡◌, ◌++◌, drop, map}
use Rattle.std.specs.List.{flat_map}
use Rattle.fs_sessions.specs.Heard.{heard_of}
use Rattle.fs_sessions.specs.Matched.{ear_events}
use Rattle.fs_sessions.proofs.matched.push_all.Given as goal

-- the events so far, and those to the sessions that are left
abbrev pub invariant-loop-ear : goal.invariant-loop-ear
invariant-loop-ear l =
    flat_map (ear_events l.shard l.commits) (map heard_of l.ears)
    ≡ l.events.items ++ flat_map (ear_events l.shard l.commits) (map heard_of (drop l.ear-index l.ears))
