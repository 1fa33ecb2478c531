use Rattle.std.proofs.Common.{◌≡◌, ◌++◌, drop}
use Rattle.std.specs.List.{filter_map}
use Rattle.fs_target.specs.Keeps.{event_of}
use Rattle.fs_sessions.proofs.matched.push_commit.Given as goal

-- the events so far, and those of the changes that are left
abbrev pub invariant-loop-change : goal.invariant-loop-change
invariant-loop-change l =
    l.fn.events.items ++ filter_map (event_of l.number l.target l.commit.time) l.change-items
    ≡ l.events.items ++ filter_map (event_of l.number l.target l.commit.time) (drop l.change-index l.change-items)
