use Rattle.std.proofs.Common.{◌≡◌, ◌++◌, drop}
use Rattle.fs_sessions.specs.Matched.{target_events}
use Rattle.fs_sessions.proofs.matched.push_behind.Given as goal

-- the events so far, and those of the commits that are left
abbrev pub invariant-loop-commit : goal.invariant-loop-commit
invariant-loop-commit l =
    l.fn.events.items ++ target_events l.number l.target l.from l.commits
    ≡ l.events.items ++ target_events l.number l.target l.from (drop l.commit-index l.commits)
