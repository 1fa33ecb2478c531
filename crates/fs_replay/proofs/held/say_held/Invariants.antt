use Rattle.std.proofs.Common.{◌≡◌, ◌++◌}
use Rattle.std.specs.Prelude.{drop}
use Rattle.fs_replay.specs.Held.{held_among, held_lines}
use Rattle.fs_replay.proofs.held.say_held.Given as goal

-- the lines so far, and those of the requests that are left
abbrev pub invariant-loop-place : goal.invariant-loop-place
invariant-loop-place l =
    l.out.items ++ held_among l.state.directory l.state.server (drop l.place l.state.server.parked) ≡ l.fn.out.items ++ held_lines l.state
