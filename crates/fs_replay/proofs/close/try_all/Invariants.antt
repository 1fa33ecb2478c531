use Rattle.std.proofs.Common.{◌+◌, ◌≤◌, ◌<◌, ◌^◌, length}
use Rattle.fs_replay.specs.Settling.{tries_all, tries_from}
use Rattle.fs_replay.proofs.Playing.{Goes}
use Rattle.fs_replay.proofs.close.try_all.Given as goal

-- the requests that were tried so far, and those that are still to be
abbrev pub invariant-requests : goal.invariant-requests
invariant-requests l = record {
  goes : Goes (tries_all l.fn.state) l.fn.out.items l.out.items (tries_from l.untried l.place l.state);
  within : l.place + l.untried ≤ length l.state.server.parked;
  fits : l.place + l.untried < 2 ^ 64;
}

abbrev pub decreases-requests : goal.decreases-requests
decreases-requests l = l.untried
