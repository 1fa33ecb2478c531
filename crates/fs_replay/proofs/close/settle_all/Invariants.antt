use Rattle.fs_replay.specs.Settling.{left_to_do, settling}
use Rattle.fs_replay.proofs.Playing.{Goes}
use Rattle.fs_replay.proofs.close.settle_all.Given as goal

-- the turns so far, and those that are still to be made
abbrev pub invariant-turns : goal.invariant-turns
invariant-turns l = Goes (settling l.fn.state) l.fn.out.items l.out.items (settling l.state)

abbrev pub decreases-turns : goal.decreases-turns
decreases-turns l = left_to_do l.state.server
