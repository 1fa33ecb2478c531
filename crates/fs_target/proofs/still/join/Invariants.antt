use Rattle.fs_target.specs.Still.{joined}
use Rattle.fs_target.proofs.InShards.{Become}
use Rattle.fs_target.proofs.still.join.Given as goal

-- those so far are joined
abbrev pub invariant-loop-i : goal.invariant-loop-i
invariant-loop-i l = Become l.initial.positions (joined l.own l.initial.positions) l.positions l.i
