use Rattle.fs_target.specs.Still.{in_all}
use Rattle.fs_target.proofs.InShards.{Become}
use Rattle.fs_target.proofs.still.write_positions.Given as goal

-- those so far are those of the shards
abbrev pub invariant-loop-i : goal.invariant-loop-i
invariant-loop-i l = Become l.initial.own (in_all l.initial.own l.positions) l.own l.i
