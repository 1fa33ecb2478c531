use Rattle.std.proofs.Common.{◌≡◌, take}
use Rattle.fs_target.specs.Still.{in_all}
use Rattle.fs_target.proofs.still.agree.Given as goal

-- those so far are where the shards are
abbrev pub invariant-loop-i : goal.invariant-loop-i
invariant-loop-i l = take l.i (in_all l.own l.positions) ≡ take l.i l.own
