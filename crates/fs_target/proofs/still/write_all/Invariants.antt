use Rattle.fs_target.specs.Seen.{seen}
use Rattle.fs_target.specs.Still.{seen_at}
use Rattle.fs_target.proofs.InPlace.{Changed}
use Rattle.fs_target.proofs.still.write_all.Given as goal

-- those so far are where the shards are
abbrev pub invariant-loop-i : goal.invariant-loop-i
invariant-loop-i l = Changed seen (λ e. seen_at l.positions (seen e)) l.initial.entries l.entries l.i
