use Rattle.std.proofs.Common.{length}
use Rattle.fs_replay.proofs.close.+drain.Given as goal

abbrev pub decreases-drain : goal.decreases-drain
decreases-drain l = length l.named.now
