use Rattle.std.proofs.Common.{length}
use Rattle.fs_replay.proofs.line.+remove_each.Given as goal

abbrev pub decreases-remove_each : goal.decreases-remove_each
decreases-remove_each l = length l.names.now
