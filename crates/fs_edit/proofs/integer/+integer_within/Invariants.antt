use Rattle.std.proofs.Common.{length}
use Rattle.fs_edit.proofs.integer.+integer_within.Given as goal

abbrev pub decreases-integer_within : goal.decreases-integer_within
decreases-integer_within l = length l.names.now
