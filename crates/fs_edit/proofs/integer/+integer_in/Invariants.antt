use Rattle.std.proofs.Common.{length}
use Rattle.fs_edit.proofs.integer.+integer_in.Given as goal

abbrev pub decreases-integer_in : goal.decreases-integer_in
decreases-integer_in l = length l.names.now
