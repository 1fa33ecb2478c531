use Rattle.std.proofs.Common.{length, ◌*◌, ◌+◌}
use Rattle.fs_edit.proofs.unset.+unset.Given as goal

abbrev pub decreases-unset_at : goal.decreases-unset_at
decreases-unset_at l = 2 * length l.names.now

abbrev pub decreases-unset_inside : goal.decreases-unset_inside
decreases-unset_inside l = 2 * length l.names.now + 1
