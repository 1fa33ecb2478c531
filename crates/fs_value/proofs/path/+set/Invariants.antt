use Rattle.std.proofs.Common.{length, ◌*◌, ◌+◌}
use Rattle.fs_value.proofs.path.+set.Given as goal

abbrev pub decreases-set_at : goal.decreases-set_at
decreases-set_at l = 3 * length l.names.now

abbrev pub decreases-value_with : goal.decreases-value_with
decreases-value_with l = 3 * length l.names.now + 1

abbrev pub decreases-set_inside : goal.decreases-set_inside
decreases-set_inside l = 3 * length l.names.now + 2
