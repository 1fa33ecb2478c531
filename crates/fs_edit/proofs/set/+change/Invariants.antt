use Rattle.std.proofs.Common.{length, ◌*◌, ◌+◌}
use Rattle.fs_edit.proofs.set.+change.Given as goal

abbrev pub decreases-change_at : goal.decreases-change_at
decreases-change_at l = 3 * length l.names.now

abbrev pub decreases-changed_inside : goal.decreases-changed_inside
decreases-changed_inside l = 3 * length l.names.now + 1

abbrev pub decreases-change_absent : goal.decreases-change_absent
decreases-change_absent l = 3 * length l.names.now + 2
