use Rattle.std.proofs.Common.{◌≡◌, ◌-◌, ◌≤◌, ◌++◌, length}
use Rattle.std.specs.Vec.{vec_len, vec_capacity}
use Rattle.fs_past.specs.Kept.{all_history, changes_of, kept_on_board}
use Rattle.fs_past.proofs.Releasing.{AreLetIn}
use Rattle.fs_past.proofs.release.let_in.Given as goal

-- those that are still to be let in
abbrev pub invariant-loop-commit : goal.invariant-loop-commit
invariant-loop-commit l =
    AreLetIn l.journal.history (all_history l.fn.journal.history l.fn.board.commits) l.board.commits (kept_on_board l.fn.board.commits) l.holds l.journal.room l.waiting
    × (l.board.last ≡ l.fn.board.last)
    × (l.changes.items ++ changes_of l.board.commits ≡ l.initial.changes.items ++ changes_of l.fn.board.commits)
    × (length (changes_of l.board.commits) ≤ vec_capacity l.changes - vec_len l.changes)

abbrev pub decreases-loop-commit : goal.decreases-loop-commit
decreases-loop-commit l = length l.board.commits
