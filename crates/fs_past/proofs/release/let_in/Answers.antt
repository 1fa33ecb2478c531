use Rattle.std.proofs.Common.{◌+◌, ◌-◌, ℤ, [], ◌∷◌, ◌++◌, length, append_assoc, sym, ap, ◌∙◌, subst, arith}
use Rattle.fs_board.specs.Board.{Posted}
use Rattle.fs_history.specs.Bytes.{batch_size}
use Rattle.fs_history.specs.Journal.{Recorded}
use Rattle.fs_history.specs.declared.batch.Batch.{Batch}
use Rattle.fs_machine.specs.declared.unreleased.Unreleased.{Unreleased}
use Rattle.fs_write.specs.declared.timed_change.TimedChange.{TimedChange}
use Rattle.fs_past.specs.declared.accepted.Accepted.{Accepted}
use Rattle.fs_past.specs.Kept.{HoldLess, all_history, bytes_of, changes_of, kept_on_board}
use Rattle.fs_past.proofs.Releasing.{AreLetIn, bytes_ready, changes_ready, one_in}
use Rattle.fs_past.proofs.release.let_in.Goals as goal

pub bytes_left-requires : goal.bytes_left-requires
bytes_left-requires c =
    c.loop-commit.invariant.0.waiting
    ∙ bytes_ready c.loop-commit.board.commits (c.in-Some.field-0-0, c.in-Some.commit, c.in-Some.accepted) c.in-Some.ensures.value
    ∙ ap (λ (b : Posted Unreleased Accepted). batch_size c.in-Some.commit.batch + bytes_of b.commits) (sym c.in-Some.ensures.rest)

pub push_reserved-requires : goal.push_reserved-requires
push_reserved-requires c =
    let first = ap length (changes_ready c.loop-commit.board.commits (c.in-Some.field-0-0, c.in-Some.commit, c.in-Some.accepted) c.in-Some.ensures.value) in
    let places = c.loop-commit.invariant.3 in
    omega arith

pub loop-commit-preserved : goal.loop-commit-preserved
loop-commit-preserved c =
    let l = c.loop-commit in
    let h = l.journal.history in
    let k = all_history c.args.journal.now.history c.args.board.now.commits in
    let ds = kept_on_board c.args.board.now.commits in
    let new = c.release.new.self in
    let left = c.bytes_left.result in
    let x : ℤ × Unreleased × Accepted = (c.in-Some.field-0-0, c.in-Some.commit, c.in-Some.accepted) in
    let but : HoldLess l.holds new c.in-Some.commit.batch.id = subst (HoldLess l.holds new) c.id_of.ensures c.release.ensures in
    let rest = ap (λ (b : Posted Unreleased Accepted). bytes_of b.commits) c.in-Some.ensures.rest in
    let pushed = c.push.ensures ∙ ap (λ (b : Batch). record { history = b ∷ h; room = l.journal.room - 1 }) c.batch_of.ensures in
    let next = one_in h k ds l.holds new l.journal.room l.waiting left l.board.commits x c.in-Some.ensures.value (c.bytes_left.ensures ∙ rest) but l.invariant.0 in
    let first = changes_ready l.board.commits x c.in-Some.ensures.value ∙ ap (λ (b : Posted Unreleased Accepted). c.in-Some.accepted.change ∷ changes_of b.commits) (sym c.in-Some.ensures.rest) in (
      subst (λ (r : Recorded). AreLetIn r.history k c.take_ready.new.self.commits ds new r.room left) (sym pushed)
          (subst (λ (b : Posted Unreleased Accepted). AreLetIn (c.in-Some.commit.batch ∷ h) k b.commits ds new (l.journal.room - 1) left) (sym c.in-Some.ensures.rest) next),
      ap (λ (b : Posted Unreleased Accepted). b.last) c.in-Some.ensures.rest ∙ l.invariant.1,
      ap (λ cs. cs ++ changes_of c.take_ready.new.self.commits) (c.push_reserved.ensures.items ∙ ap (λ (d : TimedChange). l.changes.items ++ d ∷ []) c.change_of.ensures)
          ∙ append_assoc l.changes.items (c.in-Some.accepted.change ∷ []) (changes_of c.take_ready.new.self.commits)
          ∙ ap (λ cs. l.changes.items ++ cs) (sym first)
          ∙ l.invariant.2,
      omega (arith, ap length first, c.push_reserved.ensures.len, c.push_reserved.ensures.capacity, l.invariant.3),
    )
