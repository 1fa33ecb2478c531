use Rattle.std.proofs.Common.{subst, sym}
use Rattle.std.specs.Prelude.{◌&&◌, IsTrue}
use Rattle.std.specs.List.{list_any}
use Rattle.fs_locks.specs.Holds.{IsLeastOther, is_held}
use Rattle.fs_locks.proofs.Ids.{least_or}
use Rattle.fs_write.specs.WrittenName.{written_name}
use Rattle.fs_past.specs.Kept.{is_late, writes_name}
use Rattle.fs_past.proofs.Holding.{covered}
use Rattle.fs_past.proofs.holds.Holds.first_behind.Goals as goal

pub returns : goal.returns
returns c =
    let cs = c.args.board.now.commits in
    let ws = c.args.writes.now in
    let holds = c.args.self.now in
    subst (IsLeastOther (λ i. IsTrue (list_any (λ w. writes_name i (written_name w) cs) ws)) c.args.by) (sym c.lesser.ensures)
    (least_or (λ i. list_any (λ w. is_held holds.locks.exclusive i (written_name w)) ws) (λ i. is_late holds.late i && list_any (λ w. writes_name i (written_name w) cs) ws)
    (λ i. list_any (λ w. writes_name i (written_name w) cs) ws) c.args.by c.first_holder.result c.late_behind.result (covered holds cs c.requires.held ws)
    c.first_holder.ensures c.late_behind.ensures)
