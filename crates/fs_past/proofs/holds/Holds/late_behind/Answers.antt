use Rattle.std.proofs.Common.{sym, ◌∙◌}
use Rattle.std.specs.List.{list_any}
use Rattle.fs_write.specs.WrittenName.{written_name}
use Rattle.fs_past.specs.Kept.{writes_name}
use Rattle.fs_past.proofs.Holding.{none_late}
use Rattle.fs_past.proofs.holds.Holds.late_behind.Goals as goal

pub returns-else-writes_one : goal.returns-else-writes_one
returns-else-writes_one c = λ j h.
    none_late (λ i. list_any (λ w. writes_name i (written_name w) c.args.board.now.commits) c.args.writes.now) c.args.self.now.late c.in-Some.id c.args.by j
    c.in-Some.is (sym c.writes_one.ensures ∙ c.if-writes_one.false) h
