use Rattle.std.proofs.Common.{sym, ap, ◌∙◌}
use Rattle.std.specs.Option.{option_copied, option_map}
use Rattle.fs_board.specs.declared.entry.Entry.{Entry}
use Rattle.fs_board.proofs.Places.{asked_by}
use Rattle.fs_board.proofs.board.Board.asked.Goals as goal

pub returns-in-Some : goal.returns-in-Some
returns-in-Some g c =
    sym (asked_by c.args.self.now.commits c.args.id ∙ ap (option_map (λ (e : Entry g.row.A.Denot g.row.B.Denot). e.asked)) (sym c.entry.ensures ∙ ap option_copied c.in-Some.is))

pub returns-in-None : goal.returns-in-None
returns-in-None g c =
    sym (asked_by c.args.self.now.commits c.args.id ∙ ap (option_map (λ (e : Entry g.row.A.Denot g.row.B.Denot). e.asked)) (sym c.entry.ensures ∙ ap option_copied c.in-None.is))
