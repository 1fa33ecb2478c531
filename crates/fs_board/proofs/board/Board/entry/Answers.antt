use Rattle.std.proofs.Common.{sym, ap, ◌∙◌}
use Rattle.fs_board.specs.Board.{Posted, time_in}
use Rattle.fs_board.specs.Held.{entry_in}
use Rattle.fs_board.proofs.Places.{entry_there, no_entry}
use Rattle.fs_board.proofs.board.Board.entry.Goals as goal

pub returns-in-Some : goal.returns-in-Some
returns-in-Some g c =
    let is = ap (λ (p : Posted g.row.A.Denot g.row.B.Denot). time_in c.args.id p.commits) c.self.view_is ∙ sym c.time_of.ensures ∙ c.in-Some.is in
    c.get.ensures.value ∙ entry_there c.self.inside.by_time.entries c.args.id c.in-Some.time c.self.inside.last c.self.invariant.rise is
    ∙ ap (λ (p : Posted g.row.A.Denot g.row.B.Denot). entry_in c.args.id p.commits) c.self.view_is

pub returns-in-None : goal.returns-in-None
returns-in-None g c = sym (no_entry c.args.self.now.commits c.args.id (sym c.time_of.ensures ∙ c.in-None.is))
