use Rattle.std.proofs.Common.{◌≡◌, Some, None, sym, ap, ◌∙◌}
use Rattle.std.specs.List.{list_any}
use Rattle.std.specs.Option.{option_copied}
use Rattle.fs_board.specs.Board.{asked_in}
use Rattle.fs_machine.specs.Behind.{write_same}
use Rattle.fs_write.specs.WrittenName.{written_name}
use Rattle.fs_past.proofs.Holding.{none_at_all, writes_nothing, writes_own}
use Rattle.fs_past.proofs.holds.writes_one.Goals as goal

pub returns-in-Some : goal.returns-in-Some
returns-in-Some c =
    let cs = c.args.board.now.commits in
    let at : asked_in c.args.id cs ≡ Some c.in-Some.commit.now = sym c.asked.ensures ∙ ap option_copied c.in-Some.is in
    c.meet.ensures
    ∙ ap (write_same c.args.writes.now) c.as_slice.ensures
    ∙ ap (λ p. list_any p c.args.writes.now) (λ k w. sym (writes_own cs c.args.id c.in-Some.commit.now (written_name w) c.requires at) k)

pub returns-in-None : goal.returns-in-None
returns-in-None c =
    let cs = c.args.board.now.commits in
    let none : asked_in c.args.id cs ≡ None = sym c.asked.ensures ∙ ap option_copied c.in-None.is in
    sym (ap (λ p. list_any p c.args.writes.now) (λ k w. writes_nothing cs c.args.id (written_name w) none k) ∙ none_at_all c.args.writes.now)
