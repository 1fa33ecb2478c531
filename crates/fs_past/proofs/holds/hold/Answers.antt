use Rattle.std.proofs.Common.{◌≡◌, Some, None, sym, ap, ◌∙◌}
use Rattle.std.specs.Prelude.{◌||◌, ◌&&◌, ◌==◌}
use Rattle.std.specs.Option.{option_copied}
use Rattle.std.proofs.Math.Bool.{and-false, or-false}
use Rattle.std.proofs.lemmas.Result.{on_ok_weaker}
use Rattle.fs_board.specs.Board.{asked_in}
use Rattle.fs_locks.specs.Holds.{is_held}
use Rattle.fs_write.specs.WrittenName.{is_written}
use Rattle.fs_past.proofs.Holding.{writes_nothing, writes_own}
use Rattle.fs_past.proofs.holds.hold.Goals as goal

pub returns-in-Some-clause-ok : goal.returns-in-Some-clause-ok
returns-in-Some-clause-ok c =
    let cs = c.args.board.now.commits in
    let at : asked_in c.args.id cs ≡ Some c.in-Some.commit.now = sym c.asked.ensures ∙ ap option_copied c.in-Some.is in
    on_ok_weaker c.hold_written.result
    (λ more i n.
    more i n ∙ ap (λ b. is_held c.args.locks.now.exclusive i n || (i == c.args.id && b))
    (ap (is_written n) c.as_slice.ensures ∙ sym (writes_own cs c.args.id c.in-Some.commit.now n c.requires at)))
    c.hold_written.ensures.ok

pub returns-in-None-clause-ok : goal.returns-in-None-clause-ok
returns-in-None-clause-ok c = λ i n.
    let cs = c.args.board.now.commits in
    let none : asked_in c.args.id cs ≡ None = sym c.asked.ensures ∙ ap option_copied c.in-None.is in
    sym (ap (λ b. is_held c.args.locks.now.exclusive i n || (i == c.args.id && b)) (writes_nothing cs c.args.id n none)
    ∙ ap (λ b. is_held c.args.locks.now.exclusive i n || b) (and-false (i == c.args.id))
    ∙ or-false (is_held c.args.locks.now.exclusive i n))
