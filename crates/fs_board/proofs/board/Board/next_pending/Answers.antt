use Rattle.std.proofs.Common.{ℤ, ℕ, sym, ap, ◌∙◌}
use Rattle.std.specs.Option.{option_map}
use Rattle.fs_board.proofs.Releasing.{next_is}
use Rattle.fs_board.proofs.board.Board.next_pending.Goals as goal

pub returns-in-Some : goal.returns-in-Some
returns-in-Some g c = sym (next_is c.args.self.now.commits ∙ ap (option_map (λ (p : ℤ × ℕ). p.1)) (sym c.first_pending.ensures ∙ c.in-Some.is))

pub returns-in-None : goal.returns-in-None
returns-in-None g c = sym (next_is c.args.self.now.commits ∙ ap (option_map (λ (p : ℤ × ℕ). p.1)) (sym c.first_pending.ensures ∙ c.in-None.is))
