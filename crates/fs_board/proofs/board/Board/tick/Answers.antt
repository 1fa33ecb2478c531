use Rattle.fs_board.specs.Board.{posted}
use Rattle.std.proofs.Common.{◌≡◌, ◌≤ℤ◌, ℤ, true, arith}
use Rattle.std.specs.Ordering.{is_lt, int_cmp}
use Rattle.std.proofs.lemmas.Int.{ints}
use Rattle.fs_board.proofs.Keeping.{kept_higher}
use Rattle.fs_board.proofs.board.Board.tick.Goals as goal

not_lower : (a b : ℤ) → true ≡ is_lt (int_cmp a b) → a ≤ℤ b
not_lower a b is = grind (arith, ints)

pub invariant_of-self : goal.invariant_of-self
invariant_of-self g c =
    kept_higher (posted c.self.inside.by_time.entries) c.self.inside.times.entries c.self.inside.last c.args.now (not_lower c.self.inside.last c.args.now c.if-lt.ensures) c.self.invariant
