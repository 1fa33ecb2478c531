use Rattle.std.proofs.Common.{IsTrue, ◌↔◌, sym, subst}
use Rattle.fs_path.specs.Segment.{IsReserved}
use Rattle.fs_path.proofs.Reserved.{reserved_law}
use Rattle.fs_path.proofs.segment.is_reserved.Goals as goal

pub returns-clause-meaning : goal.returns-clause-meaning
returns-clause-meaning c = subst (λ b. IsTrue b ↔ IsReserved c.args.text.now) (sym c.matches_reserved.ensures) (reserved_law c.args.text.now)
