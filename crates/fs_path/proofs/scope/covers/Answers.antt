use Rattle.std.proofs.Common.{IsTrue, ◌↔◌, sym, subst}
use Rattle.fs_path.specs.Scope.{Covers}
use Rattle.fs_path.proofs.Scopes.{covers_law}
use Rattle.fs_path.proofs.scope.covers.Goals as goal

pub returns-clause-meaning : goal.returns-clause-meaning
returns-clause-meaning c = subst (λ b. IsTrue b ↔ Covers c.args.scope.now c.args.name.now) (sym c.is_in.ensures) (covers_law c.args.scope.now c.args.name.now)
