use Rattle.std.proofs.Common.{Option, subst}
use Rattle.std.specs.Prelude.{IsTrue}
use Rattle.std.specs.Option.{option_copied}
use Rattle.fs_locks.specs.Holds.{IsLeastOther}
use Rattle.fs_locks.specs.declared.parents.Parents.{Parents}
use Rattle.fs_locks.proofs.TextMaps.{below}
use Rattle.fs_locks.proofs.scopes.Scopes.first_at.Goals as goal

pub returns-in-Some : goal.returns-in-Some
returns-in-Some c =
    subst (λ (o : Option Parents). IsLeastOther (λ i. IsTrue (below i (option_copied c.args.path) o)) c.args.by c.first_at.result) c.in-Some.ensures.value c.first_at.ensures
