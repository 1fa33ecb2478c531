use Rattle.std.proofs.Common.{ℕ, Bool, List, subst}
use Rattle.std.specs.Prelude.{IsTrue}
use Rattle.std.specs.List.{list_any}
use Rattle.fs_path.specs.declared.name.DocName.{DocName}
use Rattle.fs_locks.specs.Holds.{IsLeastOther}
use Rattle.fs_locks.specs.Tree.{held}
use Rattle.fs_locks.proofs.Views.{canonical, held_as}
use Rattle.fs_locks.proofs.exclusive.Exclusive.behind.Goals as goal

pub returns-clause-value : goal.returns-clause-value
returns-clause-value c =
    subst (λ (p : ℕ → DocName → Bool). IsLeastOther (λ i. IsTrue (list_any (p i) c.args.names.now)) c.args.by c.first_among.result)
    (held_as c.self.inside.by_name.entries c.args.self.now c.self.view_is)
    (subst (λ (names : List DocName). IsLeastOther (λ i. IsTrue (list_any (held c.self.inside.by_name.entries i) names)) c.args.by c.first_among.result) c.as_slice.ensures c.first_among.ensures)

pub returns-clause-canonical : goal.returns-clause-canonical
returns-clause-canonical c = canonical c.self.inside.by_name.entries c.args.self.now c.self.view_is
