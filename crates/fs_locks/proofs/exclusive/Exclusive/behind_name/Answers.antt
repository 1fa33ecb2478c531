use Rattle.std.proofs.Common.{ℕ, Bool, subst}
use Rattle.std.specs.Prelude.{IsTrue}
use Rattle.fs_path.specs.declared.name.DocName.{DocName}
use Rattle.fs_locks.specs.Holds.{IsLeastOther}
use Rattle.fs_locks.proofs.Views.{held_as}
use Rattle.fs_locks.proofs.exclusive.Exclusive.behind_name.Goals as goal

pub returns : goal.returns
returns c =
    subst (λ (p : ℕ → DocName → Bool). IsLeastOther (λ i. IsTrue (p i c.args.name.now)) c.args.by c.first_at.result)
    (held_as c.self.inside.by_name.entries c.args.self.now c.self.view_is) c.first_at.ensures
