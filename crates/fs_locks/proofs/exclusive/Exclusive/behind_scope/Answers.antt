use Rattle.std.proofs.Common.{ℕ, Bool, sym, subst}
use Rattle.std.specs.Prelude.{IsTrue}
use Rattle.fs_path.specs.Scope.{covers}
use Rattle.fs_path.specs.declared.name.DocName.{DocName}
use Rattle.fs_locks.specs.Holds.{HoldsTouched, IsLeastOther}
use Rattle.fs_locks.specs.declared.held.Held.{Held}
use Rattle.fs_locks.proofs.Views.{held_as}
use Rattle.fs_locks.proofs.exclusive.Exclusive.behind_scope.Goals as goal

pub returns-in-Name : goal.returns-in-Name
returns-in-Name c =
    subst (λ (touched : Held). IsLeastOther (HoldsTouched c.args.self.now touched) c.args.by c.first_at.result) (sym c.in-Name.is)
    (subst (λ (p : ℕ → DocName → Bool). IsLeastOther (λ i. IsTrue (p i c.in-Name.name)) c.args.by c.first_at.result)
    (held_as c.self.inside.by_name.entries c.args.self.now c.self.view_is) c.first_at.ensures)

pub returns-in-Scope : goal.returns-in-Scope
returns-in-Scope c =
    subst (λ (touched : Held). IsLeastOther (HoldsTouched c.args.self.now touched) c.args.by c.first_in.result) (sym c.in-Scope.is)
    (subst (λ (p : ℕ → DocName → Bool). IsLeastOther (λ i. (n : DocName) × IsTrue (covers c.in-Scope.scope n) × IsTrue (p i n)) c.args.by c.first_in.result)
    (held_as c.self.inside.by_name.entries c.args.self.now c.self.view_is) c.first_in.ensures)
