use Rattle.std.proofs.Common.{ℕ, List, subst}
use Rattle.std.specs.Prelude.{◌≡◌, ◌||◌, ◌==◌}
use Rattle.fs_locks.proofs.Ids.{inserted}
use Rattle.fs_locks.specs.Tree.{has}
use Rattle.fs_locks.proofs.holders.Holders.insert.Goals as goal

pub returns-clause-ok : goal.returns-clause-ok
returns-clause-ok c =
    subst (λ (ids : List ℕ). (i : ℕ) → has i c.insert.new.self.keys ≡ (i == c.args.id || has i ids)) c.self.view_is
    (inserted c.args.id c.self.inside.ids.keys c.insert.new.self.keys c.in_ok-insert.ensures.updates.0)
