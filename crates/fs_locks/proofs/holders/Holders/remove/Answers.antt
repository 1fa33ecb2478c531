use Rattle.std.proofs.Common.{ℕ, List, subst}
use Rattle.std.specs.Prelude.{◌≡◌, ◌&&◌, ◌==◌, not}
use Rattle.fs_locks.proofs.Ids.{removed}
use Rattle.fs_locks.specs.Tree.{has}
use Rattle.fs_locks.proofs.holders.Holders.remove.Goals as goal

pub returns : goal.returns
returns c =
    subst (λ (ids : List ℕ). (i : ℕ) → has i c.remove.new.self.keys ≡ (not (i == c.args.id) && has i ids)) c.self.view_is
    (removed c.args.id c.self.inside.ids.keys c.remove.new.self.keys c.remove.ensures.updates.0)
