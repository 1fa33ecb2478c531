use Rattle.std.proofs.Common.{[], ◌∷◌}
use Rattle.fs_cache.proofs.Naming.{kept_forgotten}
use Rattle.fs_cache.proofs.cache.Cache.forget.Goals as goal

pub invariant_of-self : goal.invariant_of-self
invariant_of-self c =
    let standing = c.forget_standing in
    let changes = c.forget_changes in
    kept_forgotten c.self.inside.taken.entries c.self.inside.changes.entries c.self.invariant (c.args.target ∷ []) standing.new.places.entries changes.new.changes.entries
    standing.ensures.standing changes.ensures.staged (changes.ensures.placed standing.new.places.entries (standing.ensures.placed c.self.invariant.placed))
