use Rattle.fs_cache.proofs.Naming.{kept_left}
use Rattle.fs_cache.proofs.cache.Cache.leave_all.Goals as goal

pub invariant_of-self : goal.invariant_of-self
invariant_of-self c =
    let all = c.in_ok-self-inside in
    kept_left c.self.inside.taken.entries c.self.inside.changes.entries c.self.invariant c.args.gone.now all.field-0.entries all.ensures.staged all.ensures.placed
