use Rattle.std.proofs.Common.{sym, subst}
use Rattle.fs_past.specs.Kept.{IsKept}
use Rattle.fs_past.proofs.Keeping.{kept_ticked}
use Rattle.fs_past.proofs.past.Past.advance.Goals as goal

pub invariant_of-self : goal.invariant_of-self
invariant_of-self c =
    let s = c.self.inside in
    subst (λ b. IsKept s.journal b s.holds s.store.stored c.args.now s.waiting) (sym c.tick.ensures) (kept_ticked s.journal s.board s.holds s.store.stored s.moment s.waiting c.self.invariant c.args.now)
