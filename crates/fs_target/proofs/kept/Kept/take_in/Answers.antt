use Rattle.std.proofs.Common.{sym, subst}
use Rattle.fs_target.specs.Places.{HasPlace, HavePlaces}
use Rattle.fs_target.proofs.InOrder.{each_put_all}
use Rattle.fs_target.proofs.kept.Kept.take_in.Goals as goal

pub invariant_of-self : goal.invariant_of-self
invariant_of-self c =
    let k = c.self.inside in (
      subst (HavePlaces k.places) (sym c.take_in.ensures.staged) (each_put_all (HasPlace k.places) k.staged.coming k.staged.staged c.self.invariant.1 c.self.invariant.0),
      subst (HavePlaces k.places) (sym c.take_in.ensures.coming) tt,
    )
