use Rattle.std.proofs.Common.{sym, subst}
use Rattle.fs_target.specs.Places.{HavePlaces}
use Rattle.fs_target.proofs.kept.Kept.go_to.Goals as goal

pub invariant_of-self : goal.invariant_of-self
invariant_of-self c =
    let new = c.go_to.new.places in
    (subst (HavePlaces new) (sym c.go_to.ensures.staged) c.go_to.ensures.places, subst (HavePlaces new) (sym c.go_to.ensures.coming) tt)
