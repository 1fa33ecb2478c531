use Rattle.std.proofs.Common.{[], ◌∷◌, sym, subst}
use Rattle.fs_machine.specs.Event.{Event}
use Rattle.fs_machine.specs.Grows.{Grows}
use Rattle.fs_machine.specs.State.{Machine}
use Rattle.fs_server.proofs.server.Server.load.Goals as goal

pub returns-in-Ok-clause-grows : goal.returns-in-Ok-clause-grows
returns-in-Ok-clause-grows c =
    let m = c.args.self.now in
    subst (λ (n : Machine). Grows m.past n.past) (sym c.in-Ok.ensures.state) (c.stand.ensures.grows m (Event.loading c.args.session c.args.target c.args.at ∷ []) c.stand.ensures.facts)
