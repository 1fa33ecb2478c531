use Rattle.std.proofs.Common.{◌≡◌, [], ◌∷◌, Some, sym, subst}
use Rattle.fs_machine.specs.Event.{Event}
use Rattle.fs_machine.specs.Grows.{Grows}
use Rattle.fs_machine.specs.Retry.{retry_answer}
use Rattle.fs_machine.specs.State.{Machine}
use Rattle.fs_server.proofs.Refusing.{retry_not}
use Rattle.fs_server.proofs.server.Server.retry.Goals as goal

pub returns-in-Ok-clause-memory : goal.returns-in-Ok-clause-memory
returns-in-Ok-clause-memory c = λ memory. absurd (retry_not c.args.self.now c.args.place (subst (λ a. Some a ≡ retry_answer c.args.self.now c.args.place) memory c.in-Ok.ensures.told))

pub returns-in-Ok-clause-grows : goal.returns-in-Ok-clause-grows
returns-in-Ok-clause-grows c =
    let m = c.args.self.now in
    subst (λ (n : Machine). Grows m.past n.past) (sym c.in-Ok.ensures.state) (c.stand.ensures.grows m (Event.retrying c.args.place ∷ []) c.stand.ensures.facts)
