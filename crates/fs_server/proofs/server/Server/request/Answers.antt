use Rattle.std.proofs.Common.{◌≡◌, [], ◌∷◌, sym, subst}
use Rattle.fs_status.specs.Refusal.{refusal_of}
use Rattle.fs_status.specs.declared.reason.Reason.TheVariants.{Memory}
use Rattle.fs_machine.specs.Event.{Event}
use Rattle.fs_machine.specs.Grows.{Grows}
use Rattle.fs_machine.specs.declared.answer.Answer.TheVariants.{Refused}
use Rattle.fs_machine.specs.State.{Machine}
use Rattle.fs_server.proofs.Refusing.{request_not}
use Rattle.fs_server.proofs.server.Server.request.Goals as goal

pub returns-in-Ok-clause-memory : goal.returns-in-Ok-clause-memory
returns-in-Ok-clause-memory c = λ memory. absurd (request_not c.args.self.now c.args.session c.args.envelope.now (subst (λ a. a ≡ Refused (refusal_of Memory)) c.in-Ok.ensures.told memory))

pub returns-in-Ok-clause-grows : goal.returns-in-Ok-clause-grows
returns-in-Ok-clause-grows c =
    let m = c.args.self.now in
    subst (λ (n : Machine). Grows m.past n.past) (sym c.in-Ok.ensures.state) (c.stand.ensures.grows m (Event.asking c.args.session c.args.envelope.now ∷ []) c.stand.ensures.facts)
