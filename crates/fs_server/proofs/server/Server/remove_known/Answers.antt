use Rattle.std.proofs.Common.{ap, ◌∙◌}
use Rattle.fs_machine.specs.Listen.{without_id}
use Rattle.fs_machine.specs.State.{Machine}
use Rattle.fs_sessions.specs.Heard.{listeners_of}
use Rattle.fs_server.proofs.Targets.{kept_removing, listeners_removing}
use Rattle.fs_server.proofs.server.Server.remove_known.Goals as goal

pub invariant_of-self : goal.invariant_of-self
invariant_of-self c =
    let s = c.self.inside in
    kept_removing s.config s.limits s.past s.txns s.sessions s.listeners c.remove_target.new.self s.waiting s.streams s.numbers c.self.invariant c.targets_are_lawful.ensures.removing c.args.session c.args.id
    c.remove_target.ensures

pub returns-clause-state : goal.returns-clause-state
returns-clause-state c =
    let s = c.self.inside in
    let m : Machine = record { config = s.config; limits = s.limits; past = s.past; txns = s.txns; sessions = s.sessions; listeners = listeners_of s.listeners; parked = s.waiting; streams = s.streams; numbers = s.numbers } in
    let listeners = ap listeners_of c.remove_target.ensures ∙ listeners_removing c.args.session c.args.id s.listeners in
    (λ i. record m { listeners = listeners i }) ∙ ap (λ (k : Machine). without_id k c.args.session c.args.id) c.self.view_is
