use Rattle.std.proofs.Common.{refl, sym, ap, ◌∙◌, subst}
use Rattle.fs_machine.specs.Event.{Event}
use Rattle.fs_machine.specs.Facts.{Facts}
use Rattle.fs_machine.specs.Leave.{departed}
use Rattle.fs_machine.specs.State.{Machine}
use Rattle.fs_machine.proofs.Runs.{keeps}
use Rattle.fs_sessions.specs.Heard.{AreHeard, IsHeard, listeners_of}
use Rattle.fs_server.proofs.Asking.{kept_of}
use Rattle.fs_sessions.proofs.Ears.{all_without, listeners_without}
use Rattle.fs_server.proofs.server.Server.leave.Goals as goal

pub invariant_of-self : goal.invariant_of-self
invariant_of-self c =
    let s = c.self.inside in
    let session = c.args.session in
    let m : Machine = record { config = s.config; limits = s.limits; past = s.past; txns = s.txns; sessions = s.sessions; listeners = listeners_of s.listeners; parked = s.waiting; streams = s.streams; numbers = s.numbers } in
    let facts = keeps m (Event.leaving session) (subst Facts (sym c.self.view_is) c.stand.ensures.facts) in
    let listeners = ap listeners_of c.remove-2.ensures ∙ listeners_without session s.listeners in
    kept_of (record m { sessions = c.remove.new.self; listeners = listeners_of c.remove-2.new.self; parked = c.withdraw.new.self; streams = c.leave.new.self }) c.remove-2.new.self refl c.self.invariant.configured c.self.invariant.allowed
    c.self.invariant.shards
    (subst (AreHeard s.config s.limits s.past) (sym c.remove-2.ensures) (all_without (IsHeard s.config s.limits s.past) session s.listeners c.self.invariant.heard))
    (subst Facts (sym (λ i. record m { sessions = c.remove.ensures i; listeners = listeners i; parked = c.withdraw.ensures i; streams = c.leave.ensures i })) facts)

pub returns-clause-state : goal.returns-clause-state
returns-clause-state c =
    let s = c.self.inside in
    let session = c.args.session in
    let m : Machine = record { config = s.config; limits = s.limits; past = s.past; txns = s.txns; sessions = s.sessions; listeners = listeners_of s.listeners; parked = s.waiting; streams = s.streams; numbers = s.numbers } in
    let listeners = ap listeners_of c.remove-2.ensures ∙ listeners_without session s.listeners in
    (λ i. record m { sessions = c.remove.ensures i; listeners = listeners i; parked = c.withdraw.ensures i; streams = c.leave.ensures i }) ∙ ap (λ (k : Machine). departed k session) c.self.view_is
