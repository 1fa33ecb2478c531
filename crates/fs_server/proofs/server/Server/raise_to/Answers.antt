use Rattle.std.proofs.Common.{refl, sym, ap, ◌∙◌, subst}
use Rattle.fs_machine.specs.Facts.{Facts}
use Rattle.fs_machine.specs.Listen.{listening_of}
use Rattle.fs_machine.specs.Listeners.{listening_in}
use Rattle.fs_machine.specs.Raise.{cut_of, raised_to_time}
use Rattle.fs_machine.specs.Refusing.{outbox_is_full}
use Rattle.fs_machine.specs.State.{Machine}
use Rattle.fs_machine.proofs.ListenersHold.{cut_released}
use Rattle.fs_machine.proofs.Listening.{listening_holds}
use Rattle.fs_listen.specs.Cuts.{is_ready}
use Rattle.fs_sessions.specs.Heard.{AreHeard, listeners_of}
use Rattle.fs_server.specs.Kept.{IsKept}
use Rattle.fs_server.proofs.Asking.{kept_of}
use Rattle.fs_server.proofs.Outcomes.{by_both, of_both}
use Rattle.fs_server.proofs.Positions.{cut_readable}
use Rattle.fs_server.proofs.Raising.{heard_then, listeners_then, raised_facts, told_then}
use Rattle.fs_server.proofs.server.Server.raise_to.Goals as goal

pub raise-requires-clause-from : goal.raise-requires-clause-from
raise-requires-clause-from c =
    let s = c.self.inside in
    let session = c.args.session in
    cut_readable s.past (listening_in session (listeners_of s.listeners)) c.args.time (listening_holds s.past session (listeners_of s.listeners) c.self.invariant.listened.times)
    (ap (λ (k : Machine). cut_of k session) c.self.view_is ∙ c.requires.cut)

pub raise-requires-clause-to : goal.raise-requires-clause-to
raise-requires-clause-to c =
    let s = c.self.inside in
    let session = c.args.session in
    cut_released s.past (listening_in session (listeners_of s.listeners)) c.args.time (listening_holds s.past session (listeners_of s.listeners) c.self.invariant.listened.times)
    (ap (λ (k : Machine). cut_of k session) c.self.view_is ∙ c.requires.cut)

pub invariant_of-self : goal.invariant_of-self
invariant_of-self c =
    let s = c.self.inside in
    let session = c.args.session in
    let time = c.args.time in
    let m : Machine = record { config = s.config; limits = s.limits; past = s.past; txns = s.txns; sessions = s.sessions; listeners = listeners_of s.listeners; parked = s.waiting; streams = s.streams; numbers = s.numbers } in
    let room = ap (λ (k : Machine). outbox_is_full k session) c.self.view_is ∙ c.requires.room in
    let together = ap (λ (k : Machine). cut_of k session) c.self.view_is ∙ c.requires.cut in
    let ready = ap (λ (k : Machine). is_ready (listening_of k session)) c.self.view_is ∙ c.requires.ready in
    let law = c.targets_are_lawful.ensures in
    by_both c.raise.result c.raise.ensures.ok c.raise.ensures.told c.raise.ensures.err c.raise.ensures.err_told
    (λ went said.
    let listeners = ap listeners_of went ∙ listeners_then m s.listeners refl session time together ready c.self.invariant.heard in
    let sessions = told_then m s.listeners refl session time together ready c.self.invariant.heard law.told c.raise.new.sessions said in
    kept_of (record m { sessions = c.raise.new.sessions; listeners = listeners_of c.raise.new.self }) c.raise.new.self refl c.self.invariant.configured c.self.invariant.allowed c.self.invariant.shards
    (subst (AreHeard s.config s.limits s.past) (sym went) (heard_then m s.listeners refl session time together ready c.self.invariant.heard law.raising))
    (subst Facts (sym (λ i. record m { sessions = sessions i; listeners = listeners i })) (raised_facts m session time room together ready (subst Facts (sym c.self.view_is) c.stand.ensures.facts))))
    (λ same alike. subst (λ ss. IsKept s.config s.limits s.past s.txns ss c.raise.new.self s.waiting s.streams s.numbers) (sym alike)
    (subst (λ hs. IsKept s.config s.limits s.past s.txns s.sessions hs s.waiting s.streams s.numbers) (sym same) c.self.invariant))

pub returns-clause-ok : goal.returns-clause-ok
returns-clause-ok c =
    let s = c.self.inside in
    let session = c.args.session in
    let time = c.args.time in
    let m : Machine = record { config = s.config; limits = s.limits; past = s.past; txns = s.txns; sessions = s.sessions; listeners = listeners_of s.listeners; parked = s.waiting; streams = s.streams; numbers = s.numbers } in
    let together = ap (λ (k : Machine). cut_of k session) c.self.view_is ∙ c.requires.cut in
    let ready = ap (λ (k : Machine). is_ready (listening_of k session)) c.self.view_is ∙ c.requires.ready in
    of_both c.raise.result c.raise.ensures.ok c.raise.ensures.told
    (λ went said.
    let listeners = ap listeners_of went ∙ listeners_then m s.listeners refl session time together ready c.self.invariant.heard in
    let sessions = told_then m s.listeners refl session time together ready c.self.invariant.heard c.targets_are_lawful.ensures.told c.raise.new.sessions said in
    (λ i. record m { sessions = sessions i; listeners = listeners i }) ∙ ap (λ (k : Machine). raised_to_time k session time) c.self.view_is)
