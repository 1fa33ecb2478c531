use Rattle.std.proofs.Common.{◌≡◌, ◌+◌, refl, sym, ap, ◌∙◌, subst}
use Rattle.fs_machine.specs.Event.{Event}
use Rattle.fs_machine.specs.Facts.{Facts}
use Rattle.fs_machine.specs.Open.{is_full, with_session}
use Rattle.fs_machine.specs.State.{Machine}
use Rattle.fs_past.specs.Bringing.{IsBrought}
use Rattle.fs_machine.proofs.Runs.{keeps}
use Rattle.fs_sessions.specs.Heard.{AreHeard, listeners_of, opened_ear}
use Rattle.fs_server.proofs.Asking.{kept_of}
use Rattle.fs_sessions.proofs.Ears.{listeners_more}
use Rattle.fs_server.proofs.Heard.{heard_more}
use Rattle.fs_server.proofs.Opening.{not_full}
use Rattle.fs_server.proofs.server.Server.opened.Goals as goal

pub invariant_of-self-2 : goal.invariant_of-self-2
invariant_of-self-2 c =
    let s = c.self.inside in
    let m : Machine = record { config = s.config; limits = s.limits; past = s.past; txns = s.txns; sessions = s.sessions; listeners = listeners_of s.listeners; parked = s.waiting; streams = s.streams; numbers = s.numbers } in
    let h = opened_ear s.numbers.sessions s.config.shards s.limits.targets in
    let listeners = ap listeners_of c.in_ok-add.ensures.ok ∙ listeners_more s.listeners h in
    let is : record m { sessions = c.add-2.new.self; listeners = listeners_of c.add.new.self; numbers = record s.numbers { sessions = s.numbers.sessions + 1 } } ≡ with_session m =
    λ i. record m { sessions = c.in_default.ensures.ok i; listeners = listeners i; numbers = record s.numbers { sessions = s.numbers.sessions + 1 } } in
    let facts = keeps m Event.opening (subst Facts (sym c.self.view_is) c.stand.ensures.facts) in
    let free = not_full m c.is_full.result (c.is_full.ensures ∙ ap is_full (sym c.self.view_is)) c.if-is_full.false in
    kept_of (record m { sessions = c.add-2.new.self; listeners = listeners_of c.add.new.self; numbers = record s.numbers { sessions = s.numbers.sessions + 1 } }) c.add.new.self refl c.self.invariant.configured c.self.invariant.allowed
    c.self.invariant.shards
    (subst (AreHeard s.config s.limits s.past) (sym c.in_ok-add.ensures.ok)
    (heard_more c.targets_are_lawful.ensures.none s.config s.limits s.past s.numbers.sessions s.listeners (subst (λ (k : Machine). IsBrought k.past.history) (sym c.self.view_is) c.stand.ensures.brought)
    (subst Facts (sym c.self.view_is) c.stand.ensures.facts).past.history.rising c.self.invariant.configured c.self.invariant.heard))
    (subst Facts (free ∙ sym is) facts)
