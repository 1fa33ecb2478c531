use Rattle.std.proofs.Common.{refl, sym, ap, ◌∙◌, subst}
use Rattle.fs_listen.specs.Cuts.{least_before}
use Rattle.fs_machine.specs.Compact.{compacted, past_compacted}
use Rattle.fs_machine.specs.Event.{Event}
use Rattle.fs_machine.specs.Facts.{Facts}
use Rattle.fs_machine.specs.Past.{Past}
use Rattle.fs_machine.specs.State.{Machine}
use Rattle.fs_machine.proofs.Runs.{keeps}
use Rattle.fs_sessions.specs.Heard.{listeners_of}
use Rattle.fs_server.proofs.Asking.{kept_of}
use Rattle.fs_server.proofs.Heard.{heard_same}
use Rattle.fs_server.proofs.server.Server.compact.Goals as goal

pub invariant_of-self : goal.invariant_of-self
invariant_of-self c =
    let s = c.self.inside in
    let m : Machine = record { config = s.config; limits = s.limits; past = s.past; txns = s.txns; sessions = s.sessions; listeners = listeners_of s.listeners; parked = s.waiting; streams = s.streams; numbers = s.numbers } in
    let facts = keeps m (Event.compacting c.args.to) (subst Facts (sym c.self.view_is) c.stand.ensures.facts) in
    let p = c.compact.ensures.state ∙ ap (λ first. past_compacted s.past first c.args.to) (c.lesser-first.ensures ∙ (λ i. least_before (c.oldest.ensures i) (c.least_position.ensures i))) in
    kept_of (record m { past = c.compact.new.self }) s.listeners refl c.self.invariant.configured c.self.invariant.allowed (ap (λ (q : Past). q.shards) p ∙ c.self.invariant.shards)
    (heard_same s.config s.limits s.past c.compact.new.self s.listeners (ap (λ (q : Past). q.history) p) (ap (λ (q : Past). q.released) p) c.self.invariant.heard)
    (subst Facts (sym (λ i. record m { past = p i })) facts)

pub returns-clause-state : goal.returns-clause-state
returns-clause-state c =
    let s = c.self.inside in
    let m : Machine = record { config = s.config; limits = s.limits; past = s.past; txns = s.txns; sessions = s.sessions; listeners = listeners_of s.listeners; parked = s.waiting; streams = s.streams; numbers = s.numbers } in
    let p = c.compact.ensures.state ∙ ap (λ first. past_compacted s.past first c.args.to) (c.lesser-first.ensures ∙ (λ i. least_before (c.oldest.ensures i) (c.least_position.ensures i))) in
    (λ i. record m { past = p i }) ∙ ap (λ (k : Machine). compacted k c.args.to) c.self.view_is
