use Rattle.std.proofs.Common.{◌≡◌, ◌≤ℤ◌, map, refl, sym, ap, ◌∙◌, subst}
use Rattle.std.proofs.lemmas.Result.{on_ok_weaker}
use Rattle.fs_machine.specs.Event.{Event}
use Rattle.fs_machine.specs.Facts.{Facts}
use Rattle.fs_machine.specs.Match.{matched}
use Rattle.fs_machine.specs.State.{Machine}
use Rattle.fs_machine.proofs.Runs.{keeps}
use Rattle.fs_server.specs.Events.{AreEvents}
use Rattle.fs_sessions.specs.Heard.{AreHeard, heard_fed, listeners_of}
use Rattle.fs_server.specs.Kept.{IsKept}
use Rattle.fs_server.proofs.Asking.{kept_of}
use Rattle.fs_server.proofs.Feeding.{all_fed, listeners_matched}
use Rattle.fs_server.proofs.Outcomes.{by_result}
use Rattle.fs_server.proofs.server.Server.feed.Goals as goal

pub invariant_of-self : goal.invariant_of-self
invariant_of-self c =
    let s = c.self.inside in
    let shard = c.args.shard in
    let to = c.args.to in
    let es = c.args.events.now in
    let m : Machine = record { config = s.config; limits = s.limits; past = s.past; txns = s.txns; sessions = s.sessions; listeners = listeners_of s.listeners; parked = s.waiting; streams = s.streams; numbers = s.numbers } in
    let by = subst (λ (k : Machine). to ≤ℤ k.past.released) (sym c.self.view_is) c.requires.released in
    let told = subst (λ (k : Machine). AreEvents k shard to es) (sym c.self.view_is) c.requires.events in
    by_result c.feed.result c.feed.ensures.ok c.feed.ensures.err
    (λ went.
    let fed : c.feed.new.self ≡ map (heard_fed shard es to) s.listeners = went ∙ ap (λ xs. map (heard_fed shard xs to) s.listeners) c.as_slice.ensures in
    let listeners = listeners_matched shard es to s.past.released s.listeners c.feed.new.self by fed in
    kept_of (record m { listeners = listeners_of c.feed.new.self }) c.feed.new.self refl c.self.invariant.configured c.self.invariant.allowed c.self.invariant.shards
    (subst (AreHeard s.config s.limits s.past) (sym fed)
    (all_fed c.targets_are_lawful.ensures.feeding s.config s.limits s.past shard es to by c.requires.until s.numbers.targets s.listeners c.self.invariant.heard c.self.invariant.listened.numbers told))
    (subst Facts (sym (λ i. record m { listeners = listeners i })) (keeps m (Event.matching shard to) (subst Facts (sym c.self.view_is) c.stand.ensures.facts))))
    (λ same. subst (λ hs. IsKept s.config s.limits s.past s.txns s.sessions hs s.waiting s.streams s.numbers) (sym same) c.self.invariant)

pub returns-clause-ok : goal.returns-clause-ok
returns-clause-ok c =
    let s = c.self.inside in
    let shard = c.args.shard in
    let to = c.args.to in
    let es = c.args.events.now in
    let m : Machine = record { config = s.config; limits = s.limits; past = s.past; txns = s.txns; sessions = s.sessions; listeners = listeners_of s.listeners; parked = s.waiting; streams = s.streams; numbers = s.numbers } in
    let by = subst (λ (k : Machine). to ≤ℤ k.past.released) (sym c.self.view_is) c.requires.released in
    on_ok_weaker c.feed.result
    (λ went.
    let fed : c.feed.new.self ≡ map (heard_fed shard es to) s.listeners = went ∙ ap (λ xs. map (heard_fed shard xs to) s.listeners) c.as_slice.ensures in
    let listeners = listeners_matched shard es to s.past.released s.listeners c.feed.new.self by fed in
    (λ i. record m { listeners = listeners i }) ∙ ap (λ (k : Machine). matched k shard to) c.self.view_is)
    c.feed.ensures.ok
