use Rattle.std.proofs.Common.{◌<◌, ◌^◌, [], ◌∷◌, refl, sym, ap, ◌∙◌, subst}
use Rattle.fs_machine.specs.Event.{Event}
use Rattle.fs_machine.specs.Facts.{Facts}
use Rattle.fs_machine.specs.Grows.{Grows}
use Rattle.fs_machine.specs.Past.{Past}
use Rattle.fs_machine.specs.Release.{all_answered, committed_out, past_released}
use Rattle.fs_machine.specs.State.{Machine}
use Rattle.fs_machine.specs.StreamsHold.{StreamsHold}
use Rattle.fs_machine.specs.Tick.{past_advanced}
use Rattle.fs_machine.proofs.Runs.{keeps}
use Rattle.fs_sessions.specs.Heard.{listeners_of}
use Rattle.fs_server.proofs.Responses.{release_may}
use Rattle.fs_server.proofs.Asking.{kept_of}
use Rattle.fs_server.proofs.Heard.{heard_grown, heard_same}
use Rattle.fs_server.proofs.server.Server.tick.Goals as goal

pub release-requires : goal.release-requires
release-requires c =
    let s = c.self.inside in
    let m : Machine = record { config = s.config; limits = s.limits; past = s.past; txns = s.txns; sessions = s.sessions; listeners = listeners_of s.listeners; parked = s.waiting; streams = s.streams; numbers = s.numbers } in
    let then = keeps m (Event.advancing c.args.now) (subst Facts (sym c.self.view_is) c.stand.ensures.facts) in
    let small = subst (λ (k : Machine). k.numbers.ids < 2 ^ 64) (sym c.self.view_is) c.stand.ensures.counted in
    release_may c.advance.new.self s.waiting s.streams s.numbers.ids small
    (subst (λ (p : Past). StreamsHold p s.waiting s.streams s.numbers.ids) (sym c.advance.ensures) then.streams)

-- the clock has gone on
pub invariant_of-self : goal.invariant_of-self
invariant_of-self c =
    let s = c.self.inside in
    let m : Machine = record { config = s.config; limits = s.limits; past = s.past; txns = s.txns; sessions = s.sessions; listeners = listeners_of s.listeners; parked = s.waiting; streams = s.streams; numbers = s.numbers } in
    let facts = keeps m (Event.advancing c.args.now) (subst Facts (sym c.self.view_is) c.stand.ensures.facts) in
    let p = c.in_err-release.ensures.err ∙ c.advance.ensures in
    kept_of (record m { past = c.release.new.past; txns = c.expire.new.self; streams = c.release.new.streams; sessions = c.release.new.sessions }) s.listeners refl c.self.invariant.configured c.self.invariant.allowed
    (ap (λ (q : Past). q.shards) p ∙ c.self.invariant.shards)
    (heard_same s.config s.limits s.past c.release.new.past s.listeners (ap (λ (q : Past). q.history) p) (ap (λ (q : Past). q.released) p) c.self.invariant.heard)
    (subst Facts (sym (λ i. record m { past = p i; txns = c.expire.ensures i; streams = c.in_err-release.ensures.err_streams i; sessions = c.in_err-release.ensures.err_told i })) facts)

-- and what can be is released
pub invariant_of-self-2 : goal.invariant_of-self-2
invariant_of-self-2 c =
    let s = c.self.inside in
    let m : Machine = record { config = s.config; limits = s.limits; past = s.past; txns = s.txns; sessions = s.sessions; listeners = listeners_of s.listeners; parked = s.waiting; streams = s.streams; numbers = s.numbers } in
    let facts = keeps _ Event.releasing (keeps m (Event.advancing c.args.now) (subst Facts (sym c.self.view_is) c.stand.ensures.facts)) in
    let p = c.in_ok-release.ensures.past ∙ ap past_released c.advance.ensures in
    let told = c.in_ok-release.ensures.told ∙ ap (λ (q : Past). all_answered (committed_out q) (s.streams, s.sessions)) c.advance.ensures in
    let now = subst Facts (sym (λ i. record m { past = p i; txns = c.expire.ensures i; streams = (told i).0; sessions = (told i).1 })) facts in
    let advanced = c.advance.ensures in
    kept_of (record m { past = c.release.new.past; txns = c.expire.new.self; streams = c.release.new.streams; sessions = c.release.new.sessions }) s.listeners refl c.self.invariant.configured c.self.invariant.allowed
    (ap (λ (q : Past). q.shards) p ∙ c.self.invariant.shards)
    (heard_grown c.targets_are_lawful.ensures.growth s.config s.limits c.advance.new.self c.release.new.past s.listeners c.in_ok-release.ensures.brings now.past.history.rising
    (heard_same s.config s.limits s.past c.advance.new.self s.listeners (ap (λ (q : Past). q.history) advanced) (ap (λ (q : Past). q.released) advanced) c.self.invariant.heard))
    now

pub returns-clause-grows : goal.returns-clause-grows
returns-clause-grows c =
    let m = c.args.self.now in
    let is = c.in_ok-release.ensures.past ∙ ap past_released c.advance.ensures ∙ ap (λ (n : Machine). past_released (past_advanced n.past c.args.now)) c.self.view_is in
    subst (λ p. Grows m.past p) (sym is) (c.stand.ensures.grows m (Event.advancing c.args.now ∷ Event.releasing ∷ []) c.stand.ensures.facts)
