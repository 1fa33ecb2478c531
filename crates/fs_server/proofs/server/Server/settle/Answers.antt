use Rattle.std.proofs.Common.{◌≡◌, ◌<◌, ◌^◌, refl, sym, ap, ◌∙◌, subst}
use Rattle.fs_machine.specs.Event.{Event}
use Rattle.fs_machine.specs.Facts.{Facts}
use Rattle.fs_machine.specs.Past.{Past}
use Rattle.fs_machine.specs.Settle.{ComesTo, Settles}
use Rattle.fs_machine.specs.State.{Machine}
use Rattle.fs_machine.proofs.Runs.{keeps}
use Rattle.fs_server.specs.Settling.{is_refused, settled_so}
use Rattle.fs_sessions.specs.Heard.{listeners_of}
use Rattle.fs_server.proofs.Responses.{refusal_may, release_may}
use Rattle.fs_server.proofs.Asking.{kept_of}
use Rattle.fs_server.proofs.Heard.{decided_shards, heard_decided, heard_grown, heard_same}
use Rattle.fs_server.proofs.Settling.{decides, has_time, is_decided, is_settled, settles, settles_grows, settles_owed}
use Rattle.fs_server.proofs.server.Server.settle.Goals as goal
use Rattle.fs_server.proofs.server.Server.settle.Goals.{in-Ok, in-Err-release}

pub decide-requires-clause-finishes : goal.decide-requires-clause-finishes
decide-requires-clause-finishes c =
    let s = c.self.inside in
    let small = subst (λ (k : Machine). k.numbers.ids < 2 ^ 64) (sym c.self.view_is) c.stand.ensures.counted in
    λ u is. refusal_may s.past s.waiting s.streams s.numbers.ids small c.self.invariant.streaming u c.args.commit is

pub release-requires : goal.release-requires
release-requires c =
    let s = c.self.inside in
    let id = c.args.commit in
    let m : Machine = record { config = s.config; limits = s.limits; past = s.past; txns = s.txns; sessions = s.sessions; listeners = listeners_of s.listeners; parked = s.waiting; streams = s.streams; numbers = s.numbers } in
    let comes = subst (λ (k : Machine). ComesTo k.past id c.args.outcome) (sym c.self.view_is) c.requires in
    let is = decides m id c.args.outcome c.decide.new.past (c.decide.new.streams, c.decide.new.sessions) comes c.in_default.ensures.ok in
    let then = subst Facts (sym is) (keeps m (Event.deciding id) (subst Facts (sym c.self.view_is) c.stand.ensures.facts)) in
    let small = subst (λ (k : Machine). k.numbers.ids < 2 ^ 64) (sym c.self.view_is) c.stand.ensures.counted in
    release_may c.decide.new.past s.waiting c.decide.new.streams s.numbers.ids small then.streams

pub invariant_of-self-2 : goal.invariant_of-self-2
invariant_of-self-2 c =
    let s = c.self.inside in
    let id = c.args.commit in
    let m : Machine = record { config = s.config; limits = s.limits; past = s.past; txns = s.txns; sessions = s.sessions; listeners = listeners_of s.listeners; parked = s.waiting; streams = s.streams; numbers = s.numbers } in
    let comes = subst (λ (k : Machine). ComesTo k.past id c.args.outcome) (sym c.self.view_is) c.requires in
    let facts = subst Facts (sym c.self.view_is) c.stand.ensures.facts in
    let decided = keeps m (Event.deciding id) facts in
    let does = c.in_default.ensures.ok in
    let shards = decided_shards s.past c.decide.new.past (s.streams, s.sessions) (c.decide.new.streams, c.decide.new.sessions) id c.args.outcome does ∙ c.self.invariant.shards in
    let heard = heard_decided s.config s.limits s.past c.decide.new.past (s.streams, s.sessions) (c.decide.new.streams, c.decide.new.sessions) s.listeners id c.args.outcome does c.self.invariant.heard in
    elim c.match-release.branch [
      | in-Ok w ↦
          let is = is_settled m id c.args.outcome c.decide.new.past c.release.new.past (c.decide.new.streams, c.decide.new.sessions) (c.release.new.streams, c.release.new.sessions) comes c.in_default.ensures.ok w.in-Ok.ensures.past w.in-Ok.ensures.told in
          let kept = subst Facts (sym is) (keeps _ Event.releasing decided) in
          kept_of (record m { past = c.release.new.past; streams = c.release.new.streams; sessions = c.release.new.sessions }) s.listeners refl c.self.invariant.configured c.self.invariant.allowed
          (ap (λ (q : Past). q.shards) w.in-Ok.ensures.past ∙ shards)
          (heard_grown c.targets_are_lawful.ensures.growth s.config s.limits c.decide.new.past c.release.new.past s.listeners w.in-Ok.ensures.brings kept.past.history.rising heard) kept
      | in-Err-release w ↦
          let is = is_decided m id c.args.outcome c.decide.new.past c.release.new.past (c.decide.new.streams, c.decide.new.sessions) (c.release.new.streams, c.release.new.sessions) comes c.in_default.ensures.ok w.in-Err-release.ensures.err (λ i. (w.in-Err-release.ensures.err_streams i, w.in-Err-release.ensures.err_told i)) in
          let kept = subst Facts (sym is) decided in
          let back = w.in-Err-release.ensures.err in
          kept_of (record m { past = c.release.new.past; streams = c.release.new.streams; sessions = c.release.new.sessions }) s.listeners refl c.self.invariant.configured c.self.invariant.allowed
          (ap (λ (q : Past). q.shards) back ∙ shards)
          (heard_same s.config s.limits c.decide.new.past c.release.new.past s.listeners (ap (λ (q : Past). q.history) back) (ap (λ (q : Past). q.released) back) heard) kept
    ]

pub returns-clause-settles : goal.returns-clause-settles
returns-clause-settles c =
    let s = c.self.inside in
    let id = c.args.commit in
    let m : Machine = record { config = s.config; limits = s.limits; past = s.past; txns = s.txns; sessions = s.sessions; listeners = listeners_of s.listeners; parked = s.waiting; streams = s.streams; numbers = s.numbers } in
    let n : Machine = record m { past = c.release.new.past; streams = c.release.new.streams; sessions = c.release.new.sessions } in
    let comes = subst (λ (k : Machine). ComesTo k.past id c.args.outcome) (sym c.self.view_is) c.requires in
    subst (λ (k : Machine). Settles k n id c.match-release.result) c.self.view_is
    (elim c.match-release.branch [
      | in-Ok w ↦
          let is = is_settled m id c.args.outcome c.decide.new.past c.release.new.past (c.decide.new.streams, c.decide.new.sessions) (c.release.new.streams, c.release.new.sessions) comes c.in_default.ensures.ok w.in-Ok.ensures.past w.in-Ok.ensures.told in
          let so : settled_so c.is_refused-dropped.result c.time-time.result w.released.result ≡ settled_so (is_refused c.args.outcome) c.pending.result.now.batch.time n.past.released =
          λ i. settled_so (c.is_refused-dropped.ensures i) (c.time-time.ensures i) (w.released.ensures.value i) in
          settles m n id c.args.outcome c.pending.result.now c.match-release.result c.pending.ensures comes is (w.result-is ∙ w.settled_so.ensures ∙ so)
      | in-Err-release w ↦
          let is = is_decided m id c.args.outcome c.decide.new.past c.release.new.past (c.decide.new.streams, c.decide.new.sessions) (c.release.new.streams, c.release.new.sessions) comes c.in_default.ensures.ok w.in-Err-release.ensures.err (λ i. (w.in-Err-release.ensures.err_streams i, w.in-Err-release.ensures.err_told i)) in
          settles_owed m n id c.match-release.result c.time-time.result w.result-is is (has_time _ c.pending.result.now c.time-time.result c.pending.ensures c.time-time.ensures)
    ])

pub returns-clause-grows : goal.returns-clause-grows
returns-clause-grows c = settles_grows c.args.self.now _ c.args.commit c.match-release.result c.stand.ensures.facts c.stand.ensures.grows (returns-clause-settles c)
