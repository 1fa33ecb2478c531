use Rattle.std.proofs.Common.{rules, ◌≡◌, false, None, [], ◌∷◌, ◌++◌, length, refl, ap, ◌∙◌}
use Rattle.std.specs.Prelude.{nat_le}
use Rattle.fs_machine.specs.State.{Machine}
use Rattle.fs_server.specs.Changes.{asking}
use Rattle.fs_sessions.specs.Heard.{listeners_of}
use Rattle.fs_server.proofs.Asking.{waits_kept}
use Rattle.fs_server.proofs.server.Server.park.Goals as goal

pub invariant_of-self-2 : goal.invariant_of-self-2
invariant_of-self-2 c =
    let s = c.self.inside in
    let m = c.args.self.now in
    let m0 : Machine = record { config = s.config; limits = s.limits; past = s.past; txns = s.txns; sessions = s.sessions; listeners = listeners_of s.listeners; parked = s.waiting; streams = s.streams; numbers = s.numbers } in
    let room : nat_le m.limits.parked (length m.parked) ≡ false = search rules in
    let more = c.in_ok-push.ensures.ok ∙ ap (λ e. s.waiting ++ asking c.args.session c.number_of.result None e ∷ []) c.in_ok-copy.ensures in
    waits_kept m0 m c.self.view_is c.args.session c.args.envelope.now c.requires.limits c.requires.check c.number_of.result c.ids_after-self-inside-2.result c.number_of.ensures
    c.ids_after-self-inside-2.ensures c.requires.plain c.args.holder c.requires.held room c.push.new.self more s.listeners refl c.self.invariant.configured c.self.invariant.allowed c.self.invariant.shards c.self.invariant.heard c.stand.ensures.facts
