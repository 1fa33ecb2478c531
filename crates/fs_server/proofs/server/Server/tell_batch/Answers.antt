use Rattle.std.proofs.Common.{refl}
use Rattle.fs_machine.specs.State.{Machine}
use Rattle.fs_sessions.specs.Heard.{listeners_of}
use Rattle.fs_server.proofs.Writing.{known_kept}
use Rattle.fs_server.proofs.server.Server.tell_batch.Goals as goal

pub invariant_of-self : goal.invariant_of-self
invariant_of-self c =
    let s = c.self.inside in
    let m0 : Machine = record { config = s.config; limits = s.limits; past = s.past; txns = s.txns; sessions = s.sessions; listeners = listeners_of s.listeners; parked = s.waiting; streams = s.streams; numbers = s.numbers } in
    known_kept m0 c.args.self.now c.self.view_is c.args.session c.args.take.now c.requires s.listeners refl c.self.invariant.configured c.self.invariant.allowed c.self.invariant.shards c.self.invariant.heard c.stand.ensures.facts
