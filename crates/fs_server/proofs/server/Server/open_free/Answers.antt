use Rattle.std.proofs.Common.{refl}
use Rattle.fs_request.specs.declared.stream_request.StreamRequest.TheVariants.{Open}
use Rattle.fs_machine.specs.State.{Machine}
use Rattle.fs_sessions.specs.Heard.{listeners_of}
use Rattle.fs_server.proofs.Writing.{streamed_kept, streamed_so}
use Rattle.fs_server.proofs.server.Server.open_free.Goals as goal

pub invariant_of-self : goal.invariant_of-self
invariant_of-self c =
    let s = c.self.inside in
    let m0 : Machine = record { config = s.config; limits = s.limits; past = s.past; txns = s.txns; sessions = s.sessions; listeners = listeners_of s.listeners; parked = s.waiting; streams = s.streams; numbers = s.numbers } in
    streamed_kept m0 c.args.self.now c.self.view_is c.args.session Open refl c.requires (c.open.new.self, c.own.new.self) (λ i. record m0 { streams = c.in-Ok.ensures.ok.1 i; sessions = c.own.ensures i })
    s.listeners refl c.self.invariant.configured c.self.invariant.allowed c.self.invariant.shards c.self.invariant.heard c.stand.ensures.facts

pub returns-in-Ok-clause-state : goal.returns-in-Ok-clause-state
returns-in-Ok-clause-state c =
    let s = c.self.inside in
    let m0 : Machine = record { config = s.config; limits = s.limits; past = s.past; txns = s.txns; sessions = s.sessions; listeners = listeners_of s.listeners; parked = s.waiting; streams = s.streams; numbers = s.numbers } in
    streamed_so m0 c.args.self.now c.self.view_is c.args.session Open refl c.requires (c.open.new.self, c.own.new.self) (λ i. record m0 { streams = c.in-Ok.ensures.ok.1 i; sessions = c.own.ensures i })
