use Rattle.std.proofs.Common.{refl, ◌∙◌}
use Rattle.fs_request.specs.declared.stream_request.StreamRequest.TheVariants.{Resume}
use Rattle.fs_machine.specs.State.{Machine}
use Rattle.fs_sessions.specs.Heard.{listeners_of}
use Rattle.fs_server.proofs.Writing.{streamed_kept, streamed_so}
use Rattle.fs_server.proofs.server.Server.hand.Goals as goal
use Rattle.fs_server.proofs.server.Server.hand.Goals.{in-Ok, in-Err}

pub invariant_of-self : goal.invariant_of-self
invariant_of-self c =
    let s = c.self.inside in
    let m0 : Machine = record { config = s.config; limits = s.limits; past = s.past; txns = s.txns; sessions = s.sessions; listeners = listeners_of s.listeners; parked = s.waiting; streams = s.streams; numbers = s.numbers } in
    streamed_kept m0 c.args.self.now c.self.view_is c.args.session (Resume c.args.stream c.args.token) refl c.requires (c.resume.new.self, c.own.new.self) (λ i. record m0 { streams = c.in-Ok.ensures.ok.1 i; sessions = c.own.ensures i })
    s.listeners refl c.self.invariant.configured c.self.invariant.allowed c.self.invariant.shards c.self.invariant.heard c.stand.ensures.facts

pub returns-clause-state : goal.returns-clause-state
returns-clause-state c =
    let s = c.self.inside in
    let m0 : Machine = record { config = s.config; limits = s.limits; past = s.past; txns = s.txns; sessions = s.sessions; listeners = listeners_of s.listeners; parked = s.waiting; streams = s.streams; numbers = s.numbers } in
    elim c.match-resume.branch [
      | in-Ok w ↦
          rw w.result-is
          (w.self-is ∙ streamed_so m0 c.args.self.now c.self.view_is c.args.session (Resume c.args.stream c.args.token) refl c.requires (c.resume.new.self, w.own.new.self) (λ i. record m0 { streams = w.in-Ok.ensures.ok.1 i; sessions = w.own.ensures i }))
      | in-Err w ↦ rw w.result-is tt
    ]
