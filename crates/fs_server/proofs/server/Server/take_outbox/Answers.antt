use Rattle.std.proofs.Common.{[], sym, subst}
use Rattle.fs_machine.specs.ListenersHold.{ListenersHold}
use Rattle.fs_machine.specs.Sessions.{emptied}
use Rattle.fs_machine.specs.SessionsNumbered.{SessionsNumbered}
use Rattle.fs_machine.proofs.ListenersHold.{listeners_told}
use Rattle.fs_machine.proofs.SessionsNumbered.{same_numbers, sessions_changed}
use Rattle.fs_sessions.specs.Heard.{listeners_of}
use Rattle.fs_server.proofs.server.Server.take_outbox.Goals as goal

pub invariant_of-self : goal.invariant_of-self
invariant_of-self c =
    let s = c.self.inside in
    record {
      configured = c.self.invariant.configured;
      allowed = c.self.invariant.allowed;
      drawn = c.self.invariant.drawn;
      held = c.self.invariant.held;
      numbered = subst (λ ss. SessionsNumbered ss s.numbers.sessions) (sym c.take.ensures.list) (sessions_changed s.sessions c.args.session s.numbers.sessions (λ ms. []) c.self.invariant.numbered);
      listened =
          subst (λ ss. ListenersHold s.past ss (listeners_of s.listeners) s.numbers.targets) (sym c.take.ensures.list)
          (listeners_told s.past s.sessions (emptied c.args.session s.sessions) (listeners_of s.listeners) s.numbers.targets (same_numbers s.sessions c.args.session (λ ms. [])) c.self.invariant.listened);
      waiting = c.self.invariant.waiting;
      streaming = c.self.invariant.streaming;
      shards = c.self.invariant.shards;
      heard = c.self.invariant.heard;
    }
