use Rattle.std.proofs.Common.{◌≡◌, map}
use Rattle.fs_sessions.specs.Place.{all_delivered}
use Rattle.fs_sessions.proofs.sessions.Sessions.deliver_all.Given as goal

-- the replies so far are delivered, and noted
abbrev pub invariant-loop-reply : goal.invariant-loop-reply
invariant-loop-reply l = record {
  delivered : l.self ≡ all_delivered l.yielded l.fn.self;
  noted : l.to.items ≡ map (λ r. r.session) l.yielded;
}
