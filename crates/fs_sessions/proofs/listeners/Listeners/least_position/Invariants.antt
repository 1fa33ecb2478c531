use Rattle.std.proofs.Common.{◌≡◌, drop, map}
use Rattle.fs_listen.specs.Cuts.{least, least_before, least_position}
use Rattle.fs_machine.specs.Listeners.{Listener}
use Rattle.fs_sessions.specs.Heard.{heard_of, listeners_of}
use Rattle.fs_sessions.proofs.listeners.Listeners.least_position.Given as goal

-- the least of all is that of those so far and of those that are left
abbrev pub invariant-loop-ear : goal.invariant-loop-ear
invariant-loop-ear l =
    least (map (λ (h : Listener). least_position h.listening) (listeners_of (map heard_of l.ear-items)))
    ≡ least_before l.least (least (map (λ (h : Listener). least_position h.listening) (listeners_of (map heard_of (drop l.ear-index l.ear-items)))))
