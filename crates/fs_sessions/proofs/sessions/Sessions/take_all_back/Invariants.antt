use Rattle.std.proofs.Common.{◌≡◌, length}
use Rattle.fs_sessions.specs.Place.{all_taken_back}
use Rattle.fs_sessions.proofs.sessions.Sessions.take_all_back.Given as goal

-- those that are left are still to be taken back
abbrev pub invariant-loop-session : goal.invariant-loop-session
invariant-loop-session l = all_taken_back l.to.items l.self ≡ all_taken_back l.fn.to.items l.fn.self

abbrev pub decreases-loop-session : goal.decreases-loop-session
decreases-loop-session l = length l.to.items
