use Rattle.std.proofs.Common.{◌≡◌, drop}
use Rattle.fs_listen.specs.Cuts.{least_before}
use Rattle.fs_sessions.proofs.LeastTold.{least_of_ears}
use Rattle.fs_sessions.proofs.listeners.Listeners.least_in.Given as goal

-- the least of all is that of those so far and of those that are left
abbrev pub invariant-loop-ear : goal.invariant-loop-ear
invariant-loop-ear l = least_of_ears l.shard l.ear-items ≡ least_before l.least (least_of_ears l.shard (drop l.ear-index l.ear-items))
