use Rattle.std.proofs.Common.{◌≡◌, drop}
use Rattle.fs_queue.specs.Queue.{phase_in}
use Rattle.fs_queue.proofs.queue.phase_in.Given as goal

-- none so far has the number, so the rest decides
abbrev pub invariant-loop-a : goal.invariant-loop-a
invariant-loop-a l = phase_in (drop l.a-index l.acknowledged) l.n ≡ phase_in l.acknowledged l.n
