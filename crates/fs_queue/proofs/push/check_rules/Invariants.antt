use Rattle.std.proofs.Common.{◌≡◌, drop}
use Rattle.fs_queue.specs.Refusal.{broken_from}
use Rattle.fs_queue.proofs.push.check_rules.Given as goal

-- none so far breaks a rule, so the rest decides
abbrev pub invariant-loop-write : goal.invariant-loop-write
invariant-loop-write l = record {
  counted : l.number ≡ l.write-index;
  rest : broken_from l.number (drop l.write-index l.writes) ≡ broken_from 0 l.writes;
}
