use Rattle.fs_locks.proofs.Ids.{RestOf}
use Rattle.fs_locks.proofs.holders.Holders.first_other.Given as goal

-- what was passed is the one id
abbrev pub invariant-loop-id : goal.invariant-loop-id
invariant-loop-id l = RestOf l.self l.id-iterator l.by
