use Rattle.std.proofs.Common.{take}
use Rattle.std.specs.Prelude.{IsTrue}
use Rattle.std.specs.List.{list_any}
use Rattle.fs_locks.specs.Holds.{IsLeastOther}
use Rattle.fs_locks.specs.Shares.{is_shared}
use Rattle.fs_locks.proofs.shared.Shared.conflict.Given as goal

-- the least other id of those with a hold that one of the names so far touches
abbrev pub invariant-loop-name : goal.invariant-loop-name
invariant-loop-name l = IsLeastOther (λ i. IsTrue (list_any (is_shared l.self i) (take l.name-index l.names))) l.by l.first
