use Rattle.std.proofs.Common.{◌≡◌, take}
use Rattle.fs_local.specs.Told.{own}
use Rattle.fs_client.proofs.targets.Targets.own.Given as goal

abbrev pub invariant-loop-id : goal.invariant-loop-id
invariant-loop-id l = l.own ≡ own l.self (take l.id-index l.id-items)
