use Rattle.std.proofs.Common.{◌≡◌, drop}
use Rattle.fs_local.specs.Told.{with_current}
use Rattle.fs_client.proofs.targets.Targets.set_current.Given as goal

-- what is left makes of what is there what all make of what was there
abbrev pub invariant-loop-id : goal.invariant-loop-id
invariant-loop-id l = with_current (drop l.id-index l.ids) l.self ≡ with_current l.ids l.initial.self
