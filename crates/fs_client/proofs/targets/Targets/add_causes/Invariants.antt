use Rattle.std.proofs.Common.{◌≡◌, ℕ, drop}
use Rattle.fs_client.specs.Listed.{caused}
use Rattle.fs_client.proofs.targets.Targets.add_causes.Given as goal

-- those that are left make of the causes that are there what all make of those of before
abbrev pub invariant-loop-id : goal.invariant-loop-id
invariant-loop-id l = (q : ℕ) → caused l.self.listened (drop l.id-index l.ids) l.cause l.causes.entries q ≡ caused l.self.listened l.ids l.cause l.initial.causes.entries q
