use Rattle.std.proofs.Common.{◌≡◌, drop}
use Rattle.fs_client.specs.Listed.{without_all}
use Rattle.fs_client.proofs.targets.Targets.drop_all.Given as goal

-- those that are left take out of what is there what all take out of what was there, and the rest stays
abbrev pub invariant-loop-id : goal.invariant-loop-id
invariant-loop-id l = record l.self { listened = without_all (drop l.id-index l.ids) l.self.listened } ≡ record l.initial.self { listened = without_all l.ids l.initial.self.listened }
