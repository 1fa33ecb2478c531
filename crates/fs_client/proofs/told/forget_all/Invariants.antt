use Rattle.std.proofs.Common.{◌≡◌, drop}
use Rattle.fs_local.specs.Told.{all_forgotten}
use Rattle.fs_client.proofs.told.forget_all.Given as goal

abbrev pub invariant-loop-id : goal.invariant-loop-id
invariant-loop-id l = all_forgotten (drop l.id-index l.ids) l.cache ≡ all_forgotten l.ids l.fn.cache
