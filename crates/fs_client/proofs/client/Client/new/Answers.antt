use Rattle.std.proofs.Common.{subst}
use Rattle.fs_local.proofs.Standing.{begins}
use Rattle.fs_local.specs.Stands.{Stands}
use Rattle.fs_client.proofs.client.Client.new.Goals as goal

pub invariant_of-result : goal.invariant_of-result
invariant_of-result c = subst Stands (cc) (begins c.args.root c.args.targets c.args.queue)
