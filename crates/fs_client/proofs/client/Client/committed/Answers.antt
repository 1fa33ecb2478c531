use Rattle.std.proofs.Common.{Some, subst}
use Rattle.fs_local.proofs.Standing.{stands_committed, stands_counted}
use Rattle.fs_local.specs.Stands.{Stands}
use Rattle.fs_client.proofs.client.Client.committed.Goals as goal

pub invariant_of-self-2 : goal.invariant_of-self-2
invariant_of-self-2 c = subst Stands (cc) (stands_committed _ (stands_counted _ c.self.invariant) (Some c.in-Some.n) c.args.time)
