use Rattle.std.proofs.Common.{subst}
use Rattle.fs_local.proofs.Standing.{stands_after}
use Rattle.fs_local.specs.Runs.{loses}
use Rattle.fs_local.specs.Stands.{Stands}
use Rattle.fs_client.proofs.client.Client.lost.Goals as goal

pub invariant_of-self : goal.invariant_of-self
invariant_of-self c = subst Stands (cc) (stands_after loses _ tt c.self.invariant)
