use Rattle.std.proofs.Common.{Some, subst}
use Rattle.fs_local.proofs.Standing.{stands_removed}
use Rattle.fs_local.specs.Stands.{Stands}
use Rattle.fs_client.proofs.Trying.{tried_left}
use Rattle.fs_client.proofs.client.Client.told_removed.Goals as goal

pub invariant_of-self : goal.invariant_of-self
invariant_of-self c =
    let are = c.in_ok-own.ensures in
    tried_left c.leave_all.result _ c.args.targets.now c.as_slice.result.now _ c.self.invariant (cc are) c.leave_all.ensures.ok c.leave_all.ensures.err

pub invariant_of-self-2 : goal.invariant_of-self-2
invariant_of-self-2 c =
    let are = c.in_ok-own.ensures in
    let refused = c.in_ok-refuse.ensures.ok in
    subst Stands (cc (are, refused)) (stands_removed _ c.self.invariant c.args.targets.now (Some c.in-Some.cause))
