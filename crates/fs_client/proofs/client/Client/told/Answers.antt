use Rattle.std.proofs.Common.{subst}
use Rattle.fs_query.specs.declared.listen.ListenMessage.TheVariants as message
use Rattle.fs_local.proofs.Standing.{stands_told}
use Rattle.fs_local.specs.Stands.{Stands}
use Rattle.fs_client.proofs.Trying.{tried_changed, tried_left, tried_left_at}
use Rattle.fs_client.proofs.client.Client.told.Goals as goal

pub invariant_of-self : goal.invariant_of-self
invariant_of-self c =
    let have = c.in_ok-targets-in-Changed.ensures in
    let lose = c.in_ok-left-in-Changed.ensures in
    tried_changed c.set.result _ c.in-Changed.document c.in-Changed.targets c.in-Changed.left c.as_slice.result.now c.as_slice-in-Changed.result.now _ c.self.invariant (cc have) (cc lose) c.set.ensures.ok c.set.ensures.err

pub invariant_of-self-in-Deleted : goal.invariant_of-self-in-Deleted
invariant_of-self-in-Deleted c =
    let lose = c.in_ok-left-in-Deleted.ensures in
    tried_left_at c.leave.result _ c.in-Deleted.name c.in-Deleted.time c.in-Deleted.left c.as_slice-in-Deleted.result.now _ c.self-in-Deleted.invariant (cc lose) c.leave.ensures.ok c.leave.ensures.err

pub invariant_of-self-in-Removed : goal.invariant_of-self-in-Removed
invariant_of-self-in-Removed c =
    let lose = c.in_ok-left-in-Removed.ensures in
    tried_left_at c.leave-in-Removed.result _ c.in-Removed.name c.in-Removed.time c.in-Removed.left c.as_slice-in-Removed.result.now _ c.self-in-Removed.invariant (cc lose) c.leave-in-Removed.ensures.ok c.leave-in-Removed.ensures.err

pub invariant_of-self-in-Reset : goal.invariant_of-self-in-Reset
invariant_of-self-in-Reset c =
    let are = c.in_ok-own-in-Reset.ensures in
    tried_left c.leave_all.result _ c.in-Reset.targets c.as_slice-in-Reset.result.now _ c.self-in-Reset.invariant (cc are) c.leave_all.ensures.ok c.leave_all.ensures.err

pub invariant_of-self-in-Current : goal.invariant_of-self-in-Current
invariant_of-self-in-Current c = subst Stands (cc) (stands_told _ c.self-in-Current.invariant (message.Current c.in-Current.targets c.in-Current.time c.in-Current.token))
