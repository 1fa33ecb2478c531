use Rattle.std.proofs.Common.{rules}
use Rattle.std.proofs.lemmas.List.Sorted.{IsPartitionPoint-from_clause}
use Rattle.fs_target.proofs.InOrder.{comes_behind, partitioned, put_at}
use Rattle.fs_target.proofs.staged.place_of.Goals as goal

pub returns-clause-place : goal.returns-clause-place
returns-clause-place c =
    let staged = c.args.staged.now in
    let event = c.args.event.now in
    let place = c.partition_point.result in
    put_at event staged place c.partition_point.ensures.bound
    (IsPartitionPoint-from_clause (comes_behind event) staged place c.partition_point.ensures.partitioned (partitioned event staged c.requires) (λ a r f' called. search rules))
