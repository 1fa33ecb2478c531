use Rattle.std.proofs.Common.{rules, sym, ap, subst, ◌∙◌}
use Rattle.std.specs.Prelude.{int_le}
use Rattle.std.specs.List.Sorted.{IsPartitionedBy}
use Rattle.std.proofs.lemmas.List.Sorted.{IsPartitionPoint-from_clause}
use Rattle.fs_store.specs.Logged.{Logged}
use Rattle.fs_store.specs.declared.noted.Noted.{Noted}
use Rattle.fs_store.proofs.Ordered.{after_is, partitioned, split_of}
use Rattle.fs_store.proofs.log.Log.count_by.Goals as goal

pub returns-clause-split : goal.returns-clause-split
returns-clause-split c =
    let slice = c.as_slice.result.now in
    let passes = λ (n : Noted). int_le n.time c.args.time in
    let in_front : IsPartitionedBy passes slice = subst (IsPartitionedBy passes) (sym c.as_slice.ensures.value) (partitioned c.self.inside.entries.items c.args.time c.self.invariant) in
    split_of c.args.self.now.entries slice c.args.time c.partition_point.result (c.as_slice.ensures.value ∙ ap (λ (x : Logged). x.entries) c.self.view_is) c.partition_point.ensures.bound
    (IsPartitionPoint-from_clause passes slice c.partition_point.result c.partition_point.ensures.partitioned in_front (λ a r f' called. search rules))

pub returns-clause-others : goal.returns-clause-others
returns-clause-others c = after_is c.args.self.now.entries c.args.time c.partition_point.result (returns-clause-split c)
