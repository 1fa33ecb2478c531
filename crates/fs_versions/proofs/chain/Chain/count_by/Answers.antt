use Rattle.std.proofs.Common.{rules, sym, ap, subst, ◌∙◌}
use Rattle.std.specs.Prelude.{int_le}
use Rattle.std.specs.List.Sorted.{IsPartitionedBy}
use Rattle.std.proofs.lemmas.List.Sorted.{IsPartitionPoint-from_clause}
use Rattle.fs_history.specs.declared.version.Version.{Version}
use Rattle.fs_versions.specs.Chained.{Chained}
use Rattle.fs_versions.proofs.Times.{partitioned, split_of}
use Rattle.fs_versions.proofs.chain.Chain.count_by.Goals as goal

pub returns : goal.returns
returns c =
    let slice = c.as_slice.result.now in
    let passes = λ (v : Version). int_le v.time c.args.time in
    let in_front : IsPartitionedBy passes slice = subst (IsPartitionedBy passes) (sym c.as_slice.ensures.value) (partitioned c.self.inside.versions.items c.args.time c.self.invariant) in
    split_of c.args.self.now.versions slice c.args.time c.partition_point.result (c.as_slice.ensures.value ∙ ap (λ (x : Chained). x.versions) c.self.view_is) c.partition_point.ensures.bound
    (IsPartitionPoint-from_clause passes slice c.partition_point.result c.partition_point.ensures.partitioned in_front (λ a r f' called. search rules))
