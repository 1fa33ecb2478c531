use Rattle.std.proofs.Common.{refl, sym, subst}
use Rattle.std.specs.List.Sorted.{IsStrictlySortedBy}
use Rattle.std.specs.Map.{keys_of}
use Rattle.std.specs.Ordering.{nat_cmp}
use Rattle.std.proofs.lemmas.Cmp.{nat_cmp_total}
use Rattle.fs_value.proofs.Copied.{copied_more}
use Rattle.fs_client.proofs.targets.copy_causes.Goals as goal

pub loop-id-preserved : goal.loop-id-preserved
loop-id-preserved c =
    let begun = c.into_iter-id-iterator.ensures.into_iter_gives in
    copied_more nat_cmp_total c.loop-id.copy.entries c.loop-id.id-iterator c.next.new.self c.into_iter-id-iterator.result _ c.in-Some.id.now c.in-Some.id.now c.in-Some.cause.now c.in_ok-copy.field-0
    (subst (λ es. IsStrictlySortedBy nat_cmp (keys_of es)) (sym begun.0) begun.5) c.loop-id.invariant c.in-Some.ensures.steps refl c.in_ok-copy.ensures c.in_ok-insert.ensures.entries
