use Rattle.std.proofs.Common.{◌≡◌, sym, ap, ◌∙◌, subst}
use Rattle.std.specs.FinMap.{from_entries}
use Rattle.std.specs.List.Sorted.{IsStrictlySortedBy}
use Rattle.std.specs.Map.{keys_of}
use Rattle.fs_path.specs.NameOrder.{name_cmp, name_cmp_total}
use Rattle.fs_value.specs.Named.{StandAtNames}
use Rattle.fs_value.proofs.Copied.{copied_more, all_copied}
use Rattle.fs_value.proofs.document_map.DocumentMap.copy.Goals as goal

pub loop-name-preserved : goal.loop-name-preserved
loop-name-preserved c =
    let begun = c.into_iter-name-iterator.ensures.into_iter_gives in
    copied_more name_cmp_total c.loop-name.documents.entries c.loop-name.name-iterator c.next.new.self c.into_iter-name-iterator.result _ c.in-Some.name.now c.in_ok-copy.field-0 c.in-Some.document.now c.in_ok-copy-2.field-0 (subst (λ es. IsStrictlySortedBy name_cmp (keys_of es)) (sym begun.0) begun.5) c.loop-name.invariant c.in-Some.ensures.steps c.in_ok-copy.ensures c.in_ok-copy-2.ensures c.in_ok-insert.ensures.entries

pub loop-name-preserved-in_ok-insert : goal.loop-name-preserved-in_ok-insert
loop-name-preserved-in_ok-insert c =
    let begun = c.into_iter-name-iterator.ensures.into_iter_gives in
    copied_more name_cmp_total c.loop-name.documents.entries c.loop-name.name-iterator c.next.new.self c.into_iter-name-iterator.result _ c.in-Some.name.now c.in_ok-copy.field-0 c.in-Some.document.now c.in_ok-copy-2.field-0 (subst (λ es. IsStrictlySortedBy name_cmp (keys_of es)) (sym begun.0) begun.5) c.loop-name.invariant c.in-Some.ensures.steps c.in_ok-copy.ensures c.in_ok-copy-2.ensures c.in_ok-insert.ensures.entries

pub invariant_of-result : goal.invariant_of-result
invariant_of-result c =
    let same : c.loop-name.documents.entries ≡ c.self.inside.documents.entries =
    all_copied _ c.loop-name.name-iterator c.into_iter-name-iterator.result c.loop-name.invariant c.in-None.ensures.steps.0 ∙ c.into_iter-name-iterator.ensures.into_iter_gives.0 in
    subst StandAtNames (sym same) c.self.invariant

pub returns : goal.returns
returns c =
    ap (from_entries {R = name_cmp}) (all_copied _ c.loop-name.name-iterator c.into_iter-name-iterator.result c.loop-name.invariant c.in-None.ensures.steps.0 ∙ c.into_iter-name-iterator.ensures.into_iter_gives.0) ∙ c.self.view_is
