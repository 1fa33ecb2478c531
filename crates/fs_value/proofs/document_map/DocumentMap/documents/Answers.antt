use Rattle.std.proofs.Common.{sym, ap, ◌∙◌, map, subst}
use Rattle.std.specs.Prelude.{IsTrue}
use Rattle.std.specs.FinMap.{values, is_sorted, from_sorted}
use Rattle.fs_path.specs.NameOrder.{name_cmp, name_cmp_total}
use Rattle.fs_value.specs.Named.{by_name}
use Rattle.fs_value.proofs.Copied.{all_copied}
use Rattle.fs_value.proofs.Named.{by_own_names, one_map}
use Rattle.fs_value.proofs.Rising.{rising_entries}
use Rattle.fs_value.proofs.Tree.{values_tree}
use Rattle.fs_value.proofs.document_map.DocumentMap.documents.Goals as goal

pub returns-clause-value : goal.returns-clause-value
returns-clause-value c =
    let begun = c.into_iter-document-iterator.ensures.into_iter_gives in
    c.of.ensures
    ∙ all_copied _ (map (λ e. e.1) c.loop-document.document-iterator) (map (λ e. e.1) c.into_iter-document-iterator.result) c.loop-document.invariant (ap (map (λ e. e.1)) c.in-None.ensures.steps.0)
    ∙ ap (map (λ e. e.1)) begun.0
    ∙ values_tree name_cmp_total c.self.inside.documents.entries begun.5
    ∙ ap values c.self.view_is

pub returns-clause-rise : goal.returns-clause-rise
returns-clause-rise c =
    let entries = c.self.inside.documents.entries in
    let begun = c.into_iter-document-iterator.ensures.into_iter_gives in
    let made = values_tree name_cmp_total entries begun.5 ∙ ap values c.self.view_is ∙ sym (returns-clause-value c) in
    subst (λ ds. IsTrue (is_sorted name_cmp (by_name ds))) made
    (subst (λ es. IsTrue (is_sorted name_cmp es)) (sym (by_own_names entries c.self.invariant)) (rising_entries name_cmp entries begun.5))

pub returns-clause-same : goal.returns-clause-same
returns-clause-same c =
    let entries = c.self.inside.documents.entries in
    let begun = c.into_iter-document-iterator.ensures.into_iter_gives in
    let made = values_tree name_cmp_total entries begun.5 ∙ ap values c.self.view_is ∙ sym (returns-clause-value c) in
    ap (λ ds. from_sorted {R = name_cmp} (by_name ds)) (sym made)
    ∙ ap (from_sorted {R = name_cmp}) (by_own_names entries c.self.invariant)
    ∙ one_map entries (rising_entries name_cmp entries begun.5)
    ∙ c.self.view_is
