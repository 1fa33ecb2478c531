use Rattle.std.proofs.Common.{◌≡◌, rules, sym, subst}
use Rattle.std.specs.List.Sorted.{IsSortedByKey}
use Rattle.std.specs.Ordering.{is_lt}
use Rattle.std.proofs.lemmas.Fn.{always_returns_same}
use Rattle.std.proofs.lemmas.List.Sorted.{ranks_by}
use Rattle.fs_path.specs.NameOrder.{name_cmp, name_cmp_total}
use Rattle.fs_value.specs.declared.document.Document.{Document}
use Rattle.fs_store.proofs.listened.in_order.Goals as goal

pub returns-clause-rise : goal.returns-clause-rise
returns-clause-rise c =
    subst (IsSortedByKey (λ (d : Document). d.name) name_cmp) (sym c.of.ensures)
    (c.in_ok-sort_by.ensures.sorted (λ a b. is_lt (name_cmp a.name b.name)) (ranks_by name_cmp_total (λ (d : Document). d.name))
    (always_returns_same _ (λ a r. is_lt r ≡ is_lt (name_cmp a.0.now.name a.1.0.now.name)) _ (λ a r f' called. search rules)))
