-- Only `impl Ord for Value` and its like cite this: the laws of the order of values, at `Value`.
use Rattle.std.specs.Prelude.{Some, refl}
use Rattle.std.specs.Ordering.{eq_by_cmp, on}
use Rattle.std.specs.Cmp.{IsTotalOrder, IsEquivalence, IsPartialEquivalence, IsPartialOrder, partial_order_from_agreeing_total, partial_equiv_from_equiv}
use Rattle.std.proofs.lemmas.Cmp.{on_total, eq_by_cmp_equiv}
use Rattle.fs_value.specs.ValueOrder.{value_cmp}
use Rattle.fs_value.specs.ValueOrderLaws.{value_cmp_total}
use Rattle.fs_value.specs.View.{view}

pub view_cmp_total : IsTotalOrder (on view value_cmp)
view_cmp_total = on_total view value_cmp_total

pub view_eq_equiv : IsEquivalence (eq_by_cmp (on view value_cmp))
view_eq_equiv = eq_by_cmp_equiv view_cmp_total

pub view_eq_partial : IsPartialEquivalence (eq_by_cmp (on view value_cmp))
view_eq_partial = partial_equiv_from_equiv view_eq_equiv

pub view_po : IsPartialOrder (eq_by_cmp (on view value_cmp)) (λ a b. Some (value_cmp (view a) (view b)))
view_po = partial_order_from_agreeing_total (on view value_cmp) view_cmp_total (λ _ _. refl) (λ _ _. refl)
