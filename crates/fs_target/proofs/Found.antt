-- Entries in the order of their keys, each found at its key.
use Rattle.std.proofs.Common.{◌≡◌, cond, List, [], ◌∷◌, Some, ap, ◌∙◌}
use Rattle.std.specs.Prelude.{IsTrue}
use Rattle.std.specs.Cmp.{IsTotalOrder, first_so, second_so}
use Rattle.std.specs.FinMap.{find, is_sorted}
use Rattle.std.specs.FinMap.Entries.{below_all}
use Rattle.std.specs.List.{AllByRecursion}
use Rattle.std.specs.Ordering.{is_eq, ordering_reverse}
use Rattle.std.specs.declared.cmp.Ordering.{Ordering}
use Rattle.std.specs.declared.cmp.Ordering.TheVariants.{Less}
use Rattle.std.proofs.lemmas.Cmp.{tied_itself}
use Rattle.fs_path.proofs.Orders.{less_is}
use Rattle.fs_target.proofs.Each.{each_both, each_weaker}

module _ {K X : Type 0} {R : K → K → Ordering} (o : IsTotalOrder R) where
  pub below_each : (k : K) (es : List (K × X)) → IsTrue (below_all R k es) → AllByRecursion (λ (e : K × X). R k e.0 ≡ Less) es
  below_each k [] below = tt
  below_each k (e ∷ es) below = (less_is (R k e.0) (first_so _ _ below), below_each k es (second_so _ _ below))

  behind_first : (e f : K × X) (es : List (K × X)) → R e.0 f.0 ≡ Less → find R f.0 es ≡ Some f.1 → find R f.0 (e ∷ es) ≡ Some f.1
  behind_first e f es less found = ap (λ r. cond (is_eq r) (Some e.1) (find R f.0 es)) (o.antisymm f.0 e.0 ∙ ap ordering_reverse less) ∙ found

  pub all_found : (es : List (K × X)) → IsTrue (is_sorted R es) → AllByRecursion (λ (e : K × X). find R e.0 es ≡ Some e.1) es
  all_found [] rise = tt
  all_found (e ∷ es) rise = (
    ap (λ r. cond (is_eq r) (Some e.1) (find R e.0 es)) (tied_itself o e.0),
    each_weaker (λ (f : K × X). (R e.0 f.0 ≡ Less) × (find R f.0 es ≡ Some f.1)) (λ (f : K × X). find R f.0 (e ∷ es) ≡ Some f.1) (λ f both. behind_first e f es both.0 both.1) es
        (each_both (λ (f : K × X). R e.0 f.0 ≡ Less) (λ (f : K × X). find R f.0 es ≡ Some f.1) es (below_each e.0 es (first_so _ _ rise)) (all_found es (second_so _ _ rise))),
  )

  -- so what holds of each key with its value holds of all entries
  pub all_of_found : (P : K × X → Type 0) (es : List (K × X)) → IsTrue (is_sorted R es) → ((k : K) (x : X) → find R k es ≡ Some x → P (k, x)) → AllByRecursion P es
  all_of_found P es rise each = each_weaker (λ (e : K × X). find R e.0 es ≡ Some e.1) P (λ e found. each e.0 e.1 found) es (all_found es rise)
