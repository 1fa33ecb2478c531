-- Entries whose keys rise: those of an ordered tree do.
use Rattle.std.specs.Prelude.{◌≡◌, IsTrue, List, [], ◌∷◌, refl}
use Rattle.std.proofs.Common.{ap}
use Rattle.std.specs.Ordering.{is_lt}
use Rattle.std.specs.declared.cmp.Ordering.{Ordering}
use Rattle.std.specs.declared.cmp.Ordering.TheVariants.{Less}
use Rattle.std.specs.Cmp.Derive.{both_true}
use Rattle.std.specs.List.{AllByRecursion}
use Rattle.std.specs.List.Sorted.{IsStrictlySortedBy}
use Rattle.std.specs.Map.{keys_of}
use Rattle.std.specs.FinMap.{is_sorted}
use Rattle.std.specs.FinMap.Entries.{below_all}

module _ {K X : Type 0} (R : K → K → Ordering) where
  below_entries : (k : K) (es : List (K × X)) → AllByRecursion (λ l. R k l ≡ Less) (keys_of es) → IsTrue (below_all R k es)
  below_entries k [] h = refl
  below_entries k (e ∷ es) h = both_true (ap is_lt h.0) (below_entries k es h.1)

  pub rising_entries : (es : List (K × X)) → IsStrictlySortedBy R (keys_of es) → IsTrue (is_sorted R es)
  unfolding IsStrictlySortedBy
  rising_entries [] h = refl
  rising_entries (e ∷ es) h = both_true (below_entries e.0 es h.0) (rising_entries es h.1)
