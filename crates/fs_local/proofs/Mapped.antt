-- Maps of which each value is changed, looked up.
use Rattle.std.proofs.Common.{◌≡◌, Bool, true, false, cond, List, [], ◌∷◌, map, Some, refl, sym, ap, ◌∙◌}
use Rattle.std.specs.Cmp.{IsTotalOrder}
use Rattle.std.specs.FinMap.{FinMap, entries, find, from_entries, get, get-entries, get-from_entries}
use Rattle.std.specs.Option.{option_map}
use Rattle.std.specs.Ordering.{eq_by_cmp}
use Rattle.std.specs.declared.cmp.Ordering.{Ordering}

module _ {K X Y : Type 0} (R : K → K → Ordering) (f : X → Y) where
  find_mapped : (q : K) (es : List (K × X)) → find R q (map (λ e. (e.0, f e.1)) es) ≡ option_map f (find R q es)
  find_mapped q [] = refl
  find_mapped q (e ∷ es) = by_test (find_mapped q es) (eq_by_cmp R q e.0) where
    by_test : find R q (map (λ e. (e.0, f e.1)) es) ≡ option_map f (find R q es) → (same : Bool) → cond same (Some (f e.1)) (find R q (map (λ e. (e.0, f e.1)) es)) ≡ option_map f (cond same (Some e.1) (find R q es))
    by_test rest true = refl
    by_test rest false = rest

  pub get_mapped : IsTotalOrder R → (m : FinMap R X) (q : K) → get (from_entries {R = R} (map (λ e. (e.0, f e.1)) (entries m))) q ≡ option_map f (get m q)
  get_mapped total m q = get-from_entries total (map (λ e. (e.0, f e.1)) (entries m)) q ∙ find_mapped q (entries m) ∙ ap (option_map f) (sym (get-entries m q))
