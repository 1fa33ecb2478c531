-- Maps that are gone over, entry by entry.
use Rattle.std.proofs.Common.{◌≡◌, ℕ, Bool, List, map, ap}
use Rattle.std.specs.FinMap.{from_entries, values}
use Rattle.std.specs.List.{list_all}
use Rattle.std.specs.List.Sorted.{IsStrictlySortedBy}
use Rattle.std.specs.Map.{keys_of}
use Rattle.std.specs.Ordering.{nat_cmp}
use Rattle.std.proofs.lemmas.Cmp.{nat_cmp_total}
use Rattle.fs_value.proofs.Tree.{values_tree}
use Rattle.fs_local.specs.declared.listened.Listened.{Listened}

abbrev pub all_in : List (ℕ × Listened) → Bool
all_in es = list_all (λ (l : Listened). l.current) (map (λ (e : ℕ × Listened). e.1) es)

pub all_of_tree : (es : List (ℕ × Listened)) → IsStrictlySortedBy nat_cmp (keys_of es) → all_in es ≡ list_all (λ (l : Listened). l.current) (values (from_entries {R = nat_cmp} es))
all_of_tree es rise = ap (list_all (λ (l : Listened). l.current)) (values_tree nat_cmp_total es rise)
