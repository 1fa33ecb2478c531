-- Only private clauses cite this: the names on paths in order, among which those that begin with a key stand together.
use Rattle.std.specs.Prelude.{ℕ, Bool, true, List, [], ◌∷◌}
use Rattle.std.specs.Borrow.{Bor}
use Rattle.std.specs.List.Sorted.{IsSortedBy}
use Rattle.std.specs.Ordering.{is_lt}
use Rattle.fs_path.specs.TextOrder.{ids_cmp, text_cmp}

abbrev pub NamesInOrder : List (Bor (List (List ℕ))) → Type 0
NamesInOrder refs = IsSortedBy (λ r s. is_lt (ids_cmp r.now s.now)) refs

-- it stands in front of the paths that begin with a key
abbrev pub is_before : List ℕ → List (List ℕ) → Bool
is_before key [] = true
is_before key (k ∷ ks) = is_lt (text_cmp k key)
