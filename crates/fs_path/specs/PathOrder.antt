-- Only private clauses cite this: the order of names, byte by byte. A slash comes before all other bytes, so that a
-- segment that ends comes before one that goes on.
use Rattle.std.specs.Prelude.{ℕ, ◌+◌, List, if◌then◌else◌, ◌==◌}
use Rattle.std.specs.Ordering.{nat_cmp}
use Rattle.std.specs.declared.cmp.Ordering.{Ordering}
use Rattle.std.specs.Cmp.Lexicographic.{slice_cmp}

-- a byte's place in the order
abbrev pub rank : ℕ → ℕ
rank b = if b == 47 then 0 else b + 1

abbrev pub byte_cmp : ℕ → ℕ → Ordering
byte_cmp a b = nat_cmp (rank a) (rank b)

abbrev pub path_cmp : List ℕ → List ℕ → Ordering
path_cmp = slice_cmp byte_cmp
