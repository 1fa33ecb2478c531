-- Only private clauses cite this: how many array operators meet in one of some conjunctions, where 2 stands for more.
use Rattle.std.specs.Prelude.{ℕ, ◌+◌, min, max, List, [], ◌∷◌, Option, Some, None, if◌then◌else◌, nat_lt, ◌==◌}
use Rattle.fs_query.specs.Condition.{Condition}
use Rattle.fs_query.specs.FilterRules.{contains_count, contains_any_count}
use Rattle.fs_query.specs.declared.peaks.Peaks.{Peaks}

abbrev pub beside_any : List Condition → ℕ
beside_any cs = if nat_lt 0 (contains_any_count cs) then contains_any_count cs + contains_count cs else 0

-- the greatest numbers among conjunctions, or 0
abbrev pub most_contains : List (List Condition) → ℕ
most_contains [] = 0
most_contains (cs ∷ css) = max (contains_count cs) (most_contains css)

abbrev pub most_beside_any : List (List Condition) → ℕ
most_beside_any [] = 0
most_beside_any (cs ∷ css) = max (beside_any cs) (most_beside_any css)

abbrev pub peaks_in : List (List Condition) → Option Peaks
peaks_in [] = None
peaks_in (cs ∷ css) = Some (record { contains = min (most_contains (cs ∷ css)) 2; beside_any = min (most_beside_any (cs ∷ css)) 2 })

-- the most in a conjunction of the first with one of the second, where the first has an ARRAY_CONTAINS_ANY
abbrev pub peak_beside : Peaks → Peaks → ℕ
peak_beside x y = if x.beside_any == 0 then 0 else min (x.beside_any + max y.contains y.beside_any) 2

-- those of each conjunction of the one with each of the other
abbrev pub both_peaks : Option Peaks → Option Peaks → Option Peaks
both_peaks (Some x) (Some y) = Some (record { contains = min (x.contains + y.contains) 2; beside_any = max (peak_beside x y) (peak_beside y x) })
both_peaks a b = None

-- those of the conjunctions of both
abbrev pub either_peaks : Option Peaks → Option Peaks → Option Peaks
either_peaks (Some x) (Some y) = Some (record { contains = max x.contains y.contains; beside_any = max x.beside_any y.beside_any })
either_peaks (Some x) None = Some x
either_peaks None b = b
