-- Only private clauses cite this: field paths in the order of their names, as a sort of references to them leaves them.
use Rattle.std.specs.Prelude.{List, map}
use Rattle.std.specs.Borrow.{Bor}
use Rattle.std.specs.List.Sorted.{IsSortedBy}
use Rattle.std.specs.Ordering.{is_lt}
use Rattle.std.specs.declared.cmp.Ordering.{Ordering}
use Rattle.fs_path.specs.TextOrder.{ids_cmp}
use Rattle.fs_path.specs.declared.field.FieldPath.{FieldPath}

abbrev pub by_parts : FieldPath → FieldPath → Ordering
by_parts p q = ids_cmp p.parts q.parts

-- the paths that these refer to
abbrev pub paths_at : List (Bor FieldPath) → List FieldPath
paths_at refs = map (λ r. r.now) refs

-- they stand in the order of these
abbrev pub AreInOrder : List (Bor FieldPath) → Type 0
AreInOrder refs = IsSortedBy (λ r s. is_lt (by_parts r.now s.now)) refs
