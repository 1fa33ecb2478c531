-- Only private clauses cite this: the least of a filter's paths that join the order behind a path.
use Rattle.std.specs.Prelude.{Bool, true, ◌&&◌, List, [], ◌∷◌, Option, Some, None, if◌then◌else◌}
use Rattle.std.specs.Ordering.{is_gt}
use Rattle.fs_path.specs.TextOrder.{ids_cmp}
use Rattle.fs_path.specs.declared.field.FieldPath.{FieldPath}
use Rattle.fs_query.specs.Normal.{joins}
use Rattle.fs_query.specs.declared.order.Order.{Order}

abbrev pub is_above : FieldPath → Option FieldPath → Bool
is_above p None = true
is_above p (Some q) = is_gt (ids_cmp p.parts q.parts)

abbrev pub lesser : Option FieldPath → FieldPath → Option FieldPath
lesser None p = Some p
lesser (Some q) p = if is_gt (ids_cmp q.parts p.parts) then Some p else Some q

abbrev pub nearer : List Order → Option FieldPath → Option FieldPath → FieldPath → Option FieldPath
nearer os after best p = if joins os p && is_above p after then lesser best p else best

abbrev pub least_of : List Order → Option FieldPath → Option FieldPath → List FieldPath → Option FieldPath
least_of os after best [] = best
least_of os after best (p ∷ ps) = least_of os after (nearer os after best p) ps
