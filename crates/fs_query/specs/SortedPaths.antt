-- Only private clauses cite this: paths that are referred to, some in order, among which each is searched for.
use Rattle.std.specs.Prelude.{Bool, ◌&&◌, not, List, map}
use Rattle.std.specs.List.{list_any}
use Rattle.fs_path.specs.TextOrder.{ids_eq}
use Rattle.fs_path.specs.Related.{neighbours_related}
use Rattle.fs_path.specs.declared.field.FieldPath.{FieldPath}
use Rattle.fs_query.specs.Field.{is_name}
use Rattle.fs_query.specs.declared.order.Order.{Order}

abbrev pub same_path : FieldPath → FieldPath → Bool
same_path p q = ids_eq p.parts q.parts

abbrev pub paths_of : List Order → List FieldPath
paths_of os = map (λ o. o.path) os

abbrev pub is_given : List FieldPath → FieldPath → Bool
is_given given p = list_any (λ g. same_path g p) given

-- a path joins an order by these
abbrev pub joins_given : List FieldPath → FieldPath → Bool
joins_given given p = not (is_name p) && not (is_given given p)

-- a path is the one before it
abbrev pub neighbours_same : List FieldPath → Bool
neighbours_same = neighbours_related (λ p q. same_path q p)
