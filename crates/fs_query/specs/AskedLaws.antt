-- How the logic stores what a query asks: as the tuple of its parts.
use Rattle.std.specs.Prelude.{ℤ, List, Option, refl}
use Rattle.std.specs.Coded.{Coded, code_by, coded_ℤ, coded_list, coded_option, coded×}
use Rattle.fs_path.specs.contracts.field.FieldPath as path
use Rattle.fs_path.specs.contracts.scope.Scope as scope
use Rattle.fs_path.specs.declared.field.FieldPath.{FieldPath}
use Rattle.fs_path.specs.declared.scope.Scope.{Scope}
use Rattle.fs_query.specs.Asked.{Asked}
use Rattle.fs_query.specs.Condition.{Condition}
use Rattle.fs_query.specs.ConditionLaws.{condition_code}
use Rattle.fs_query.specs.contracts.cursor.Cursor as cursor
use Rattle.fs_query.specs.contracts.order.Order as order
use Rattle.fs_query.specs.declared.cursor.Cursor.{Cursor}
use Rattle.fs_query.specs.declared.order.Order.{Order}

-- what it goes over; where it begins and ends; how much it gives
abbrev pub Parts : Type 0
Parts = (Scope × (Condition × List Order)) × ((Option Cursor × Option Cursor) × (ℤ × (Option ℤ × Option (List FieldPath))))

abbrev pub parts_code : Coded Parts
parts_code =
    coded× (coded× scope.the_row.coded (coded× condition_code (coded_list order.the_row.coded)))
    (coded× (coded× (coded_option cursor.the_row.coded) (coded_option cursor.the_row.coded))
    (coded× coded_ℤ (coded× (coded_option coded_ℤ) (coded_option (coded_list path.the_row.coded)))))

abbrev pub asked_code : Coded Asked
asked_code =
    code_by Parts parts_code
    (λ q. ((q.scope, (q.filter, q.orders)), ((q.start, q.end), (q.offset, (q.limit, q.select)))))
    (λ p. record { scope = p.0.0; filter = p.0.1.0; orders = p.0.1.1; start = p.1.0.0; end = p.1.0.1; offset = p.1.1.0; limit = p.1.1.1.0; select = p.1.1.1.1 })
    (λ _. refl)
