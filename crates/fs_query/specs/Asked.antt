-- What a query asks. (v1 reference, "StructuredQuery".)
use Rattle.std.specs.Prelude.{ℤ, List, Option}
use Rattle.fs_path.specs.declared.field.FieldPath.{FieldPath}
use Rattle.fs_path.specs.declared.scope.Scope.{Scope}
use Rattle.fs_query.specs.Condition.{Condition}
use Rattle.fs_query.specs.declared.cursor.Cursor.{Cursor}
use Rattle.fs_query.specs.declared.order.Order.{Order}

pub record Asked : Type 0 where
  pub scope : Scope
  pub filter : Condition
  pub orders : List Order
  pub start : Option Cursor
  pub end : Option Cursor
  pub offset : ℤ
  pub limit : Option ℤ
  pub select : Option (List FieldPath)
