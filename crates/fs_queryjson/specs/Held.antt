-- What only private clauses cite: that the parts of a query, as they are written, are read back.
use Rattle.std.specs.Prelude.{◌≡◌, ℕ, ℤ, List, Option, Some, None, Ok}
use Rattle.std.specs.List.{AllByRecursion}
use Rattle.fs_path.specs.declared.field.FieldPath.{FieldPath}
use Rattle.fs_json.specs.Integer.{small_json, small_of}
use Rattle.fs_value.specs.Data.{Data, items_of}
use Rattle.fs_query.specs.Asked.{Asked}
use Rattle.fs_query.specs.Condition.{Condition, anything, compared, is_null, is_not_null, all_of, any_of, Conditions, no_more, one_more}
use Rattle.fs_query.specs.declared.cursor.Cursor.{Cursor}
use Rattle.fs_query.specs.declared.order.Order.{Order}
use Rattle.fs_valjson.specs.Reading.{list_at, value_at}
use Rattle.fs_valjson.specs.Writing.{HasNames, ItemsHaveNames, list_json, value_json}
use Rattle.fs_json.specs.Paths.{IsPathHeld}

-- an operand's value
abbrev pub IsOperandHeld : Data → Type 0
IsOperandHeld v = (place : List ℕ) → HasNames v → value_at (value_json v) place ≡ Ok v

abbrev mutual
  pub IsHeld : Condition → Type 0
  IsHeld anything = Unit {0}
  IsHeld (compared p op v) = IsPathHeld p × IsOperandHeld v
  IsHeld (is_null p) = IsPathHeld p
  IsHeld (is_not_null p) = IsPathHeld p
  IsHeld (all_of cs) = AreHeld cs
  IsHeld (any_of cs) = AreHeld cs

  pub AreHeld : Conditions → Type 0
  AreHeld no_more = Unit {0}
  AreHeld (one_more c cs) = IsHeld c × AreHeld cs

abbrev pub IsOrderHeld : Order → Type 0
IsOrderHeld o = IsPathHeld o.path

abbrev pub IsSelectHeld : Option (List FieldPath) → Type 0
IsSelectHeld None = Unit {0}
IsSelectHeld (Some ps) = AllByRecursion IsPathHeld ps

-- a list of values
abbrev pub AreValuesHeld : List Data → Type 0
AreValuesHeld ds = (place : List ℕ) → ItemsHaveNames (items_of ds) → list_at (list_json ds) place ≡ Ok ds

abbrev pub IsCursorHeld : Option Cursor → Type 0
IsCursorHeld None = Unit {0}
IsCursorHeld (Some c) = AreValuesHeld c.values

abbrev pub IsSmallHeld : ℤ → Type 0
IsSmallHeld n = small_of (small_json n) ≡ Some n

abbrev pub IsLimitHeld : Option ℤ → Type 0
IsLimitHeld None = Unit {0}
IsLimitHeld (Some n) = IsSmallHeld n

-- the parts of a query whose names come last, and those whose names come first
pub record AreLastHeld (q : Asked) : Type 0 where
  pub filter : IsHeld q.filter
  pub start : IsCursorHeld q.start
  pub select : IsSelectHeld q.select
  pub orders : AllByRecursion IsOrderHeld q.orders

pub record AreFirstHeld (q : Asked) : Type 0 where
  pub offset : IsSmallHeld q.offset
  pub limit : IsLimitHeld q.limit
  pub end : IsCursorHeld q.end
