-- The queries that are read back from what is written of them.
use Rattle.std.specs.Prelude.{◌≡◌, ℕ, pos, List, [], ◌∷◌, Option, Some, None}
use Rattle.fs_path.specs.declared.field.FieldPath.{FieldPath}
use Rattle.fs_value.specs.Data.{items_of}
use Rattle.fs_query.specs.Asked.{Asked}
use Rattle.fs_query.specs.Condition.{Condition, anything, compared, is_null, is_not_null, all_of, any_of, Conditions, no_more, one_more}
use Rattle.fs_query.specs.Rules.{rule_of_query}
use Rattle.fs_query.specs.declared.cursor.Cursor.{Cursor}
use Rattle.fs_valjson.specs.Writing.{HasNames, ItemsHaveNames}
use Rattle.fs_path.specs.Scope.{scope_parent}

-- a filter that asks something in each of its parts, and whose references are names of documents
abbrev mutual
  pub IsFilter : Condition → Type 0
  IsFilter anything = ⊥
  IsFilter (compared p op v) = HasNames v
  IsFilter (is_null p) = Unit {0}
  IsFilter (is_not_null p) = Unit {0}
  IsFilter (all_of cs) = AreFilters cs
  IsFilter (any_of cs) = AreFilters cs

  pub AreFilters : Conditions → Type 0
  AreFilters no_more = Unit {0}
  AreFilters (one_more c cs) = IsFilter c × AreFilters cs

-- what fits every document stands only as a whole filter
abbrev pub IsWhere : Condition → Type 0
IsWhere anything = Unit {0}
IsWhere c = IsFilter c

-- the references in a cursor, if it is there, are names of documents
abbrev pub CursorHasNames : Option Cursor → Type 0
CursorHasNames None = Unit {0}
CursorHasNames (Some c) = ItemsHaveNames (items_of c.values)

-- a selection has a path: what keeps no field is written by the path `__name__`, and read as that path
abbrev pub SelectsSome : Option (List FieldPath) → Type 0
SelectsSome None = Unit {0}
SelectsSome (Some []) = ⊥
SelectsSome (Some (p ∷ ps)) = Unit {0}

-- a query that breaks no rule of queries, each part of which can be told in JSON
pub record IsValid (q : Asked) : Type 0 where
  pub filter : IsWhere q.filter
  pub start : CursorHasNames q.start
  pub end : CursorHasNames q.end
  pub select : SelectsSome q.select
  pub allowed : rule_of_query q ≡ None

-- a query as it is walked below a parent, before its rules are tested
pub record IsWalked (parent : List (List ℕ)) (q : Asked) : Type 0 where
  pub below : scope_parent q.scope ≡ parent
  pub filter : IsWhere q.filter
  pub start : CursorHasNames q.start
  pub end : CursorHasNames q.end
  pub select : SelectsSome q.select

-- and one that is listened to, in which nothing is selected or skipped
pub record IsListened (parent : List (List ℕ)) (q : Asked) : Type 0 where
  pub walked : IsWalked parent q
  pub select : q.select ≡ None
  pub offset : q.offset ≡ pos 0

-- a query below a parent that is read back
pub record IsReadBelow (parent : List (List ℕ)) (q : Asked) : Type 0 where
  pub below : scope_parent q.scope ≡ parent
  pub valid : IsValid q
