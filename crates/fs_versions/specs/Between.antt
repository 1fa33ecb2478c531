-- Only private clauses cite this: two names between which all those of a scope lie.
use Rattle.std.specs.Prelude.{◌≡◌, ℕ, true, List}
use Rattle.std.specs.BTreeMap.Range.{IsLeBy, entries_between, range_contains}
use Rattle.std.specs.declared.ops.Bound.TheVariants.{Included, Excluded}
use Rattle.std.specs.List.{filter}
use Rattle.fs_path.specs.NameOrder.{name_cmp}
use Rattle.fs_path.specs.Scope.{covers}
use Rattle.fs_path.specs.declared.name.DocName.{DocName}
use Rattle.fs_path.specs.declared.scope.Scope.{Scope}

-- the name with these ids in the database of another
abbrev pub beside : DocName → List (List ℕ) → DocName
beside n ids = record { project = n.project; database = n.database; ids = ids }

-- a name is in the database of another
pub record IsBeside (n q : DocName) : Type 0 where
  pub project : q.project ≡ n.project
  pub database : q.database ≡ n.database

-- all names of a scope that are in the database of one are from a name on and before another
pub record AreBounds (scope : Scope) (n from to : DocName) : Type 0 where
  pub forward : IsLeBy name_cmp from to
  pub within : (q : DocName) → IsBeside n q → covers scope q ≡ true → range_contains name_cmp (Included from) (Excluded to) q ≡ true

-- all entries of a scope are
pub record LieBetween {X : Type 0} (scope : Scope) (es : List (DocName × X)) (from to : DocName) : Type 0 where
  pub forward : IsLeBy name_cmp from to
  pub all : filter (λ e. covers scope e.0) (entries_between name_cmp (Included from) (Excluded to) es) ≡ filter (λ e. covers scope e.0) es
