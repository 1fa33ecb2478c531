-- Which ids hold which names: a list of holds in the order of names, and for one name of ids, each once.
use Rattle.std.specs.Prelude.{◌≡◌, ◌≢◌, ℕ, ◌≤◌, Bool, ◌&&◌, ◌==◌, nat_le, IsTrue, List, Option, Some, None, refl, if◌then◌else◌}
use Rattle.std.specs.Coded.{Coded, code_by, coded×, coded_ℕ}
use Rattle.std.specs.List.{list_any}
use Rattle.fs_path.specs.NameOrder.{name_eq}
use Rattle.fs_path.specs.Scope.{covers}
use Rattle.fs_path.specs.contracts.name.DocName as name
use Rattle.fs_path.specs.declared.name.DocName.{DocName}
use Rattle.fs_locks.specs.declared.held.Held.{Held}
use Rattle.fs_locks.specs.declared.held.Held.TheVariants.{Name, Scope}

-- an id holds a name
pub record Hold : Type 0 where
  pub id : ℕ
  pub name : DocName

-- it is stored as the tuple of its parts
abbrev pub hold_code : Coded Hold
hold_code =
    code_by (DocName × ℕ)
    (coded× name.the_row.coded coded_ℕ)
    (λ h. (h.name, h.id))
    (λ p. record { id = p.1; name = p.0 })
    (λ _. refl)

-- a name is one of these
abbrev pub is_in : DocName → List DocName → Bool
is_in n names = list_any (name_eq n) names

-- the id holds the name
abbrev pub is_held : List Hold → ℕ → DocName → Bool
is_held holds i n = list_any (λ h. name_eq n h.name && i == h.id) holds

-- an id holds one of the names
abbrev pub HoldsOne : List Hold → List DocName → ℕ → Type 0
HoldsOne holds names i = IsTrue (list_any (is_held holds i) names)

-- an id holds what is touched: the name, or a name that the scope covers
abbrev pub HoldsTouched : List Hold → Held → ℕ → Type 0
HoldsTouched holds (Name n) i = IsTrue (is_held holds i n)
HoldsTouched holds (Scope scope) i = (n : DocName) × IsTrue (covers scope n) × IsTrue (is_held holds i n)

-- an id other than `by` that has a property, and no other such id is below it
pub record IsLeast (P : ℕ → Type 0) (by i : ℕ) : Type 0 where
  pub other : i ≢ by
  pub has : P i
  pub least : (j : ℕ) → P j → j ≢ by → i ≤ j

-- the least id other than `by` that has a property, or none where there is no such id
abbrev pub IsLeastOther : (ℕ → Type 0) → ℕ → Option ℕ → Type 0
IsLeastOther P by None = (j : ℕ) → P j → j ≡ by
IsLeastOther P by (Some i) = IsLeast P by i

-- the lesser of two ids, or the one that is there
abbrev pub lesser_of : Option ℕ → Option ℕ → Option ℕ
lesser_of None b = b
lesser_of (Some x) None = Some x
lesser_of (Some x) (Some y) = if nat_le x y then Some x else Some y
