-- Only private clauses cite this: the holds as the tree of names has them.
use Rattle.std.specs.Prelude.{◌≡◌, ℕ, Bool, false, not, ◌&&◌, ◌||◌, ◌==◌, IsTrue, List, [], ◌∷◌, ◌++◌, map, Option, unwrap_or, cond}
use Rattle.std.specs.BTreeMap.{is_at}
use Rattle.std.specs.FinMap.{from_entries, entries}
use Rattle.std.specs.FinSet.{from_list, items}
use Rattle.std.specs.List.{list_any}
use Rattle.std.specs.Map.{lookup}
use Rattle.std.specs.Ordering.{nat_cmp}
use Rattle.fs_path.specs.NameOrder.{name_cmp}
use Rattle.fs_path.specs.declared.name.DocName.{DocName}
use Rattle.fs_path.specs.Scope.{covers}
use Rattle.fs_path.specs.declared.scope.Scope.{Scope}
use Rattle.fs_locks.specs.Holds.{Hold, is_in}
use Rattle.fs_locks.specs.HoldOrder.{hold_cmp}

-- by names, who holds them
abbrev pub Tree : Type 0
Tree = List (DocName × List ℕ)

-- an id is one of these
abbrev pub has : ℕ → List ℕ → Bool
has i ids = list_any (is_at (nat_cmp i)) ids

-- who holds a name
abbrev pub found : DocName → Tree → Option (List ℕ)
found n tree = lookup (is_at (name_cmp n)) tree

abbrev pub ids_at : DocName → Tree → List ℕ
ids_at n tree = unwrap_or (found n tree) []

-- an id holds a name
abbrev pub held : Tree → ℕ → DocName → Bool
held tree i n = has i (ids_at n tree)

-- the tree has this at a name, and what it had at the others
abbrev pub Puts : Tree → Tree → DocName → Option (List ℕ) → Type 0
Puts old new name value = (n : DocName) → found n new ≡ cond (is_at (name_cmp name) n) value (found n old)

-- the same is held
abbrev pub SameTree : Tree → Tree → Type 0
SameTree old new = (i : ℕ) (n : DocName) → held new i n ≡ held old i n

-- an id holds these names too
abbrev pub HasMore : Tree → Tree → ℕ → List DocName → Type 0
HasMore old new id names = (i : ℕ) (n : DocName) → held new i n ≡ ((is_in n names && i == id) || held old i n)

-- an id doesn't hold these names any more
abbrev pub HasLess : Tree → Tree → ℕ → List DocName → Type 0
HasLess old new id names = (i : ℕ) (n : DocName) → held new i n ≡ (not (is_in n names && i == id) && held old i n)

-- the same is held but for what an id holds of these names
abbrev pub SameBut : Tree → Tree → ℕ → List DocName → Type 0
SameBut old new id names = (i : ℕ) (n : DocName) → (is_in n names && i == id) ≡ false → held new i n ≡ held old i n

-- an id holds a name in a scope
abbrev pub HoldsIn : Tree → Scope → ℕ → Type 0
HoldsIn tree scope i = (n : DocName) × IsTrue (covers scope n) × IsTrue (held tree i n)

-- ---- as contracts see them

-- the holds of entries
abbrev pub listed : Tree → List Hold
listed [] = []
listed (e ∷ es) = map (λ i. record { id = i; name = e.0 }) e.1 ++ listed es

-- and of a tree, in order and each once
abbrev pub holds_of : Tree → List Hold
holds_of tree = items (from_list {R = hold_cmp} (listed (entries (from_entries {R = name_cmp} tree))))

-- ---- what an id has taken

-- the names of these lists, by ids
abbrev pub Taken : Type 0
Taken = List (ℕ × List DocName)

abbrev pub taken_at : ℕ → Taken → Option (List DocName)
taken_at i taken = lookup (is_at (nat_cmp i)) taken

abbrev pub taken_by : ℕ → Taken → List DocName
taken_by i taken = unwrap_or (taken_at i taken) []

-- an id has taken these names too
abbrev pub TakesMore : Taken → Taken → ℕ → List DocName → Type 0
TakesMore old new id names = (i : ℕ) → taken_by i new ≡ cond (is_at (nat_cmp id) i) (taken_by id old ++ names) (taken_by i old)

-- each has taken the same
abbrev pub SameTaken : Taken → Taken → Type 0
SameTaken old new = (i : ℕ) → taken_by i new ≡ taken_by i old

-- each hold is among what its id has taken
abbrev pub AreTaken : Tree → Taken → Type 0
AreTaken tree taken = (i : ℕ) (n : DocName) → IsTrue (held tree i n) → IsTrue (is_in n (taken_by i taken))
