-- Only private clauses cite this: where the index has what is held.
use Rattle.std.specs.Prelude.{◌≡◌, ℕ, ◌≤◌, Bool, false, not, ◌&&◌, ◌||◌, ◌==◌, ◌⊎◌, IsTrue, List, [], ◌++◌, length, Option, Some, None, String, unwrap_or}
use Rattle.std.specs.BTreeMap.{BTreeMap, get_by_text}
use Rattle.std.specs.List.{list_any}
use Rattle.std.specs.Option.{option_map_or}
use Rattle.std.specs.declared.alloc.Global.{Global}
use Rattle.fs_path.specs.Cursor.{rest_segments}
use Rattle.fs_path.specs.NameOrder.{name_eq}
use Rattle.fs_path.specs.TextOrder.{text_eq}
use Rattle.fs_path.specs.declared.name.DocName.{DocName}
use Rattle.fs_path.specs.declared.scope.Scope.TheVariants.{Collection, Group}
use Rattle.fs_locks.specs.Paths.{path_eq, path_text, stand_id}
use Rattle.fs_locks.specs.Shares.{Shares, shared_by}
use Rattle.fs_locks.specs.Tree.{has, held}
use Rattle.fs_locks.specs.declared.held.Held.{Held}
use Rattle.fs_locks.specs.declared.held.Held.TheVariants.{Name, Scope}
use Rattle.fs_locks.specs.declared.index.Index.{Index}
use Rattle.fs_locks.specs.declared.parents.Parents.{Parents}
use Rattle.fs_locks.specs.declared.scopes.Scopes.{Scopes}

-- ---- scopes with one collection id

-- who holds something below a path
abbrev pub ids_under : BTreeMap (String Global) (List ℕ) → List ℕ → List ℕ
ids_under tree t = unwrap_or (get_by_text tree t) []

abbrev pub under : Parents → Option (List ℕ) → List ℕ
under parents None = parents.root
under parents (Some t) = ids_under parents.below t

-- an id holds something below a path with which this one begins, of at least so many ids
abbrev pub HoldsAbove : Parents → List (List ℕ) → ℕ → ℕ → Type 0
HoldsAbove parents ids least i = (front : List (List ℕ)) × (rest : List (List ℕ)) × (front ++ rest ≡ ids) × (least ≤ length front) × IsTrue (has i (under parents (path_text front)))

-- ---- scopes

-- an id holds the collections with an id below a path
abbrev pub in_scopes : Scopes → List ℕ → Option (List ℕ) → ℕ → Bool
in_scopes scopes id path i = option_map_or (λ parents. has i (under parents path)) (get_by_text scopes.by_id id) false

-- or below one with which this one begins
abbrev pub StandsAbove : Scopes → List ℕ → List (List ℕ) → ℕ → Type 0
StandsAbove scopes id ids i = (front : List (List ℕ)) × (rest : List (List ℕ)) × (front ++ rest ≡ ids) × IsTrue (in_scopes scopes id (path_text front) i)

-- ---- the whole index

-- a name, or the collections or the groups with an id below a path
pub data Spot : Type 0 where
  named : DocName → Spot
  collection : (id : List ℕ) → (path : Option (List ℕ)) → Spot
  group : (id : List ℕ) → (path : Option (List ℕ)) → Spot

-- what is held stands at a spot
abbrev pub is_at_spot : Spot → Held → Bool
is_at_spot (named n) (Name m) = name_eq n m
is_at_spot (collection id path) (Scope (Collection parent own)) = text_eq (stand_id (Collection parent own)) id && path_eq (path_text parent) path
is_at_spot (group id path) (Scope (Group parent own)) = text_eq (stand_id (Group parent own)) id && path_eq (path_text parent) path
is_at_spot _ _ = false

-- an id stands at a spot
abbrev pub stands : Index → Spot → ℕ → Bool
stands index (named n) i = held index.names.entries i n
stands index (collection id path) i = in_scopes index.collections id path i
stands index (group id path) i = in_scopes index.groups id path i

-- an id stands where a document's collection is looked up, or a group that it belongs to
abbrev pub StandsOver : Index → Option (List ℕ) → List ℕ → ℕ → Type 0
StandsOver index path id i = IsTrue (in_scopes index.collections id path i) ⊎ StandsAbove index.groups id (rest_segments path) i

-- one of these stands at a spot
abbrev pub is_among : Spot → List Held → Bool
is_among s hs = list_any (is_at_spot s) hs

-- ids stand where they stood
abbrev pub SameIndex : Index → Index → Type 0
SameIndex old new = (s : Spot) (i : ℕ) → stands new s i ≡ stands old s i

-- an id stands where these are too
abbrev pub IndexMore : Index → Index → ℕ → List Held → Type 0
IndexMore old new id hs = (s : Spot) (i : ℕ) → stands new s i ≡ ((is_among s hs && i == id) || stands old s i)

-- an id doesn't stand where these are any more
abbrev pub IndexLess : Index → Index → ℕ → List Held → Type 0
IndexLess old new id hs = (s : Spot) (i : ℕ) → stands new s i ≡ (not (is_among s hs && i == id) && stands old s i)

-- each id stands where what it holds is, and nowhere else
abbrev pub IsIndex : Index → Shares → Type 0
IsIndex index shares = (s : Spot) (i : ℕ) → stands index s i ≡ is_among s (shared_by i shares)
