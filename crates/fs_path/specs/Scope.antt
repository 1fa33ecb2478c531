-- The documents that a query goes over. (v1 reference, "StructuredQuery.CollectionSelector".)
use Rattle.std.specs.Prelude.{◌≡◌, ℕ, ◌+◌, ◌-◌, ◌%◌, Bool, ◌&&◌, List, [], ◌∷◌, ◌++◌, length, slice_index_or, sum, ◌==◌, ◌≤◌, nat_le}
use Rattle.std.specs.List.{starts_with}
use Rattle.fs_path.specs.declared.name.DocName.{DocName}
use Rattle.fs_path.specs.declared.scope.Scope.{Scope}
use Rattle.fs_path.specs.declared.scope.Scope.TheVariants.{Collection, Group}
use Rattle.fs_path.specs.TextOrder.{text_eq}

-- what a query's collections lie below, and their id
abbrev pub scope_parent : Scope → List (List ℕ)
scope_parent (Collection parent id) = parent
scope_parent (Group parent id) = parent

abbrev pub scope_id : Scope → List ℕ
scope_id (Collection parent id) = id
scope_id (Group parent id) = id

-- a document of the collection right below its parent, or of a collection with this id anywhere below its parent
abbrev pub Covers : Scope → DocName → Type 0
Covers (Collection parent id) n = (last : List ℕ) × (n.ids ≡ parent ++ id ∷ last ∷ [])
Covers (Group parent id) n = (between : List (List ℕ)) × (last : List ℕ) × (n.ids ≡ parent ++ (between ++ id ∷ last ∷ []))

-- ---- the test

-- ids that begin with a parent's, and whose last two are of a document in a collection with this id
abbrev pub lies_in : List (List ℕ) → List ℕ → List (List ℕ) → Bool
lies_in parent id ids = nat_le (length parent + 2) (length ids) && starts_with text_eq ids parent && text_eq (slice_index_or ids (length ids - 2) []) id

abbrev pub covers : Scope → DocName → Bool
covers (Collection parent id) n = lies_in parent id n.ids && length n.ids == length parent + 2
covers (Group parent id) n = lies_in parent id n.ids

-- ---- the shards

-- a server has 1 to 16 shards
abbrev pub most_shards : ℕ
most_shards = 16

pub record AreShards (shards : ℕ) : Type 0 where
  pub some : 1 ≤ shards
  pub few : shards ≤ most_shards

-- the id of the collection that a document is in
abbrev pub collection_id : DocName → List ℕ
collection_id n = slice_index_or n.ids (length n.ids - 2) []

-- of some shards, that of a document: the sum of its collection id's bytes modulo their number
--
--     demo/(default)/c/a of 4 shards      99 % 4 is 3, as c is the byte 99
abbrev pub shard_of : ℕ → DocName → ℕ
shard_of shards n = sum (collection_id n) % shards

abbrev pub in_shard : ℕ → ℕ → DocName → Bool
in_shard shards shard n = shard_of shards n == shard
