-- A store as what has become of it, so that stores of the same events are the same wherever they stand.
use Rattle.std.specs.Prelude.{ℕ, ℤ, List, [], ◌∷◌}
use Rattle.fs_store.specs.Stored.{Stored, started, absorbed, compacted}
use Rattle.fs_store.specs.declared.release.Release.{Release}

pub data Event : Type 0 where
  absorbs : Release → Event
  compacts : ℤ → Event

-- the store that was started at a floor for some shards, after these events, the newest in front
abbrev pub store_of : ℤ → ℕ → List Event → Stored
store_of floor shards [] = started floor shards
store_of floor shards (absorbs release ∷ events) = absorbed (store_of floor shards events) release
store_of floor shards (compacts to ∷ events) = compacted (store_of floor shards events) to
