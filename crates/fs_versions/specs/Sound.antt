-- Only the model of versions and private clauses cite this: the chains as the tree holds them. A chain may be empty there, where
-- room was made for a name without versions.
use Rattle.std.specs.Prelude.{◌≡◌, ℕ, ◌≤◌, ℤ, ◌≤ℤ◌, int_le, true, false, List, [], ◌∷◌, map, length, Option, Some, None, cond}
use Rattle.std.specs.BTreeMap.{is_at}
use Rattle.std.specs.FinMap.{FinMap, entries, find, from_entries}
use Rattle.std.specs.List.{All, AllWithin}
use Rattle.std.specs.Map.{lookup}
use Rattle.fs_path.specs.NameOrder.{name_cmp}
use Rattle.fs_path.specs.declared.name.DocName.{DocName}
use Rattle.fs_write.specs.Batch.{changes_by_name}
use Rattle.fs_write.specs.declared.change.Change.{Change}
use Rattle.fs_history.specs.declared.version.Version.{Version}
use Rattle.fs_versions.specs.Chain.{extended}
use Rattle.fs_versions.specs.Chained.{Chained}
use Rattle.fs_versions.specs.Chains.{all_full}
use Rattle.fs_versions.specs.Rising.{AreBefore}
use Rattle.fs_versions.specs.Room.{Room, room_after}

-- the chains of names, as entries
abbrev pub Tree : Type 0
Tree = List (DocName × Chained)

abbrev pub found : DocName → Tree → Option Chained
found name tree = lookup (is_at (name_cmp name)) tree

-- the chain that stands somewhere, and where none does, one without versions and room
abbrev pub chained : Option Chained → Chained
chained None = record { versions = []; room = 0 }
chained (Some c) = c

-- the chain of a name, which may be empty, and its room
abbrev pub chained_in : DocName → Tree → Chained
chained_in name tree = chained (found name tree)

abbrev pub chain_in : DocName → Tree → List Version
chain_in name tree = (chained_in name tree).versions

abbrev pub room_in : DocName → Tree → ℕ
room_in name tree = (chained_in name tree).room

-- ---- what contracts see of a tree

abbrev pub lists_of : Tree → List (DocName × List Version)
lists_of tree = map (λ e. (e.0, e.1.versions)) tree

-- its chains that aren't empty
abbrev pub chains_of : Tree → FinMap name_cmp (List Version)
chains_of tree = from_entries (all_full (entries {R = name_cmp} (from_entries (lists_of tree))))

abbrev pub rooms_of : Tree → Room
rooms_of tree = from_entries (map (λ e. (e.0, e.1.room)) tree)

-- ---- the times of its versions

-- no chain ends behind a time
abbrev pub EndsBy : Tree → ℤ → Type 0
EndsBy tree time = (name : DocName) → All (λ v. v.time ≤ℤ time) (chain_in name tree)

-- all end before a time
abbrev pub EndsBefore : Tree → ℤ → Type 0
EndsBefore tree time = (name : DocName) → AreBefore (chain_in name tree) time

-- ---- what becomes of it

-- what a chain holds, if it is not empty
abbrev pub held : List Version → Option (List Version)
held [] = None
held (v ∷ vs) = Some (v ∷ vs)

-- the tree has this at a name, and what it had at the others
abbrev pub Puts : Tree → Tree → DocName → Chained → Type 0
Puts old new name value = (q : DocName) → found q new ≡ cond (is_at (name_cmp name) q) (Some value) (found q old)

-- the same versions at each name
abbrev pub SameChains : Tree → Tree → Type 0
SameChains old new = (q : DocName) → chain_in q new ≡ chain_in q old

-- no name has less room
abbrev pub NoLess : Tree → Tree → Type 0
NoLess old new = (q : DocName) → room_in q old ≤ room_in q new

-- the tree after changes at a time: each name's chain and its room
abbrev pub HasChanged : Tree → Tree → List Change → ℤ → Type 0
HasChanged old new changes time = (q : DocName) → chain_in q new ≡ extended time (find name_cmp q (changes_by_name changes)) (chain_in q old)

abbrev pub HasTaken : Tree → Tree → List Change → Type 0
HasTaken old new changes = (q : DocName) → room_in q new ≡ room_after (find name_cmp q (changes_by_name changes)) (room_in q old)

-- ---- in a chain

-- the first versions of a chain, so many, are at or before a time, and the others are later
pub record IsSplit (chain : List Version) (time : ℤ) (count : ℕ) : Type 0 where
  pub within : count ≤ length chain
  pub first : AllWithin (λ v. int_le v.time time ≡ true) chain 0 count
  pub others : AllWithin (λ v. int_le v.time time ≡ false) chain count (length chain)
