-- What contracts see of versions beside the chains: for how many more versions each name has room.
--
--     room made for one change of c/a and one of c/b     c/a: 1 or more, c/b: 1 or more
--     the change of c/a installed                        c/a: one less, c/b: as before
use Rattle.std.specs.Prelude.{◌≡◌, ℕ, ◌-◌, ◌≤◌, List, Option, Some, None, unwrap_or, refl}
use Rattle.std.specs.Coded.{Coded, code_by, coded×, coded_ℕ}
use Rattle.std.specs.FinMap.{FinMap, code, find, get}
use Rattle.std.specs.List.{All}
use Rattle.fs_path.specs.NameOrder.{name_cmp}
use Rattle.fs_path.specs.contracts.name.DocName as name
use Rattle.fs_path.specs.declared.name.DocName.{DocName}
use Rattle.fs_write.specs.Batch.{changes_by_name}
use Rattle.fs_write.specs.declared.change.Change.{Change}
use Rattle.fs_versions.specs.Chains.{Chains, chains_code}

abbrev pub Room : Type 0
Room = FinMap name_cmp ℕ

abbrev pub room_code : Coded Room
room_code = code name.the_row.coded coded_ℕ

-- the chains, with the room beside them
pub record Versioned : Type 0 where
  pub chains : Chains
  pub room : Room

-- they are stored as the pair of their parts
abbrev pub versioned_code : Coded Versioned
versioned_code =
    code_by (Chains × Room) (coded× chains_code room_code) (λ v. (v.chains, v.room)) (λ p. record { chains = p.0; room = p.1 }) (λ _. refl)

-- the room of a name
abbrev pub room_of : Room → DocName → ℕ
room_of room name = unwrap_or (get room name) 0

-- each name that changes name has room for so many versions
abbrev pub HasRoom : Room → ℕ → List Change → Type 0
HasRoom room more changes = All (λ c. more ≤ room_of room c.name) changes

-- no name has less room than before
abbrev pub KeepsRoom : Room → Room → Type 0
KeepsRoom old new = (name : DocName) → room_of old name ≤ room_of new name

-- what a change, if there is one, leaves of its name's room
abbrev pub room_after : Option Change → ℕ → ℕ
room_after None room = room
room_after (Some c) room = room - 1

-- each change has taken the room of one version
abbrev pub TakesRoom : Room → Room → List Change → Type 0
TakesRoom old new changes = (name : DocName) → room_of new name ≡ room_after (find name_cmp name (changes_by_name changes)) (room_of old name)
