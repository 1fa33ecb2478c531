-- What contracts see of a store beside what is stored: for how many versions more each name has room, and for how many changes more each
-- shard has places. A release has room where each name has it for as many versions as commits change it, and each shard has a place for
-- every change.
--
--     a release that changes c/a at 5 and at 7, and c/b at 7     wants room for two versions of c/a and for one of c/b, and three places
use Rattle.std.specs.Prelude.{ℕ, ◌+◌, ◌≤◌, is_some, List, [], ◌∷◌, length, refl, if◌then◌else◌}
use Rattle.std.specs.Coded.{Coded, code_by, coded×, coded_ℕ, coded_list}
use Rattle.std.specs.FinMap.{find}
use Rattle.fs_path.specs.NameOrder.{name_cmp}
use Rattle.fs_path.specs.declared.name.DocName.{DocName}
use Rattle.fs_write.specs.Batch.{changes_by_name}
use Rattle.fs_write.specs.declared.timed_change.TimedChange.{TimedChange}
use Rattle.fs_versions.specs.Room.{Room, room_code, room_of}
use Rattle.fs_store.specs.Logs.{HavePlaces}
use Rattle.fs_store.specs.Stored.{Stored, stored_code}

-- what is stored, with the room beside it
pub record Housed : Type 0 where
  pub stored : Stored
  pub room : Room
  pub places : List ℕ

-- they are stored as the tuple of their parts
abbrev pub housed_code : Coded Housed
housed_code =
    code_by (Stored × (Room × List ℕ)) (coded× stored_code (coded× room_code (coded_list coded_ℕ)))
    (λ h. (h.stored, (h.room, h.places))) (λ p. record { stored = p.0; room = p.1.0; places = p.1.1 }) (λ _. refl)

-- how many of commits change a name
abbrev pub times_changed : DocName → List TimedChange → ℕ
times_changed name [] = 0
times_changed name (c ∷ cs) = (if is_some (find name_cmp name (changes_by_name c.changes)) then 1 else 0) + times_changed name cs

abbrev pub HasRoomFor : Room → List TimedChange → Type 0
HasRoomFor room commits = (name : DocName) → times_changed name commits ≤ room_of room name

-- how many changes commits have
abbrev pub change_count : List TimedChange → ℕ
change_count [] = 0
change_count (c ∷ cs) = length c.changes + change_count cs

-- each shard has so many places
abbrev pub HasPlaces : Housed → ℕ → Type 0
HasPlaces h n = HavePlaces h.stored.shards h.places n
