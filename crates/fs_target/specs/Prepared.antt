-- What contracts see of the targets of a session while what a feed or a raise changes is made ready: how many shards and how many targets
-- there may be, the time of the last raise, and each target with what was made ready of it. `held_in` leaves out what was made ready.
use Rattle.std.specs.Prelude.{◌≡◌, ℕ, ℤ, IfSome, List, Option, None, map, refl, slice_index_or}
use Rattle.std.specs.Coded.{Coded, code_by, coded×, coded_ℕ, coded_ℤ, coded_list, coded_option}
use Rattle.std.specs.List.{AllByRecursion}
use Rattle.fs_target.specs.Held.{Held, events_behind}
use Rattle.fs_target.specs.Ready.{next_at}
use Rattle.fs_target.specs.Seen.{held_of, seen}
use Rattle.fs_target.specs.contracts.entry.Entry as row
use Rattle.fs_target.specs.declared.entry.Entry.{Entry}
use Rattle.fs_target.specs.declared.entry.Loaded as entry
use Rattle.fs_target.specs.declared.event.TimedEvent.{TimedEvent}

pub record Prepared : Type 0 where
  pub shards : ℕ
  pub limit : ℕ
  pub raised : Option ℤ
  -- by rising ids
  pub entries : List Entry

abbrev pub prepared_code : Coded Prepared
prepared_code =
    code_by (ℕ × (ℕ × (Option ℤ × List Entry))) (coded× coded_ℕ (coded× coded_ℕ (coded× (coded_option coded_ℤ) (coded_list row.the_row.coded))))
    (λ v. (v.shards, (v.limit, (v.raised, v.entries)))) (λ p. record { shards = p.0; limit = p.1.0; raised = p.1.1.0; entries = p.1.1.1 }) (λ _. refl)

abbrev pub held_in : Prepared → Held
held_in v = held_of v.shards v.limit v.raised (map seen v.entries)

-- ---- what is ready

-- of a target that is loaded the events behind its position in a shard are ready, and no others
abbrev pub IsPrepared : ℕ → List TimedEvent → Entry → Type 0
IsPrepared shard es e = IfSome e.loaded (λ (l : entry.Loaded). l.kept.coming ≡ events_behind e.id (slice_index_or l.positions.items shard None) es)

abbrev pub ArePrepared : ℕ → List TimedEvent → Prepared → Type 0
ArePrepared shard es v = AllByRecursion (IsPrepared shard es) v.entries

-- of a target that is loaded the view at a time is ready
abbrev pub IsNext : ℤ → Entry → Type 0
IsNext time e = IfSome e.loaded (λ (l : entry.Loaded). l.kept.next ≡ next_at time e.target l.kept.kept)

abbrev pub AreReady : ℤ → Prepared → Type 0
AreReady time v = AllByRecursion (IsNext time) v.entries
