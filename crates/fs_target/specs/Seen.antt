-- The entries of targets, as contracts see them.
use Rattle.std.specs.Prelude.{ℕ, ℤ, List, Option, map}
use Rattle.std.specs.FinMap.{from_entries}
use Rattle.std.specs.Option.{option_map}
use Rattle.fs_listen.specs.Listening.{Listened, Listening, Loaded}
use Rattle.fs_target.specs.Held.{Held}
use Rattle.fs_target.specs.Kept.{Kept}
use Rattle.fs_target.specs.declared.entry.Entry.{Entry}
use Rattle.fs_target.specs.declared.entry.Loaded as entry

-- a target, and what is kept of it
pub record Seen : Type 0 where
  pub id : ℕ
  pub listened : Listened
  pub kept : Option Kept

-- ---- of an entry

abbrev pub loaded_in : entry.Loaded → Loaded
loaded_in l = record { time = l.time; reset = l.reset; positions = l.positions.items; current = l.current }

abbrev pub seen : Entry → Seen
seen e = record {
  id = e.id;
  listened = record { target = e.target; token = e.token; loaded = option_map loaded_in e.loaded };
  kept = option_map (λ (l : entry.Loaded). l.kept.kept) e.loaded;
}

-- ---- of all

abbrev pub listed_in : Seen → ℕ × Listened
listed_in s = (s.id, s.listened)

abbrev pub kept_in : Seen → ℕ × Option Kept
kept_in s = (s.id, s.kept)

abbrev pub listening_of : Option ℤ → List Seen → Listening
listening_of raised ss = record { targets = from_entries (map listed_in ss); raised = raised }

abbrev pub held_of : ℕ → ℕ → Option ℤ → List Seen → Held
held_of shards limit raised ss = record { shards = shards; limit = limit; listening = listening_of raised ss; kept = from_entries (map kept_in ss) }
