-- What is matched of a shard: for each target that is loaded and was told the shard up to an earlier time, what was changed there behind
-- that time, up to another, is to it. A target is meant by its number.
use Rattle.std.specs.Prelude.{◌≡◌, ℕ, ℤ, ◌<ℤ◌, ◌≤ℤ◌, ◌==◌, int_lt, ◌&&◌, ◌⊎◌, List, [], ◌∷◌, Option, Some, None}
use Rattle.std.specs.FinMap.{get}
use Rattle.std.specs.List.{AllByRecursion, filter}
use Rattle.fs_path.specs.Scope.{in_shard}
use Rattle.fs_write.specs.declared.timed_change.TimedChange.{TimedChange}
use Rattle.fs_history.specs.Brings.{AreChangesIn, Brings}
use Rattle.fs_history.specs.declared.batch.Batch.{Batch}
use Rattle.fs_listen.specs.Listening.{Listened, Loaded}
use Rattle.fs_query.specs.declared.target.Target.{Target}
use Rattle.fs_target.specs.Held.{position_in}
use Rattle.fs_target.specs.Keeps.{base_of, events_of, is_staged}
use Rattle.fs_target.specs.declared.event.TimedEvent.{TimedEvent}
use Rattle.fs_machine.specs.Listen.{listening_of}
use Rattle.fs_machine.specs.Listeners.{Listener}
use Rattle.fs_machine.specs.State.{Machine}

-- of events of a number those behind a time
abbrev pub events_for : ℕ → ℤ → List TimedEvent → List TimedEvent
events_for number from es = filter (λ (e : TimedEvent). (e.target == number) && int_lt from e.time) es

-- they are what was changed in a shard behind that time, up to another
pub record AreEventsFor (h : List Batch) (shards shard : ℕ) (from to : ℤ) (es : List TimedEvent) (number : ℕ) (t : Target) : Type 0 where
  -- what was changed there behind an earlier time
  pub start : ℤ
  pub low : start ≤ℤ from
  pub changes : List TimedChange
  pub changed : AreChangesIn h (in_shard shards shard) start to changes
  pub told : events_for number from es ≡ events_for number from (events_of number t changes)

-- so they are for a session
abbrev pub AreEventsOf : List Batch → ℕ → ℕ → ℤ → List TimedEvent → Listener → Type 0
AreEventsOf h shards shard to es l =
    (id number : ℕ) (t : Listened) (from : ℤ) → get l.listening.targets id ≡ Some t → get l.numbers id ≡ Some number
    → position_in shard (Some t) ≡ Some from → from <ℤ to → AreEventsFor h shards shard from to es number t.target

-- and for each
abbrev pub AreEvents : Machine → ℕ → ℤ → List TimedEvent → Type 0
AreEvents m shard to es = AllByRecursion (AreEventsOf m.past.history m.config.shards shard to es) m.listeners

-- An event is to a target of a session that is loaded, and of a later time than that was told the shard up to.
pub record IsOwedTo (shard : ℕ) (l : Listener) (e : TimedEvent) : Type 0 where
  pub id : ℕ
  pub target : Listened
  pub from : ℤ
  pub there : get l.listening.targets id ≡ Some target
  pub number : get l.numbers id ≡ Some e.target
  pub position : position_in shard (Some target) ≡ Some from
  pub later : from <ℤ e.time

-- so it is of one of these sessions
abbrev pub IsOwed : ℕ → List Listener → TimedEvent → Type 0
IsOwed shard [] e = ⊥
IsOwed shard (l ∷ ls) e = IsOwedTo shard l e ⊎ IsOwed shard ls e

-- ---- staged

-- those of a target that is loaded, behind its base and up to its position in the shard of each name
pub record AreStaged (h : List Batch) (shards : ℕ) (raised : Option ℤ) (id : ℕ) (t : Target) (l : Loaded) (es : List TimedEvent) : Type 0 where
  pub commits : List TimedChange
  pub brought : Brings [] commits h
  pub base : ℤ
  pub is_base : base_of raised l ≡ Some base
  pub staged : es ≡ filter (is_staged shards base l.positions) (events_of id t commits)

abbrev pub IsStagedFor : List Batch → ℕ → Option ℤ → ℕ → Target → Option Loaded → Option (List TimedEvent) → Type 0
IsStagedFor h shards raised id t None es = es ≡ None
IsStagedFor h shards raised id t (Some l) None = ⊥
IsStagedFor h shards raised id t (Some l) (Some es) = AreStaged h shards raised id t l es

abbrev pub IsStagedIn : List Batch → ℕ → Option ℤ → ℕ → Option Listened → Option (List TimedEvent) → Type 0
IsStagedIn h shards raised id None es = es ≡ None
IsStagedIn h shards raised id (Some l) es = IsStagedFor h shards raised id l.target l.loaded es

abbrev pub IsStagedOf : Machine → ℕ → ℕ → Option (List TimedEvent) → Type 0
IsStagedOf m session id es = IsStagedIn m.past.history m.config.shards (listening_of m session).raised id (get (listening_of m session).targets id) es
