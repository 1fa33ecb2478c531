-- What is kept of the targets of a session, by the history of the database that they listen to.
--
--     two shards, c in shard 1 and d in shard 0; commits: c/a {n: 1} at 1, c/a {n: 2} at 2, d/a {n: 3} at 3, c/a deleted at 4
--     a target, the documents c/a and d/a      positions in 0, 1     sent            documents       staged
--     loaded at 1                              1, 1                  none            c/a {n: 1}
--     shard 1 fed up to 4                      1, 4                  none            c/a {n: 1}      2 c/a {n: 2} inside, 4 c/a outside
--     raised at 1                              1, 4                  c/a {n: 1}      c/a {n: 1}      the same
--     shard 0 fed up to 2, raised at 2         2, 4                  c/a {n: 2}      c/a {n: 2}      4 c/a outside
--
-- The commit of 3 isn't staged: the target was told shard 0 up to 2.
use Rattle.std.specs.Prelude.{◌≡◌, ℕ, ℤ, ◌<◌, ◌≤ℤ◌, int_le, int_lt, Bool, true, false, ◌&&◌, IfSome, List, [], ◌∷◌, ◌++◌, Option, Some, None, if◌then◌else◌, is_some, slice_index_or}
use Rattle.std.specs.FinMap.{get}
use Rattle.std.specs.List.{AllByRecursion, filter, filter_map}
use Rattle.fs_path.specs.Scope.{AreShards, shard_of}
use Rattle.fs_write.specs.declared.change.Change.{Change}
use Rattle.fs_write.specs.declared.timed_change.TimedChange.{TimedChange}
use Rattle.fs_history.specs.Brings.{Brings}
use Rattle.fs_history.specs.History.{IsRising, at}
use Rattle.fs_history.specs.declared.batch.Batch.{Batch}
use Rattle.fs_match.specs.Event.{event_for}
use Rattle.fs_match.specs.Followed.{docs_fitting}
use Rattle.fs_match.specs.declared.events.Event.{Event}
use Rattle.fs_match.specs.declared.events.Event.TheVariants as event
use Rattle.fs_listen.specs.Listening.{Listened, Loaded, has_shard}
use Rattle.fs_listen.specs.Raised.{sent_time}
use Rattle.fs_listen.specs.View.{is_listened, view_at}
use Rattle.fs_query.specs.declared.target.Target.{Target}
use Rattle.fs_target.specs.Held.{Held}
use Rattle.fs_target.specs.Kept.{Kept}
use Rattle.fs_target.specs.declared.event.TimedEvent.{TimedEvent}

-- ---- the events of a target

-- a change, by what it is to the target
abbrev pub told_as : ℕ → ℤ → Change → Event → Option TimedEvent
told_as id time c event.Enter = Some (record { time = time; target = id; name = c.name; after = c.after; inside = true })
told_as id time c event.Change = Some (record { time = time; target = id; name = c.name; after = c.after; inside = true })
told_as id time c event.Leave = Some (record { time = time; target = id; name = c.name; after = c.after; inside = false })
told_as id time c event.None = None

abbrev pub event_of : ℕ → Target → ℤ → Change → Option TimedEvent
event_of id t time c = told_as id time c (event_for (is_listened t) c.before c.after)

-- those of commits
abbrev pub events_of : ℕ → Target → List TimedChange → List TimedEvent
events_of id t [] = []
events_of id t (c ∷ cs) = filter_map (event_of id t c.time) c.changes ++ events_of id t cs

-- ---- those that are staged

-- the time that its documents are of: it was loaded at it, or the session was raised to it since
abbrev pub base_of : Option ℤ → Loaded → Option ℤ
base_of raised l = if l.current then raised else Some l.time

abbrev pub is_told : Option ℤ → ℤ → Bool
is_told None time = false
is_told (Some position) time = int_le time position

-- an event behind the base, and at most the target's position in the shard of its name
abbrev pub is_staged : ℕ → ℤ → List (Option ℤ) → TimedEvent → Bool
is_staged shards base positions e = int_lt base e.time && is_told (slice_index_or positions (shard_of shards e.name) None) e.time

-- ---- one target

-- the target has a position in each shard that its documents may be in, and none is below the base or above a time
abbrev pub HavePositions : ℕ → Target → List (Option ℤ) → Type 0
HavePositions shards t positions = (shard : ℕ) → shard < shards → has_shard shards t shard ≡ true → is_some (slice_index_or positions shard None) ≡ true

abbrev pub AreWithin : ℤ → ℤ → List (Option ℤ) → Type 0
AreWithin base to positions = AllByRecursion (λ (o : Option ℤ). IfSome o (λ position. (base ≤ℤ position) × (position ≤ℤ to))) positions

-- of a target that is loaded, over a history that is known up to a time, and its commits
pub record KeepsOne (h : List Batch) (commits : List TimedChange) (known : ℤ) (shards : ℕ) (raised : Option ℤ) (id : ℕ) (target : Target) (token : Option ℤ) (loaded : Loaded) (kept : Kept) : Type 0 where
  pub base : ℤ
  pub is_base : base_of raised loaded ≡ Some base
  pub before : base ≤ℤ known
  -- the view that was sent
  pub sent : kept.sent ≡ view_at target h (sent_time raised token (Some loaded))
  -- all documents that it listens to, of its base
  pub docs : kept.docs ≡ docs_fitting (is_listened target) (at h base)
  -- by time and then by name, just the events that it was told behind that
  pub staged : kept.staged ≡ filter (is_staged shards base loaded.positions) (events_of id target commits)
  pub there : HavePositions shards target loaded.positions
  pub within : AreWithin base known loaded.positions

-- what is kept of a target
abbrev pub KeepsOf : List Batch → List TimedChange → ℤ → ℕ → Option ℤ → ℕ → Target → Option ℤ → Option Loaded → Option (Option Kept) → Type 0
KeepsOf h commits known shards raised id target token None kept = kept ≡ Some None
KeepsOf h commits known shards raised id target token (Some loaded) kept =
    (k : Kept) × (kept ≡ Some (Some k)) × KeepsOne h commits known shards raised id target token loaded k

-- ---- all of them

-- over a history that is known up to a time: no later time was raised to, is shown by a token, or is a position
pub record Keeps (h : List Batch) (known : ℤ) (held : Held) : Type 0 where
  pub commits : List TimedChange
  pub brought : Brings [] commits h
  pub rising : IsRising h
  pub shards : AreShards held.shards
  pub raised : IfSome held.listening.raised (λ time. time ≤ℤ known)
  pub tokens : (id : ℕ) (l : Listened) → get held.listening.targets id ≡ Some l → IfSome l.token (λ time. time ≤ℤ known)
  pub targets : (id : ℕ) (l : Listened) → get held.listening.targets id ≡ Some l
      → KeepsOf h commits known held.shards held.listening.raised id l.target l.token l.loaded (get held.kept id)
