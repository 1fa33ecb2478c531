-- The targets of a session, and how far each of them is. A target is told shard by shard, each at its own pace: its position in a shard is
-- the time up to which the changes there were told.
--
--     two shards, c in shard 1 and d in shard 0
--     commits   c/a {n: 1} at 1, c/a {n: 2} at 2, d/a {n: 3} at 3
--     targets   1 is the documents c/a and d/a, 2 is the query of d
--
--                               position of 1 in 0, 1     of 2 in 0     the session is at     its base
--     both added                                                        1 isn't loaded
--     1 loaded at 1             1, 1                                    2 isn't loaded
--     2 loaded at 3             1, 1                      3             1                     3
--     shard 1 matched up to 3   1, 3                      3             1                     3
--     shard 0 matched up to 3   3, 3                      3             3                     3
--
-- Only then is it raised: 2 has no view at 1, as it was loaded at 3. (v1 reference, `ListenRequest`, `Target`.)
use Rattle.std.specs.Prelude.{ℕ, ℤ, int_lt, Bool, true, false, List, Option, Some, None, map, if◌then◌else◌, slice_index_or, slice_set, sum, ◌%◌, ◌==◌}
use Rattle.std.specs.Ordering.{nat_cmp}
use Rattle.std.specs.FinMap.{FinMap, empty, entries, get, insert, remove, from_entries}
use Rattle.std.specs.List.{list_any, range_with_len}
use Rattle.fs_path.specs.Scope.{in_shard, scope_id}
use Rattle.fs_query.specs.declared.target.Target.{Target}
use Rattle.fs_query.specs.declared.target.Target.TheVariants as target

-- what a target that is loaded is at
pub record Loaded : Type 0 where
  -- the time that it was loaded at
  pub time : ℤ
  -- whether it was told then that what its token resumes is gone
  pub reset : Bool
  -- its position in each shard, and none in one that has no documents of it
  pub positions : List (Option ℤ)
  -- whether the session was raised since, so that it has the view of that time
  pub current : Bool

pub record Listened : Type 0 where
  pub target : Target
  -- the time that its resume token shows
  pub token : Option ℤ
  pub loaded : Option Loaded

-- the targets of a session by their ids, and the time of its last raise
pub record Listening : Type 0 where
  pub targets : FinMap nat_cmp Listened
  pub raised : Option ℤ

abbrev pub none_listened : Listening
none_listened = record { targets = empty; raised = None }

-- ---- each of them

abbrev pub each : (Listened → Listened) → Listening → Listening
each change s = record s { targets = from_entries (map (λ e. (e.0, change e.1)) (entries s.targets)) }

abbrev pub with_loaded : (Loaded → Loaded) → Option Loaded → Option Loaded
with_loaded change None = None
with_loaded change (Some l) = Some (change l)

-- ---- what happens to them

abbrev pub added : ℕ → Target → Option ℤ → Listening → Listening
added id t token s = record s { targets = insert s.targets id (record { target = t; token = token; loaded = None }) }

abbrev pub removed : ℕ → Listening → Listening
removed id s = record s { targets = remove s.targets id }

-- whether documents of a target may be in a shard: its collection's, or that of one of its names
abbrev pub has_shard : ℕ → Target → ℕ → Bool
has_shard shards (target.Query q) shard = sum (scope_id q.scope) % shards == shard
has_shard shards (target.Documents names) shard = list_any (in_shard shards shard) names

abbrev pub positions_at : ℕ → Target → ℤ → List (Option ℤ)
positions_at shards t time = map (λ shard. if has_shard shards t shard then Some time else None) (range_with_len 0 shards)

-- loaded at a time, with or without a reset
abbrev pub loaded_one : ℕ → ℤ → Bool → Listened → Listened
loaded_one shards time reset l = record l { loaded = Some (record { time = time; reset = reset; positions = positions_at shards l.target time; current = false }) }

abbrev pub loaded_at : ℕ → ℤ → Bool → ℕ → Option Listened → Listening → Listening
loaded_at shards time reset id None s = s
loaded_at shards time reset id (Some l) s = record s { targets = insert s.targets id (loaded_one shards time reset l) }

abbrev pub loaded : ℕ → ℕ → ℤ → Bool → Listening → Listening
loaded shards id time reset s = loaded_at shards time reset id (get s.targets id) s

-- each position in a shard that was below a time becomes it
abbrev pub later_of : ℤ → Option ℤ → Option ℤ
later_of to None = None
later_of to (Some position) = Some (if int_lt position to then to else position)

abbrev pub moved : ℕ → ℤ → Loaded → Loaded
moved shard to l = record l { positions = slice_set l.positions shard (later_of to (slice_index_or l.positions shard None)) }

abbrev pub matched : ℕ → ℤ → Listening → Listening
matched shard to s = each (λ l. record l { loaded = with_loaded (moved shard to) l.loaded }) s

-- raised at a time
abbrev pub made_current : Loaded → Loaded
made_current l = record l { current = true }

abbrev pub raised_to : ℤ → Listening → Listening
raised_to time s = record (each (λ l. record l { loaded = with_loaded made_current l.loaded }) s) { raised = Some time }
