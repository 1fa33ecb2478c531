-- The laws of targets. Each is shown by a public call.
use Rattle.std.specs.Prelude.{◌≡◌, ℕ, ℤ, ◌<ℤ◌, ◌≤ℤ◌, int_lt, Bool, true, IfSome, List, [], Option, Some, None, if◌then◌else◌, map}
use Rattle.std.specs.FinMap.{get}
use Rattle.std.specs.List.{AllByRecursion, filter}
use Rattle.fs_path.specs.Scope.{AreShards, in_shard}
use Rattle.fs_path.specs.declared.name.DocName.{DocName}
use Rattle.fs_query.specs.declared.listen.ListenMessage.{ListenMessage}
use Rattle.fs_query.specs.declared.listen.ListenMessage.TheVariants as message
use Rattle.fs_value.specs.declared.document.Document.{Document}
use Rattle.fs_write.specs.Batch.{docs_of}
use Rattle.fs_write.specs.declared.timed_change.TimedChange.{TimedChange}
use Rattle.fs_history.specs.Brings.{AreChangesIn, Brings}
use Rattle.fs_history.specs.History.{IsRising, at}
use Rattle.fs_history.specs.declared.batch.Batch.{Batch}
use Rattle.fs_match.specs.Followed.{docs_fitting}
use Rattle.fs_listen.specs.Cuts.{cut, is_ready}
use Rattle.fs_listen.specs.Listening.{Listened}
use Rattle.fs_listen.specs.Raised.{raised, stands_at, views_of}
use Rattle.fs_listen.specs.View.{is_listened, view_at}
use Rattle.fs_listen.specs.declared.cut.Cut.TheVariants.{At}
use Rattle.fs_query.specs.declared.target.Target.{Target}
use Rattle.fs_target.specs.Held.{Held, events_behind, fed, none_held, position_in, raised_at, with_loaded, with_target, without_target}
use Rattle.fs_target.specs.Keeps.{Keeps, events_of}
use Rattle.fs_target.specs.Raise.{kept_told, kept_views}
use Rattle.fs_target.specs.declared.event.TimedEvent.{TimedEvent}

-- ---- what a raise tells

-- the targets can be raised to a time
pub record IsRaise (h : List Batch) (known time : ℤ) (held : Held) : Type 0 where
  pub keeps : Keeps h known held
  pub at_time : cut held.listening ≡ At time
  pub ready : is_ready held.listening ≡ true

-- the views are those over the history
abbrev pub ViewsAreKept : Type 0
ViewsAreKept = (h : List Batch) (known time : ℤ) (held : Held) → IsRaise h known time held → kept_views time held ≡ views_of h time held.listening

-- what was removed from views is told to be deleted where no document stands there
abbrev pub with_deleted : (DocName → Bool) → ListenMessage → ListenMessage
with_deleted stands (message.Removed name time left) = if stands name then message.Removed name time left else message.Deleted name time left
with_deleted stands (message.Deleted name time left) = message.Deleted name time left
with_deleted stands (message.Changed d ids left) = message.Changed d ids left
with_deleted stands (message.Add ids) = message.Add ids
with_deleted stands (message.Remove ids cause) = message.Remove ids cause
with_deleted stands (message.Reset ids) = message.Reset ids
with_deleted stands (message.Current ids time token) = message.Current ids time token
with_deleted stands (message.NoChange time token) = message.NoChange time token

-- and then what is told is what a raise sends over the history
abbrev pub TellsOfHistory : Type 0
TellsOfHistory = (h : List Batch) (known time : ℤ) (held : Held) → IsRaise h known time held
    → map (with_deleted (stands_at h time)) (kept_told time held) ≡ raised h time held.listening

-- ---- what happens to them

abbrev pub NoneKeep : Type 0
NoneKeep = (h : List Batch) (commits : List TimedChange) (known : ℤ) (shards limit : ℕ) → Brings [] commits h → IsRising h → AreShards shards
    → Keeps h known (none_held shards limit)

abbrev pub RaisingKeeps : Type 0
RaisingKeeps = (h : List Batch) (known time : ℤ) (held : Held) → IsRaise h known time held → Keeps h known (raised_at time held)

-- commits behind what is known, up to a later time
abbrev pub GrowthKeeps : Type 0
GrowthKeeps = (h k : List Batch) (commits : List TimedChange) (known later : ℤ) (held : Held) → Keeps h known held
    → Brings h commits k → IsRising k → AllByRecursion (λ (c : TimedChange). known <ℤ c.time) commits → known ≤ℤ later → Keeps k later held

abbrev pub AddingKeeps : Type 0
AddingKeeps = (h : List Batch) (known : ℤ) (held : Held) (id : ℕ) (t : Target) (token : Option ℤ) → Keeps h known held
    → IfSome token (λ time. time ≤ℤ known) → Keeps h known (with_target id t token held)

abbrev pub RemovingKeeps : Type 0
RemovingKeeps = (h : List Batch) (known : ℤ) (held : Held) (id : ℕ) → Keeps h known held → Keeps h known (without_target id held)

-- with the view of what its token resumes, or nothing, and the documents that it listens to at a time
abbrev pub LoadingKeeps : Type 0
LoadingKeeps = (h : List Batch) (known : ℤ) (held : Held) (id : ℕ) (l : Listened) (sent : List Document) (reset : Bool) (docs : List Document) (time : ℤ) → Keeps h known held
    → get held.listening.targets id ≡ Some l → l.loaded ≡ None → time ≤ℤ known
    → docs_of sent ≡ view_at l.target h (if reset then None else l.token) → docs_of docs ≡ docs_fitting (is_listened l.target) (at h time)
    → Keeps h known (with_loaded id sent reset docs time held)

-- events of a target behind its position in a shard are those of what was changed there behind that, up to a time
pub record AreEventsIn (h : List Batch) (shards shard : ℕ) (to : ℤ) (es : List TimedEvent) (id : ℕ) (t : Target) (position : ℤ) : Type 0 where
  -- what was changed there behind a time that isn't above the position
  pub from : ℤ
  pub low : from ≤ℤ position
  pub order : from ≤ℤ to
  pub changes : List TimedChange
  pub changed : AreChangesIn h (in_shard shards shard) from to changes
  pub told : events_behind id (Some position) es ≡ filter (λ (e : TimedEvent). int_lt position e.time) (events_of id t changes)

abbrev pub FeedingKeeps : Type 0
FeedingKeeps = (h : List Batch) (known : ℤ) (held : Held) (shard : ℕ) (es : List TimedEvent) (to : ℤ) → Keeps h known held → to ≤ℤ known
    → ((id : ℕ) (l : Listened) (position : ℤ) → get held.listening.targets id ≡ Some l → position_in shard (Some l) ≡ Some position
    → AreEventsIn h held.shards shard to es id l.target position)
    → Keeps h known (fed shard es to held)
