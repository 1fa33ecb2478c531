-- What is kept of targets, as the events of a shard are fed.
use Rattle.std.proofs.Common.{◌≡◌, ℕ, ℤ, ◌≤ℤ◌, Bool, ◌&&◌, ◌||◌, false, List, [], Option, Some, None, refl, sym, ap, ◌∙◌, subst}
use Rattle.std.specs.Prelude.{IfSome, int_le, int_lt, slice_index_or}
use Rattle.std.specs.FinMap.{get}
use Rattle.std.specs.List.{filter}
use Rattle.std.specs.Option.{option_map}
use Rattle.fs_path.specs.Scope.{in_shard, shard_of}
use Rattle.fs_write.specs.declared.timed_change.TimedChange.{TimedChange}
use Rattle.fs_history.specs.Brings.{Brings, between, of_names, until}
use Rattle.fs_history.specs.History.{IsRising}
use Rattle.fs_history.specs.declared.batch.Batch.{Batch}
use Rattle.fs_history.proofs.Brought.{brings_between}
use Rattle.fs_listen.specs.Listening.{Listened, Loaded, moved, with_loaded}
use Rattle.fs_query.specs.declared.target.Target.{Target}
use Rattle.fs_listen.proofs.Targets.{from_each, get_each}
use Rattle.fs_target.specs.Held.{Held, events_behind, fed, kept_fed, position_in, position_of}
use Rattle.fs_target.specs.Keeps.{Keeps, KeepsOf, KeepsOne, events_of, is_staged}
use Rattle.fs_target.specs.Kept.{Kept}
use Rattle.fs_target.specs.Laws.{AreEventsIn, FeedingKeeps}
use Rattle.fs_target.specs.Staged.{put_events}
use Rattle.fs_target.specs.declared.event.TimedEvent.{TimedEvent}
use Rattle.fs_target.proofs.CommitEvents.{events_sorted, filter-names, filter-times}
use Rattle.fs_target.proofs.Commits.{same_commits}
use Rattle.fs_target.proofs.Each.{each_of}
use Rattle.fs_listen.proofs.Filters.{filter_alike, filter_twice}
use Rattle.fs_target.proofs.KeptMaps.{get-each_kept}
use Rattle.fs_target.proofs.Moving.{is_new, moved_in, moved_some, moved_within, none_moves, not_both, told_then}
use Rattle.fs_target.proofs.Putting.{put_filters}
use Rattle.fs_target.proofs.Times.{at_index}

module _ (h : List Batch) (commits : List TimedChange) (brought : Brings [] commits h) (rising : IsRising h) (known : ℤ) (shards shard : ℕ) (es : List TimedEvent) (to : ℤ) where
  abbrev AreFed : ℕ → Target → ℤ → Type 0
  AreFed id target position = AreEventsIn h shards shard to es id target position

  -- ---- the events

  -- those behind a position are those of all that are in the shard, and behind it up to the time
  module _ (id : ℕ) (target : Target) (position : ℤ) (are : AreFed id target position) where
    abbrev of_target : List TimedEvent
    of_target = events_of id target commits

    abbrev is_behind : TimedEvent → Bool
    is_behind e = int_lt position e.time

    abbrev is_there : TimedEvent → Bool
    is_there e = in_shard shards shard e.name

    abbrev is_between : TimedEvent → Bool
    is_between e = int_lt are.from e.time && int_le e.time to

    same : are.changed.commits ≡ between are.from to commits
    same =
        same_commits (until h are.from) are.changed.commits (between are.from to commits) (until h to) are.changed.brought
        (brings_between [] commits h are.from to brought rising tt are.order)

    fed_events : events_behind id (Some position) es ≡ filter (λ (e : TimedEvent). is_new shard are.from position to (shard_of shards e.name) e.time) of_target
    fed_events =
        are.told
        ∙ ap (filter is_behind)
        (ap (events_of id target) (are.changed.told ∙ ap (of_names (in_shard shards shard)) same) ∙ sym (filter-names id target (in_shard shards shard) (between are.from to commits))
        ∙ ap (filter is_there) (sym (filter-times id target (λ t. int_lt are.from t && int_le t to) commits)) ∙ filter_twice is_there is_between of_target)
        ∙ filter_twice is_behind (λ e. is_between e && is_there e) of_target

  -- ---- one target

  module _ (raised : Option ℤ) (by : to ≤ℤ known) (id : ℕ) (target : Target) (token : Option ℤ) where
    module _ (loaded : Loaded) (kept : Kept) (keeps : KeepsOne h commits known shards raised id target token loaded kept) where
      abbrev events : List TimedEvent
      events = events_of id target commits

      abbrev staged_then : List TimedEvent
      staged_then = filter (is_staged shards keeps.base (moved_in to shard loaded.positions)) events

      staged_more : (position : ℤ) → slice_index_or loaded.positions shard None ≡ Some position → AreFed id target position
          → put_events (events_behind id (Some position) es) kept.staged ≡ staged_then
      staged_more position at are =
          let order = (subst (λ (o : Option ℤ). IfSome o (λ p. (keeps.base ≤ℤ p) × (p ≤ℤ known))) at (at_index (λ p. (keeps.base ≤ℤ p) × (p ≤ℤ known)) loaded.positions shard keeps.within)).0 in
          let was = is_staged shards keeps.base loaded.positions in
          let new = λ (e : TimedEvent). is_new shard are.from position to (shard_of shards e.name) e.time in
          (λ i. put_events (fed_events id target position are i) (keeps.staged i))
          ∙ put_filters was new events (events_sorted id target [] commits h brought rising)
          (each_of (λ (e : TimedEvent). (was e && new e) ≡ false) (λ e. not_both shard are.from position to keeps.base are.low order loaded.positions at (shard_of shards e.name) e.time) events)
          ∙ filter_alike (λ (e : TimedEvent). was e || new e) (is_staged shards keeps.base (moved_in to shard loaded.positions)) events
          (each_of (λ (e : TimedEvent). (was e || new e) ≡ is_staged shards keeps.base (moved_in to shard loaded.positions) e)
          (λ e. told_then shard are.from position to keeps.base are.low order loaded.positions at (shard_of shards e.name) e.time) events)

      staged_fed : (o : Option ℤ) → slice_index_or loaded.positions shard None ≡ o → ((position : ℤ) → o ≡ Some position → AreFed id target position)
          → put_events (events_behind id o es) kept.staged ≡ staged_then
      staged_fed None at are = keeps.staged ∙ ap (λ ps. filter (is_staged shards keeps.base ps) events) (sym (none_moves to shard loaded.positions at))
      staged_fed (Some position) at are = staged_more position at (are position refl)

      one_fed : ((position : ℤ) → slice_index_or loaded.positions shard None ≡ Some position → AreFed id target position)
          → KeepsOne h commits known shards raised id target token (moved shard to loaded)
          (record kept { staged = put_events (events_behind id (slice_index_or loaded.positions shard None) es) kept.staged })
      one_fed are = record {
        base = keeps.base;
        is_base = keeps.is_base;
        before = keeps.before;
        sent = keeps.sent;
        docs = keeps.docs;
        staged = staged_fed (slice_index_or loaded.positions shard None) refl are;
        there = λ k within its. moved_some to shard loaded.positions k ∙ keeps.there k within its;
        within = moved_within to keeps.base known by shard loaded.positions keeps.within;
      }

    of_fed : (o : Option Loaded) (kept : Option (Option Kept)) → ((position : ℤ) → position_of shard o ≡ Some position → AreFed id target position)
        → KeepsOf h commits known shards raised id target token o kept
        → KeepsOf h commits known shards raised id target token (with_loaded (moved shard to) o) (option_map (kept_fed (events_behind id (position_of shard o) es)) kept)
    of_fed None kept are keeps = ap (option_map (kept_fed [])) keeps
    of_fed (Some loaded) kept are (k, is, one) = (
      record k { staged = put_events (events_behind id (slice_index_or loaded.positions shard None) es) k.staged },
      ap (option_map (kept_fed (events_behind id (slice_index_or loaded.positions shard None) es))) is,
      one_fed loaded k one are,
    )

-- ---- all of them

module _ (h : List Batch) (known : ℤ) (held : Held) (shard : ℕ) (es : List TimedEvent) (to : ℤ) (keeps : Keeps h known held) (by : to ≤ℤ known)
    (are : (id : ℕ) (l : Listened) (position : ℤ) → get held.listening.targets id ≡ Some l → position_in shard (Some l) ≡ Some position → AreEventsIn h held.shards shard to es id l.target position) where
  abbrev change : Listened → Listened
  change l = record l { loaded = with_loaded (moved shard to) l.loaded }

  abbrev WasThere : ℕ → Listened → Type 0
  WasThere id l = (k : Listened) × (get held.listening.targets id ≡ Some k) × (change k ≡ l)

  was : (id : ℕ) (l : Listened) → get (fed shard es to held).listening.targets id ≡ Some l → WasThere id l
  was id l found = from_each change (get held.listening.targets id) l (sym (get_each change held.listening id) ∙ found)

  token_then : (id : ℕ) (l : Listened) → WasThere id l → IfSome l.token (λ t. t ≤ℤ known)
  token_then id l (k, found, made) = subst (λ (m : Listened). IfSome m.token (λ t. t ≤ℤ known)) made (keeps.tokens id k found)

  kept_then : (id : ℕ) (l : Listened) → get held.listening.targets id ≡ Some l
      → get (fed shard es to held).kept id ≡ option_map (kept_fed (events_behind id (position_in shard (Some l)) es)) (get held.kept id)
  kept_then id l found =
      get-each_kept (λ k o. kept_fed (events_behind k (position_in shard (get held.listening.targets k)) es) o) held.kept id
      ∙ ap (λ m. option_map (kept_fed (events_behind id (position_in shard m) es)) (get held.kept id)) found

  one_then : (id : ℕ) (l : Listened) → WasThere id l → KeepsOf h keeps.commits known held.shards held.listening.raised id l.target l.token l.loaded (get (fed shard es to held).kept id)
  one_then id l (k, found, made) =
      subst (λ (m : Listened). KeepsOf h keeps.commits known held.shards held.listening.raised id m.target m.token m.loaded (get (fed shard es to held).kept id)) made
      (subst (λ (o : Option (Option Kept)). KeepsOf h keeps.commits known held.shards held.listening.raised id k.target k.token (with_loaded (moved shard to) k.loaded) o) (sym (kept_then id k found))
      (of_fed h keeps.commits keeps.brought keeps.rising known held.shards shard es to held.listening.raised by id k.target k.token k.loaded (get held.kept id)
      (λ position at. are id k position found at) (keeps.targets id k found)))

  all_fed : Keeps h known (fed shard es to held)
  all_fed = record {
    commits = keeps.commits;
    brought = keeps.brought;
    rising = keeps.rising;
    shards = keeps.shards;
    raised = keeps.raised;
    tokens = λ id l found. token_then id l (was id l found);
    targets = λ id l found. one_then id l (was id l found);
  }

pub feeding_keeps : FeedingKeeps
feeding_keeps h known held shard es to keeps by are = all_fed h known held shard es to keeps by are
