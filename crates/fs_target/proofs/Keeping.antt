-- What is kept of one target, raised to a time.
use Rattle.std.proofs.Common.{◌≡◌, ℕ, ℤ, ◌≤ℤ◌, Bool, true, false, ◌&&◌, List, [], Option, Some, None, refl, ap, ◌∙◌, subst}
use Rattle.std.specs.Prelude.{IfSome, if◌then◌else◌, int_le, int_lt, slice_index_or}
use Rattle.std.specs.List.{AllByRecursion, filter}
use Rattle.fs_path.specs.Scope.{AreShards, shard_of}
use Rattle.fs_write.specs.Batch.{AreNamed}
use Rattle.fs_write.specs.declared.timed_change.TimedChange.{TimedChange}
use Rattle.fs_query.specs.Laws.{AnswersFit, SomeAnswer}
use Rattle.fs_history.specs.Brings.{Brings, between}
use Rattle.fs_history.specs.History.{IsRising, at, whole}
use Rattle.fs_history.specs.declared.batch.Batch.{Batch}
use Rattle.fs_history.proofs.Brought.{brings_between}
use Rattle.fs_match.specs.Followed.{docs_fitting}
use Rattle.fs_match.specs.Laws.{FittingByName, MapsFollow}
use Rattle.fs_listen.specs.Listening.{Loaded, has_shard, made_current}
use Rattle.fs_listen.specs.View.{is_listened, view}
use Rattle.fs_query.specs.declared.target.Target.{Target}
use Rattle.fs_target.specs.Keeps.{KeepsOne, events_of, is_staged}
use Rattle.fs_target.specs.Kept.{Kept, docs_at, kept_at, shown_of}
use Rattle.fs_target.specs.Staged.{behind, gone_over, up_to}
use Rattle.fs_target.specs.declared.event.TimedEvent.{TimedEvent}
use Rattle.fs_target.proofs.CommitEvents.{events_in_shards, filter-times}
use Rattle.fs_target.proofs.Each.{each_both, each_of, each_weaker}
use Rattle.fs_listen.proofs.Filters.{filter_alike, filter_twice}
use Rattle.fs_target.proofs.Gone.{docs_then}
use Rattle.fs_target.proofs.Shards.{shard_within}
use Rattle.fs_target.proofs.Shown.{shown_is_view}
use Rattle.fs_target.proofs.Times.{at_index, behind_later, told_up_to}

-- the time isn't below what the target is at, and the target was told up to it
pub record CanGo (time : ℤ) (raised : Option ℤ) (loaded : Loaded) : Type 0 where
  pub raise : IfSome raised (λ t. t ≤ℤ time)
  pub load : loaded.time ≤ℤ time
  pub told : AllByRecursion (λ (o : Option ℤ). IfSome o (λ p. time ≤ℤ p)) loaded.positions

base_before : (current : Bool) (raised : Option ℤ) (load base time : ℤ) → (if current then raised else Some load) ≡ Some base → IfSome raised (λ t. t ≤ℤ time) → load ≤ℤ time → base ≤ℤ time
base_before true raised load base time is last low = subst (λ (o : Option ℤ). IfSome o (λ t. t ≤ℤ time)) is last
base_before false raised load base time is last low = let one : load ≡ base = cc in subst (λ t. t ≤ℤ time) one low

within_then : (base time known : ℤ) (o : Option ℤ) → IfSome o (λ p. time ≤ℤ p) → IfSome o (λ p. (base ≤ℤ p) × (p ≤ℤ known)) → IfSome o (λ p. (time ≤ℤ p) × (p ≤ℤ known))
within_then base time known None low was = tt
within_then base time known (Some p) low was = (low, was.1)

module _ (maps : MapsFollow) (some_answer : SomeAnswer) (answers_fit : AnswersFit) (by_fitting : FittingByName) (own_names : (h : List Batch) (t : ℤ) → AreNamed (at h t)) (named : (g : List Batch) → IsRising g → AreNamed (whole g))
    (h : List Batch) (commits : List TimedChange) (brought : Brings [] commits h) (rising : IsRising h) (known : ℤ) (shards : ℕ) (are : AreShards shards) (raised : Option ℤ)
    (id : ℕ) (target : Target) (token : Option ℤ) (loaded : Loaded) (kept : Kept) (keeps : KeepsOne h commits known shards raised id target token loaded kept) (time : ℤ) (go : CanGo time raised loaded) where
  abbrev events : List TimedEvent
  events = events_of id target commits

  order : keeps.base ≤ℤ time
  order = base_before loaded.current raised loaded.time keeps.base time keeps.is_base go.raise go.load

  -- it was told each of its events up to the time
  told_each : (e : TimedEvent) → has_shard shards target (shard_of shards e.name) ≡ true
      → (is_staged shards keeps.base loaded.positions e && int_le e.time time) ≡ (int_lt keeps.base e.time && int_le e.time time)
  told_each e its =
      told_up_to (int_lt keeps.base e.time) (slice_index_or loaded.positions (shard_of shards e.name) None) e.time time
      (keeps.there (shard_of shards e.name) (shard_within shards e.name are) its)
      (at_index (λ p. time ≤ℤ p) loaded.positions (shard_of shards e.name) go.told)

  staged_up_to : up_to time kept.staged ≡ events_of id target (between keeps.base time commits)
  staged_up_to =
      ap (filter (λ (e : TimedEvent). int_le e.time time)) keeps.staged
      ∙ filter_twice (λ (e : TimedEvent). int_le e.time time) (is_staged shards keeps.base loaded.positions) events
      ∙ filter_alike (λ (e : TimedEvent). is_staged shards keeps.base loaded.positions e && int_le e.time time) (λ (e : TimedEvent). int_lt keeps.base e.time && int_le e.time time) events
      (each_weaker (λ (e : TimedEvent). has_shard shards target (shard_of shards e.name) ≡ true)
      (λ (e : TimedEvent). (is_staged shards keeps.base loaded.positions e && int_le e.time time) ≡ (int_lt keeps.base e.time && int_le e.time time)) told_each events
      (events_in_shards id target shards named [] commits h brought rising))
      ∙ filter-times id target (λ t. int_lt keeps.base t && int_le t time) commits

  pub docs_there : docs_at time kept ≡ docs_fitting (is_listened target) (at h time)
  docs_there =
      ap (λ es. gone_over es kept.docs) staged_up_to
      ∙ docs_then id target maps h keeps.base time (between keeps.base time commits) kept.docs (brings_between [] commits h keeps.base time brought rising tt order) keeps.docs

  pub shown_there : shown_of target (docs_at time kept) ≡ view target (at h time)
  shown_there = ap (shown_of target) docs_there ∙ shown_is_view some_answer answers_fit by_fitting (at h time) (own_names h time) target

  staged_behind : behind time kept.staged ≡ filter (is_staged shards time loaded.positions) events
  staged_behind =
      ap (filter (λ (e : TimedEvent). int_lt time e.time)) keeps.staged
      ∙ filter_twice (λ (e : TimedEvent). int_lt time e.time) (is_staged shards keeps.base loaded.positions) events
      ∙ filter_alike (λ (e : TimedEvent). is_staged shards keeps.base loaded.positions e && int_lt time e.time) (is_staged shards time loaded.positions) events
      (each_of (λ (e : TimedEvent). (is_staged shards keeps.base loaded.positions e && int_lt time e.time) ≡ is_staged shards time loaded.positions e)
      (λ e. behind_later keeps.base time e.time _ order) events)

  pub keeps_then : time ≤ℤ known → KeepsOne h commits known shards (Some time) id target token (made_current loaded) (kept_at time target kept)
  keeps_then before = record {
    base = time;
    is_base = refl;
    before = before;
    sent = shown_there;
    docs = docs_there;
    staged = staged_behind;
    there = keeps.there;
    within = each_weaker (λ (o : Option ℤ). IfSome o (λ p. time ≤ℤ p) × IfSome o (λ p. (keeps.base ≤ℤ p) × (p ≤ℤ known))) (λ (o : Option ℤ). IfSome o (λ p. (time ≤ℤ p) × (p ≤ℤ known)))
        (λ o both. within_then keeps.base time known o both.0 both.1) loaded.positions
        (each_both (λ (o : Option ℤ). IfSome o (λ p. time ≤ℤ p)) (λ (o : Option ℤ). IfSome o (λ p. (keeps.base ≤ℤ p) × (p ≤ℤ known))) loaded.positions go.told keeps.within);
  }
