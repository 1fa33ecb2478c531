-- What is kept of targets, while the history grows.
use Rattle.std.proofs.Common.{◌≡◌, ℕ, ℤ, ◌≤ℤ◌, ◌<ℤ◌, Bool, true, false, List, [], ◌∷◌, ◌++◌, Option, Some, None, refl, sym, ap, ◌∙◌, subst, arith}
use Rattle.std.specs.Prelude.{IfSome, if◌then◌else◌, int_lt, slice_index_or}
use Rattle.std.specs.FinMap.{get}
use Rattle.std.specs.List.{AllByRecursion, filter}
use Rattle.std.proofs.lemmas.Int.{ints}
use Rattle.std.proofs.lemmas.List.{append-nil}
use Rattle.std.proofs.lemmas.List.Elements.{filter-append}
use Rattle.fs_time.proofs.Tests.{through}
use Rattle.fs_path.specs.Scope.{shard_of}
use Rattle.fs_write.specs.declared.timed_change.TimedChange.{TimedChange}
use Rattle.fs_history.specs.Brings.{Brings}
use Rattle.fs_history.specs.History.{IsRising, at}
use Rattle.fs_history.specs.Laws.{LaterIsUnseen}
use Rattle.fs_history.specs.declared.batch.Batch.{Batch}
use Rattle.fs_history.proofs.Brought.{brings-append}
use Rattle.fs_match.specs.Followed.{docs_fitting}
use Rattle.fs_listen.specs.Listening.{Loaded}
use Rattle.fs_listen.specs.Raised.{sent_time}
use Rattle.fs_listen.specs.View.{is_listened, view, view_at}
use Rattle.fs_query.specs.declared.target.Target.{Target}
use Rattle.fs_target.specs.Held.{Held}
use Rattle.fs_target.specs.Keeps.{Keeps, KeepsOf, KeepsOne, events_of, is_staged}
use Rattle.fs_target.specs.Kept.{Kept}
use Rattle.fs_target.specs.declared.event.TimedEvent.{TimedEvent}
use Rattle.fs_target.proofs.CommitEvents.{all_times, events-append}
use Rattle.fs_target.proofs.Each.{each_weaker}
use Rattle.fs_listen.proofs.Filters.{filter_none}
use Rattle.fs_target.proofs.Times.{at_index, not_told_yet}

-- ---- times that stay known

some_later : (o : Option ℤ) (s t : ℤ) → s ≤ℤ t → IfSome o (λ u. u ≤ℤ s) → IfSome o (λ u. u ≤ℤ t)
some_later None s t later by = tt
some_later (Some u) s t later by = through u s t by later

sent_known : (raised token : Option ℤ) (loaded : Loaded) (known : ℤ) → IfSome raised (λ t. t ≤ℤ known) → IfSome token (λ t. t ≤ℤ known) → IfSome (sent_time raised token (Some loaded)) (λ t. t ≤ℤ known)
sent_known raised token loaded known last resumed = by_flags loaded.current loaded.reset where
  by_flags : (current reset : Bool) → IfSome (if current then raised else (if reset then None else token)) (λ t. t ≤ℤ known)
  by_flags true reset = last
  by_flags false true = tt
  by_flags false false = resumed

within_later : (base known later : ℤ) (o : Option ℤ) → known ≤ℤ later → IfSome o (λ p. (base ≤ℤ p) × (p ≤ℤ known)) → IfSome o (λ p. (base ≤ℤ p) × (p ≤ℤ later))
within_later base known later None order was = tt
within_later base known later (Some p) order was = (was.0, through p known later was.1 order)

within_by : (base known : ℤ) (o : Option ℤ) → IfSome o (λ p. (base ≤ℤ p) × (p ≤ℤ known)) → IfSome o (λ p. p ≤ℤ known)
within_by base known None was = tt
within_by base known (Some p) was = was.1

-- ---- what was known stays

module _ (unseen : LaterIsUnseen) where
  at_grown : (h : List Batch) (cs : List TimedChange) (k : List Batch) (known t : ℤ) → Brings h cs k → AllByRecursion (λ (c : TimedChange). known <ℤ c.time) cs → t ≤ℤ known → at k t ≡ at h t
  at_grown h [] k known t brings later by = ap (λ g. at g t) brings
  at_grown h (c ∷ cs) k known t brings later by =
      at_grown (brings.0 ∷ h) cs k known t brings.2 later.1 by
      ∙ unseen brings.0 h t (subst (λ u. t <ℤ u) (sym brings.1.time) (up t known c.time by later.0))
    where
      up : (u v w : ℤ) → u ≤ℤ v → v <ℤ w → u <ℤ w
      up u v w low high = omega (arith, ints)

  module _ (h k : List Batch) (more : List TimedChange) (known later : ℤ) (brings : Brings h more k) (above : AllByRecursion (λ (c : TimedChange). known <ℤ c.time) more) (order : known ≤ℤ later) where
    view_stays : (t : Target) (o : Option ℤ) → IfSome o (λ u. u ≤ℤ known) → view_at t k o ≡ view_at t h o
    view_stays t None by = refl
    view_stays t (Some u) by = ap (view t) (at_grown h more k known u brings above by)

    module _ (commits : List TimedChange) (shards : ℕ) (raised : Option ℤ) (id : ℕ) (target : Target) (token : Option ℤ) (last : IfSome raised (λ t. t ≤ℤ known)) (resumed : IfSome token (λ t. t ≤ℤ known)) where
      module _ (loaded : Loaded) (kept : Kept) (keeps : KeepsOne h commits known shards raised id target token loaded kept) where
        -- none of the new events is told yet
        none_staged : filter (is_staged shards keeps.base loaded.positions) (events_of id target more) ≡ []
        none_staged =
            filter_none (is_staged shards keeps.base loaded.positions) (events_of id target more)
            (each_weaker (λ (e : TimedEvent). known <ℤ e.time) (λ (e : TimedEvent). is_staged shards keeps.base loaded.positions e ≡ false)
            (λ e less. not_told_yet (int_lt keeps.base e.time) (slice_index_or loaded.positions (shard_of shards e.name) None) e.time known less
            (at_index (λ p. p ≤ℤ known) loaded.positions (shard_of shards e.name)
            (each_weaker (λ (o : Option ℤ). IfSome o (λ p. (keeps.base ≤ℤ p) × (p ≤ℤ known))) (λ (o : Option ℤ). IfSome o (λ p. p ≤ℤ known)) (λ o was. within_by keeps.base known o was) loaded.positions keeps.within)))
            (events_of id target more) (all_times id target (λ t. known <ℤ t) more above))

        staged_same : filter (is_staged shards keeps.base loaded.positions) (events_of id target (commits ++ more)) ≡ kept.staged
        staged_same =
            ap (filter (is_staged shards keeps.base loaded.positions)) (events-append id target commits more)
            ∙ filter-append (is_staged shards keeps.base loaded.positions) (events_of id target commits) (events_of id target more)
            ∙ ap (λ es. filter (is_staged shards keeps.base loaded.positions) (events_of id target commits) ++ es) none_staged
            ∙ append-nil (filter (is_staged shards keeps.base loaded.positions) (events_of id target commits))
            ∙ sym keeps.staged

        one_grown : KeepsOne k (commits ++ more) later shards raised id target token loaded kept
        one_grown = record {
          base = keeps.base;
          is_base = keeps.is_base;
          before = through keeps.base known later keeps.before order;
          sent = keeps.sent ∙ sym (view_stays target (sent_time raised token (Some loaded)) (sent_known raised token loaded known last resumed));
          docs = keeps.docs ∙ sym (ap (docs_fitting (is_listened target)) (at_grown h more k known keeps.base brings above keeps.before));
          staged = sym staged_same;
          there = keeps.there;
          within = each_weaker (λ (o : Option ℤ). IfSome o (λ p. (keeps.base ≤ℤ p) × (p ≤ℤ known))) (λ (o : Option ℤ). IfSome o (λ p. (keeps.base ≤ℤ p) × (p ≤ℤ later)))
              (λ o was. within_later keeps.base known later o order was) loaded.positions keeps.within;
        }

      of_grown : (o : Option Loaded) (kept : Option (Option Kept)) → KeepsOf h commits known shards raised id target token o kept → KeepsOf k (commits ++ more) later shards raised id target token o kept
      of_grown None kept keeps = keeps
      of_grown (Some loaded) kept keeps = (keeps.0, keeps.1, one_grown loaded keeps.0 keeps.2)

    pub all_grown : (held : Held) → Keeps h known held → IsRising k → Keeps k later held
    all_grown held keeps rising = record {
      commits = keeps.commits ++ more;
      brought = brings-append [] keeps.commits h more k keeps.brought brings;
      rising = rising;
      shards = keeps.shards;
      raised = some_later held.listening.raised known later order keeps.raised;
      tokens = λ id l found. some_later l.token known later order (keeps.tokens id l found);
      targets = λ id l found.
          of_grown keeps.commits held.shards held.listening.raised id l.target l.token keeps.raised (keeps.tokens id l found) l.loaded (get held.kept id) (keeps.targets id l found);
    }
