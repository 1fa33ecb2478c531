-- The events of commits: their times and names, and their order.
use Rattle.std.proofs.Common.{◌≡◌, ℕ, ℤ, ◌<ℤ◌, Bool, true, false, cond, List, [], ◌∷◌, ◌++◌, Option, Some, None, refl, sym, ap, ◌∙◌, subst, arith}
use Rattle.std.specs.Prelude.{IfSome, IsTrue, int_lt}
use Rattle.std.specs.Cmp.{first_so, second_so}
use Rattle.std.specs.FinMap.{is_sorted}
use Rattle.std.specs.FinMap.Entries.{below_all}
use Rattle.std.specs.List.{AllByRecursion, cons_option, filter, filter_map}
use Rattle.std.specs.List.Sorted.{IsStrictlySortedBy}
use Rattle.std.specs.Ordering.{int_cmp, ordering_then}
use Rattle.std.specs.declared.cmp.Ordering.TheVariants.{Less, Equal, Greater}
use Rattle.std.proofs.lemmas.Cmp.{int_cmp_total, tied_itself}
use Rattle.std.proofs.lemmas.Int.{ints}
use Rattle.std.proofs.lemmas.List.{append_assoc}
use Rattle.std.proofs.lemmas.List.Elements.{filter-append}
use Rattle.fs_path.proofs.Orders.{less_is}
use Rattle.fs_path.specs.NameOrder.{name_cmp}
use Rattle.fs_path.specs.Scope.{shard_of}
use Rattle.fs_path.specs.declared.name.DocName.{DocName}
use Rattle.fs_write.specs.Batch.{AreNamed, Bears, Docs, changes_by_name}
use Rattle.fs_write.specs.declared.change.Change.{Change}
use Rattle.fs_write.specs.declared.timed_change.TimedChange.{TimedChange}
use Rattle.fs_history.specs.Brings.{Brings, if_some, of_names}
use Rattle.fs_history.specs.History.{IsRising, whole}
use Rattle.fs_history.specs.declared.batch.Batch.{Batch}
use Rattle.fs_history.proofs.Brought.{rising_front}
use Rattle.fs_match.specs.Event.{event_for}
use Rattle.fs_listen.specs.Listening.{has_shard}
use Rattle.fs_listen.specs.View.{is_listened}
use Rattle.fs_query.specs.declared.target.Target.{Target}
use Rattle.fs_target.specs.Keeps.{event_of, events_of}
use Rattle.fs_target.specs.Staged.{event_cmp}
use Rattle.fs_target.specs.declared.event.TimedEvent.{TimedEvent}
use Rattle.fs_target.proofs.Commits.{IsBetween, changes_between}
use Rattle.fs_target.proofs.Each.{each_append, each_weaker}
use Rattle.fs_listen.proofs.Filters.{filter_all, filter_none}
use Rattle.fs_target.proofs.Shards.{event_in_shard, told_at_change}

pub if_told : (P Q : TimedEvent → Type 0) (o : Option TimedEvent) → ((e : TimedEvent) → P e → Q e) → IfSome o P → IfSome o Q
if_told P Q None through told = tt
if_told P Q (Some e) through told = through e told

pub one_more : (P : TimedEvent → Type 0) (o : Option TimedEvent) (es : List TimedEvent) → IfSome o P → AllByRecursion P es → AllByRecursion P (cons_option o es)
one_more P None es told all = all
one_more P (Some e) es told all = (told, all)

module _ (id : ℕ) (t : Target) where
  abbrev pub of_changes : ℤ → List Change → List TimedEvent
  of_changes time cs = filter_map (event_of id t time) cs

  pub events-append : (cs ds : List TimedChange) → events_of id t (cs ++ ds) ≡ events_of id t cs ++ events_of id t ds
  events-append [] ds = refl
  events-append (c ∷ cs) ds =
      ap (λ es. of_changes c.time c.changes ++ es) (events-append cs ds) ∙ sym (append_assoc (of_changes c.time c.changes) (events_of id t cs) (events_of id t ds))

  -- ---- of one commit

  pub all_of_changes : (P : TimedEvent → Type 0) (time : ℤ) (cs : List Change) → AllByRecursion (λ (c : Change). IfSome (event_of id t time c) P) cs → AllByRecursion P (of_changes time cs)
  all_of_changes P time [] all = tt
  all_of_changes P time (c ∷ cs) all = one_more P (event_of id t time c) (of_changes time cs) all.0 (all_of_changes P time cs all.1)

  told : (time : ℤ) (c : Change) → IfSome (event_of id t time c) (λ (e : TimedEvent). (e.name ≡ c.name) × (e.time ≡ time))
  told time c = told_at_change id time c (event_for (is_listened t) c.before c.after)

  pub at_its_time : (time : ℤ) (cs : List Change) → AllByRecursion (λ (e : TimedEvent). e.time ≡ time) (of_changes time cs)
  at_its_time time cs = all_of_changes (λ e. e.time ≡ time) time cs (each cs) where
    each : (ds : List Change) → AllByRecursion (λ (c : Change). IfSome (event_of id t time c) (λ e. e.time ≡ time)) ds
    each [] = tt
    each (c ∷ ds) = (if_told (λ e. (e.name ≡ c.name) × (e.time ≡ time)) (λ e. e.time ≡ time) (event_of id t time c) (λ e both. both.1) (told time c), each ds)

  -- ---- those of some times

  pub filter-times : (p : ℤ → Bool) (cs : List TimedChange) → filter (λ (e : TimedEvent). p e.time) (events_of id t cs) ≡ events_of id t (filter (λ (c : TimedChange). p c.time) cs)
  filter-times p [] = refl
  filter-times p (c ∷ cs) =
      filter-append (λ (e : TimedEvent). p e.time) (of_changes c.time c.changes) (events_of id t cs)
      ∙ ap (λ es. filter (λ (e : TimedEvent). p e.time) (of_changes c.time c.changes) ++ es) (filter-times p cs)
      ∙ by_test (p c.time) refl
    where
      by_test : (passes : Bool) → p c.time ≡ passes
          → filter (λ (e : TimedEvent). p e.time) (of_changes c.time c.changes) ++ events_of id t (filter (λ (d : TimedChange). p d.time) cs)
          ≡ events_of id t (cond passes (c ∷ filter (λ (d : TimedChange). p d.time) cs) (filter (λ (d : TimedChange). p d.time) cs))
      by_test true is =
          ap (λ es. es ++ events_of id t (filter (λ (d : TimedChange). p d.time) cs)) (filter_all (λ (e : TimedEvent). p e.time) (of_changes c.time c.changes)
          (each_weaker (λ (e : TimedEvent). e.time ≡ c.time) (λ (e : TimedEvent). p e.time ≡ true) (λ e at. ap p at ∙ is) (of_changes c.time c.changes) (at_its_time c.time c.changes)))
      by_test false is =
          ap (λ es. es ++ events_of id t (filter (λ (d : TimedChange). p d.time) cs)) (filter_none (λ (e : TimedEvent). p e.time) (of_changes c.time c.changes)
          (each_weaker (λ (e : TimedEvent). e.time ≡ c.time) (λ (e : TimedEvent). p e.time ≡ false) (λ e at. ap p at ∙ is) (of_changes c.time c.changes) (at_its_time c.time c.changes)))

  pub all_times : (P : ℤ → Type 0) (cs : List TimedChange) → AllByRecursion (λ (c : TimedChange). P c.time) cs → AllByRecursion (λ (e : TimedEvent). P e.time) (events_of id t cs)
  all_times P [] all = tt
  all_times P (c ∷ cs) all =
      each_append (λ (e : TimedEvent). P e.time) (of_changes c.time c.changes) (events_of id t cs)
      (each_weaker (λ (e : TimedEvent). e.time ≡ c.time) (λ (e : TimedEvent). P e.time) (λ e at. subst P (sym at) all.0) (of_changes c.time c.changes) (at_its_time c.time c.changes))
      (all_times P cs all.1)

  -- ---- those of some names

  names_next : (p : DocName → Bool) (c : Change) (o : Option TimedEvent) (es fs : List TimedEvent) (passes : Bool) → p c.name ≡ passes → IfSome o (λ (e : TimedEvent). e.name ≡ c.name)
      → filter (λ (e : TimedEvent). p e.name) es ≡ fs
      → filter (λ (e : TimedEvent). p e.name) (cons_option o es) ≡ cond passes (cons_option o fs) fs
  names_next p c None es fs true is at rest = rest
  names_next p c None es fs false is at rest = rest
  names_next p c (Some e) es fs true is at rest =
      ap (λ b. cond b (e ∷ filter (λ (f : TimedEvent). p f.name) es) (filter (λ (f : TimedEvent). p f.name) es)) (ap p at ∙ is) ∙ ap (λ gs. e ∷ gs) rest
  names_next p c (Some e) es fs false is at rest =
      ap (λ b. cond b (e ∷ filter (λ (f : TimedEvent). p f.name) es) (filter (λ (f : TimedEvent). p f.name) es)) (ap p at ∙ is) ∙ rest

  filter-changes : (p : DocName → Bool) (time : ℤ) (cs : List Change) → filter (λ (e : TimedEvent). p e.name) (of_changes time cs) ≡ of_changes time (filter (λ (c : Change). p c.name) cs)
  filter-changes p time [] = refl
  filter-changes p time (c ∷ cs) =
      names_next p c (event_of id t time c) (of_changes time cs) (of_changes time (filter (λ (d : Change). p d.name) cs)) (p c.name) refl
      (if_told (λ e. (e.name ≡ c.name) × (e.time ≡ time)) (λ e. e.name ≡ c.name) (event_of id t time c) (λ e both. both.0) (told time c)) (filter-changes p time cs)
      ∙ by_test (p c.name)
    where
      by_test : (passes : Bool) → cond passes (cons_option (event_of id t time c) (of_changes time (filter (λ (d : Change). p d.name) cs))) (of_changes time (filter (λ (d : Change). p d.name) cs))
          ≡ of_changes time (cond passes (c ∷ filter (λ (d : Change). p d.name) cs) (filter (λ (d : Change). p d.name) cs))
      by_test true = refl
      by_test false = refl

  one_commit : (time : ℤ) (number : ℕ) (cs : List Change) (commits : List TimedChange) → events_of id t (if_some time number cs commits) ≡ of_changes time cs ++ events_of id t commits
  one_commit time number [] commits = refl
  one_commit time number (c ∷ cs) commits = refl

  pub filter-names : (p : DocName → Bool) (cs : List TimedChange) → filter (λ (e : TimedEvent). p e.name) (events_of id t cs) ≡ events_of id t (of_names p cs)
  filter-names p [] = refl
  filter-names p (c ∷ cs) =
      filter-append (λ (e : TimedEvent). p e.name) (of_changes c.time c.changes) (events_of id t cs)
      ∙ (λ i. filter-changes p c.time c.changes i ++ filter-names p cs i)
      ∙ sym (one_commit c.time c.id (filter (λ (d : Change). p d.name) c.changes) (of_names p cs))

  -- ---- in order

  by_names : (e f : TimedEvent) (c d : Change) (time : ℤ) → (e.name ≡ c.name) × (e.time ≡ time) → (f.name ≡ d.name) × (f.time ≡ time) → name_cmp c.name d.name ≡ Less → event_cmp e f ≡ Less
  by_names e f c d time one other less =
      (λ i. ordering_then (int_cmp (one.1 i) (other.1 i)) (name_cmp (one.0 i) (other.0 i)))
      ∙ ap (λ o. ordering_then o (name_cmp c.name d.name)) (tied_itself int_cmp_total time) ∙ less

  below_rest : (time : ℤ) (c : Change) (e : TimedEvent) (ds : List Change) → (e.name ≡ c.name) × (e.time ≡ time) → IsTrue (below_all name_cmp c.name (changes_by_name ds))
      → AllByRecursion (λ f. event_cmp e f ≡ Less) (of_changes time ds)
  below_rest time c e [] at below = tt
  below_rest time c e (d ∷ ds) at below =
      one_more (λ f. event_cmp e f ≡ Less) (event_of id t time d) (of_changes time ds)
      (if_told (λ f. (f.name ≡ d.name) × (f.time ≡ time)) (λ f. event_cmp e f ≡ Less) (event_of id t time d) (λ f both. by_names e f c d time at both (less_is _ (first_so _ _ below))) (told time d))
      (below_rest time c e ds at (second_so _ _ below))

  sorted_next : (time : ℤ) (c : Change) (o : Option TimedEvent) (ds : List Change) → IfSome o (λ (e : TimedEvent). (e.name ≡ c.name) × (e.time ≡ time)) → IsTrue (below_all name_cmp c.name (changes_by_name ds))
      → IsStrictlySortedBy event_cmp (of_changes time ds) → IsStrictlySortedBy event_cmp (cons_option o (of_changes time ds))
  unfolding IsStrictlySortedBy
  sorted_next time c None ds at below rest = rest
  sorted_next time c (Some e) ds at below rest = (below_rest time c e ds at below, rest)

  sorted_changes : (time : ℤ) (cs : List Change) → IsTrue (is_sorted name_cmp (changes_by_name cs)) → IsStrictlySortedBy event_cmp (of_changes time cs)
  unfolding IsStrictlySortedBy
  sorted_changes time [] rise = tt
  sorted_changes time (c ∷ cs) rise = sorted_next time c (event_of id t time c) cs (told time c) (first_so _ _ rise) (sorted_changes time cs (second_so _ _ rise))

  sorted_append : (es fs : List TimedEvent) → IsStrictlySortedBy event_cmp es → IsStrictlySortedBy event_cmp fs → AllByRecursion (λ e. AllByRecursion (λ f. event_cmp e f ≡ Less) fs) es
      → IsStrictlySortedBy event_cmp (es ++ fs)
  unfolding IsStrictlySortedBy
  sorted_append [] fs rise rises less = rises
  sorted_append (e ∷ es) fs rise rises less = (each_append (λ f. event_cmp e f ≡ Less) es fs rise.0 less.0, sorted_append es fs rise.1 rises less.1)

  before_later : (e f : TimedEvent) → e.time <ℤ f.time → event_cmp e f ≡ Less
  before_later e f less = ap (λ b. ordering_then (cond b Less (cond (int_lt f.time e.time) Greater Equal)) (name_cmp e.name f.name)) (is_before e.time f.time less) where
    is_before : (a b : ℤ) → a <ℤ b → int_lt a b ≡ true
    is_before a b h = grind (arith, ints)

  pub later_commits : (b : Batch) (g : List Batch) (cs : List TimedChange) (k : List Batch) → Brings (b ∷ g) cs k → IsRising k → AllByRecursion (λ (c : TimedChange). b.time <ℤ c.time) cs
  later_commits b g [] k brings rise = tt
  later_commits b g (c ∷ cs) k brings rise =
      let next : IsRising (brings.0 ∷ b ∷ g) = rising_front (brings.0 ∷ b ∷ g) cs k brings.2 rise in
      let up : b.time <ℤ brings.0.time = next.0 in
      let same : brings.0.time ≡ c.time = brings.1.time in
      (subst (λ u. b.time <ℤ u) same up, each_weaker (λ (d : TimedChange). brings.0.time <ℤ d.time) (λ (d : TimedChange). b.time <ℤ d.time) (λ d less. both_above b.time brings.0.time d.time up less) cs (later_commits brings.0 (b ∷ g) cs k brings.2 rise))
    where
      both_above : (u v w : ℤ) → u <ℤ v → v <ℤ w → u <ℤ w
      both_above u v w first second = omega (arith, ints)

  pub events_sorted : (g : List Batch) (cs : List TimedChange) (k : List Batch) → Brings g cs k → IsRising k → IsStrictlySortedBy event_cmp (events_of id t cs)
  unfolding IsStrictlySortedBy
  events_sorted g [] k brings rise = tt
  events_sorted g (c ∷ cs) k brings rise =
      let at : brings.0.time ≡ c.time = brings.1.time in
      let later = all_times (λ time. c.time <ℤ time) cs (subst (λ u. AllByRecursion (λ (d : TimedChange). u <ℤ d.time) cs) at (later_commits brings.0 g cs k brings.2 rise)) in
      sorted_append (of_changes c.time c.changes) (events_of id t cs) (sorted_changes c.time c.changes brings.1.changes.rise) (events_sorted (brings.0 ∷ g) cs k brings.2 rise)
      (each_weaker (λ (e : TimedEvent). e.time ≡ c.time) (λ e. AllByRecursion (λ f. event_cmp e f ≡ Less) (events_of id t cs))
      (λ e is. each_weaker (λ (f : TimedEvent). c.time <ℤ f.time) (λ f. event_cmp e f ≡ Less) (λ f less. before_later e f (subst (λ u. u <ℤ f.time) (sym is) less)) (events_of id t cs) later)
      (of_changes c.time c.changes) (at_its_time c.time c.changes))

  -- ---- in the shards of the target

  module _ (shards : ℕ) (named : (g : List Batch) → IsRising g → AreNamed (whole g)) where
    abbrev IsInShard : TimedEvent → Type 0
    IsInShard e = has_shard shards t (shard_of shards e.name) ≡ true

    one_in_shard : (before after : Docs) (time : ℤ) (c : Change) → AreNamed before → AreNamed after → IsBetween before after c → IfSome (event_of id t time c) IsInShard
    one_in_shard before after time c first second is =
        both (event_of id t time c) (told time c)
        (event_in_shard shards id t time c (subst (λ o. Bears o c.name) (sym is.0) (first c.name)) (subst (λ o. Bears o c.name) (sym is.1) (second c.name)))
      where
        both : (o : Option TimedEvent) → IfSome o (λ (e : TimedEvent). (e.name ≡ c.name) × (e.time ≡ time)) → IfSome o (λ _. has_shard shards t (shard_of shards c.name) ≡ true) → IfSome o IsInShard
        both None at in_shard = tt
        both (Some e) at in_shard = subst (λ n. has_shard shards t (shard_of shards n) ≡ true) (sym at.0) in_shard

    pub events_in_shards : (g : List Batch) (cs : List TimedChange) (k : List Batch) → Brings g cs k → IsRising k → AllByRecursion IsInShard (events_of id t cs)
    events_in_shards g [] k brings rise = tt
    events_in_shards g (c ∷ cs) k brings rise =
        let next : IsRising (brings.0 ∷ g) = rising_front (brings.0 ∷ g) cs k brings.2 rise in
        each_append IsInShard (of_changes c.time c.changes) (events_of id t cs)
        (all_of_changes IsInShard c.time c.changes (each_weaker (IsBetween (whole g) (whole (brings.0 ∷ g))) (λ (d : Change). IfSome (event_of id t c.time d) IsInShard)
        (λ d is. one_in_shard (whole g) (whole (brings.0 ∷ g)) c.time d (named g next.1) (named (brings.0 ∷ g) next) is) c.changes (changes_between (whole g) (whole (brings.0 ∷ g)) c.changes brings.1.changes)))
        (events_in_shards (brings.0 ∷ g) cs k brings.2 rise)
