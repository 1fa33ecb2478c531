-- What commits are to the targets of all sessions is, of each number, what they are to its target.
use Rattle.std.proofs.Common.{◌≡◌, ℕ, ℤ, ◌≤ℤ◌, ◌<ℤ◌, Bool, true, false, cond, List, [], ◌∷◌, ◌++◌, Option, Some, None, refl, sym, ap, ◌∙◌, subst, arith}
use Rattle.std.specs.Prelude.{IfSome, IsTrue, ◌==◌, ◌≢◌}
use Rattle.std.specs.Cmp.{second_so}
use Rattle.std.specs.FinMap.{entries, entries_sorted, find, get, get-entries, is_sorted}
use Rattle.std.specs.FinMap.Entries.{below_all}
use Rattle.std.specs.List.{AllByRecursion, flat_map}
use Rattle.std.specs.Ordering.{eq_by_cmp, nat_cmp}
use Rattle.std.proofs.lemmas.Bool.{eqb-true}
use Rattle.std.proofs.lemmas.Int.{ints}
use Rattle.std.proofs.lemmas.List.{append-nil, append_assoc}
use Rattle.fs_path.proofs.Bools.{to_true}
use Rattle.fs_pairs.proofs.Entries.{behind_first, first_found, none_again, number_is, number_itself}
use Rattle.fs_path.specs.Scope.{in_shard}
use Rattle.fs_history.specs.Brings.{AreChangesIn}
use Rattle.fs_history.specs.declared.batch.Batch.{Batch}
use Rattle.fs_listen.specs.Listening.{Listened}
use Rattle.fs_query.specs.declared.target.Target.{Target}
use Rattle.fs_target.specs.Held.{position_in}
use Rattle.fs_target.specs.declared.event.TimedEvent.{TimedEvent}
use Rattle.fs_write.specs.declared.timed_change.TimedChange.{TimedChange}
use Rattle.fs_machine.specs.Listeners.{Listener}
use Rattle.fs_machine.specs.ListenersHold.{AllDiffer, NumbersDiffer, NumbersHold}
use Rattle.fs_server.specs.Events.{AreEventsOf, events_for}
use Rattle.fs_sessions.specs.Heard.{Heard, listener_of, listeners_of}
use Rattle.fs_sessions.specs.Matched.{ear_events, events_from, events_to, least_in, numbered_events}
use Rattle.fs_server.proofs.EventsOf.{for_both, none_for, target_own, target_same}
use Rattle.fs_server.proofs.Positions.{IsFrom, IsLeast, are_least}

-- ---- of one session

module _ (shard : ℕ) (cs : List TimedChange) (h : Heard) where
  own_from : (n : ℕ) (t : Target) (o : Option ℤ) → AllByRecursion (λ (x : TimedEvent). x.target ≡ n) (events_from n t o cs)
  own_from n t None = tt
  own_from n t (Some from) = target_own n t from cs

  own_to : (n : ℕ) (o : Option Listened) → AllByRecursion (λ (x : TimedEvent). x.target ≡ n) (events_to shard n cs o)
  own_to n None = tt
  own_to n (Some l) = own_from n l.target (position_in shard (Some l))

  module _ (number : ℕ) (from : ℤ) where
    abbrev All : List (ℕ × ℕ) → List TimedEvent
    All es = flat_map (numbered_events shard cs h) es

    other_entry : (e : ℕ × ℕ) → (e.1 ≡ number → ⊥) → events_for number from (numbered_events shard cs h e) ≡ []
    other_entry e other = none_for number from e.1 (by_test (e.1 == number) refl) (numbered_events shard cs h e) (own_to e.1 (get h.held.listening.targets e.0)) where
      by_test : (same : Bool) → (e.1 == number) ≡ same → (e.1 == number) ≡ false
      by_test false is = is
      by_test true is = absurd (other (eqb-true e.1 number is))

    none_in : (es : List (ℕ × ℕ)) → IsTrue (is_sorted nat_cmp es) → ((id : ℕ) → find nat_cmp id es ≢ Some number) → events_for number from (All es) ≡ []
    none_in [] rise none = refl
    none_in (e ∷ es) rise none =
        let here = other_entry e (λ is. none e.0 (first_found e es rise ∙ ap Some is)) in
        let rest = none_in es (second_so (below_all nat_cmp e.0 es) _ rise) (λ id found. none id (behind_first e es rise id number found)) in
        for_both number from (numbered_events shard cs h e) (All es) ∙ (λ i. here i ++ rest i)

    one_in : (id : ℕ) (es : List (ℕ × ℕ)) → IsTrue (is_sorted nat_cmp es) → find nat_cmp id es ≡ Some number → ((k : ℕ) → find nat_cmp k es ≡ Some number → k ≡ id)
        → events_for number from (All es) ≡ events_for number from (numbered_events shard cs h (id, number))
    one_in id [] rise found one = absurd (cc)
    one_in id (e ∷ es) rise found one =
        by_test (λ there. one_in id es (second_so (below_all nat_cmp e.0 es) _ rise) there (λ k is. one k (behind_first e es rise k number is))) (eq_by_cmp nat_cmp id e.0) refl
      where
        by_test : (find nat_cmp id es ≡ Some number → events_for number from (All es) ≡ events_for number from (numbered_events shard cs h (id, number)))
            → (same : Bool) → eq_by_cmp nat_cmp id e.0 ≡ same → events_for number from (All (e ∷ es)) ≡ events_for number from (numbered_events shard cs h (id, number))
        by_test again true is =
            let first : Some e.1 ≡ Some number = ap (λ b. cond b (Some e.1) (find nat_cmp id es)) (sym is) ∙ found in
            let value : e.1 ≡ number = cc in
            let key = number_is id e.0 is in
            let none = none_in es (second_so (below_all nat_cmp e.0 es) _ rise) (λ k there.
            let both : None ≡ Some number = sym (none_again e es rise) ∙ ap (λ q. find nat_cmp q es) (sym (one k (behind_first e es rise k number there) ∙ key)) ∙ there in cc) in
            for_both number from (numbered_events shard cs h e) (All es)
            ∙ (λ i. events_for number from (numbered_events shard cs h (sym key i, value i)) ++ none i)
            ∙ append-nil (events_for number from (numbered_events shard cs h (id, number)))
        by_test again false is =
            let here = other_entry e (λ value. let both : true ≡ false = sym (number_itself id) ∙ ap (eq_by_cmp nat_cmp id) (sym (one e.0 (first_found e es rise ∙ ap Some value))) ∙ is in cc) in
            for_both number from (numbered_events shard cs h e) (All es)
            ∙ ap (λ xs. xs ++ events_for number from (All es)) here
            ∙ again (ap (λ b. cond b (Some e.1) (find nat_cmp id es)) (sym is) ∙ found)

    -- none is of a number that isn't the session's
    pub ear_none : ((id : ℕ) → get h.numbers id ≢ Some number) → events_for number from (ear_events shard cs h) ≡ []
    ear_none none = none_in (entries h.numbers) (to_true _ (entries_sorted h.numbers)) (λ id found. none id (get-entries h.numbers id ∙ found))

    -- and of one that is, they are its target's
    pub ear_one : (id : ℕ) → get h.numbers id ≡ Some number → ((k : ℕ) → get h.numbers k ≡ Some number → k ≡ id)
        → events_for number from (ear_events shard cs h) ≡ events_for number from (numbered_events shard cs h (id, number))
    ear_one id found one = one_in id (entries h.numbers) (to_true _ (entries_sorted h.numbers)) (sym (get-entries h.numbers id) ∙ found) (λ k there. one k (get-entries h.numbers k ∙ there))

-- ---- of all sessions

module _ (h : List Batch) (shards shard : ℕ) (start to : ℤ) (cs : List TimedChange) (changed : AreChangesIn h (in_shard shards shard) start to cs) (es : List TimedEvent) (given : ℕ) where
  -- no number of a session is among those of events
  abbrev NoneOf : List TimedEvent → Listener → Type 0
  NoneOf before l = (id number : ℕ) (from : ℤ) → get l.numbers id ≡ Some number → events_for number from before ≡ []

  none_later : (l : Heard) (hs : List Heard) → AllByRecursion (NumbersDiffer (listener_of l)) (listeners_of hs) → (id number : ℕ) (from : ℤ) → get l.numbers id ≡ Some number
      → events_for number from (flat_map (ear_events shard cs) hs) ≡ []
  none_later l [] differ id number from own = refl
  none_later l (k ∷ hs) differ id number from own =
      let here = ear_none shard cs k number from (λ other there. differ.0 id other number own there) in
      for_both number from (ear_events shard cs k) (flat_map (ear_events shard cs) hs) ∙ (λ i. here i ++ none_later l hs differ.1 id number from own i)

  none_more : (before : List TimedEvent) (l : Heard) (hs : List Heard) → AllByRecursion (NoneOf before) (listeners_of hs) → AllByRecursion (NumbersDiffer (listener_of l)) (listeners_of hs)
      → AllByRecursion (NoneOf (before ++ ear_events shard cs l)) (listeners_of hs)
  none_more before l [] none differ = tt
  none_more before l (k ∷ hs) none differ = (
    (λ id number from own.
        let here = ear_none shard cs l number from (λ other there. differ.0 other id number there own) in
        for_both number from before (ear_events shard cs l) ∙ (λ i. none.0 id number from own i ++ here i)),
    none_more before l hs none.1 differ.1,
  )

  told_one : (before : List TimedEvent) (l : Heard) (hs : List Heard) → es ≡ before ++ flat_map (ear_events shard cs) (l ∷ hs) → NoneOf before (listener_of l)
      → AllByRecursion (NumbersDiffer (listener_of l)) (listeners_of hs) → NumbersHold given (listener_of l) → IsLeast shard (Some start) l → AreEventsOf h shards shard to es (listener_of l)
  told_one before l hs is none differ holds least id number t from found own position behind = record {
    start = start;
    low = subst (λ o. IfSome o (IsFrom (Some start))) (ap (position_in shard) found ∙ position) (least id number own);
    changes = cs;
    changed = changed;
    told =
        let rest = flat_map (ear_events shard cs) hs in
        let all = ear_events shard cs l ++ rest in
        let one = ear_one shard cs l number from id own (λ k there. holds.one k id number there own) in
        ap (events_for number from) is
        ∙ for_both number from before all
        ∙ ap (λ xs. xs ++ events_for number from all) (none id number from own)
        ∙ for_both number from (ear_events shard cs l) rest
        ∙ (λ i. one i ++ none_later l hs differ id number from own i)
        ∙ append-nil (events_for number from (numbered_events shard cs l (id, number)))
        ∙ ap (λ o. events_for number from (events_to shard number cs o)) found
        ∙ ap (λ o. events_for number from (events_from number t.target o cs)) position
        ∙ target_same number t.target from cs;
  }

  told_all : (before : List TimedEvent) (hs : List Heard) → es ≡ before ++ flat_map (ear_events shard cs) hs → AllByRecursion (NoneOf before) (listeners_of hs)
      → AllDiffer (listeners_of hs) → AllByRecursion (NumbersHold given) (listeners_of hs) → AllByRecursion (IsLeast shard (Some start)) hs → AllByRecursion (AreEventsOf h shards shard to es) (listeners_of hs)
  told_all before [] is none differ holds least = tt
  told_all before (l ∷ hs) is none differ holds least = (
    told_one before l hs is none.0 differ.0 holds.0 least.0,
    told_all (before ++ ear_events shard cs l) hs (is ∙ sym (append_assoc before (ear_events shard cs l) (flat_map (ear_events shard cs) hs)))
        (none_more before l hs none.1 differ.0) differ.1 holds.1 least.1,
  )

  none_before : (ls : List Listener) → AllByRecursion (NoneOf []) ls
  none_before [] = tt
  none_before (l ∷ ls) = ((λ id number from own. refl), none_before ls)

  pub are_told : (hs : List Heard) → es ≡ flat_map (ear_events shard cs) hs → least_in shard hs ≡ Some start → AllDiffer (listeners_of hs) → AllByRecursion (NumbersHold given) (listeners_of hs)
      → AllByRecursion (AreEventsOf h shards shard to es) (listeners_of hs)
  are_told hs is least differ holds =
      told_all [] hs is (none_before (listeners_of hs)) differ holds (subst (λ o. AllByRecursion (IsLeast shard o) hs) least (are_least shard hs))

-- ---- where all were told it

module _ (h : List Batch) (shards shard : ℕ) (to : ℤ) (es : List TimedEvent) where
  not_behind : (o : Option ℤ) (from : ℤ) → ((k : ℤ) → o ≡ Some k → to ≤ℤ k) → IsFrom o from → from <ℤ to → ⊥
  not_behind None from late low behind = absurd low
  not_behind (Some k) from late low behind = let high = late k refl in let first : k ≤ℤ from = low in omega (arith, ints)

  none_told : (o : Option ℤ) → ((k : ℤ) → o ≡ Some k → to ≤ℤ k) → (hs : List Heard) → AllByRecursion (IsLeast shard o) hs → AllByRecursion (AreEventsOf h shards shard to es) (listeners_of hs)
  none_told o late [] least = tt
  none_told o late (l ∷ hs) least = (
    (λ id number t from found own position behind.
        absurd (not_behind o from late (subst (λ x. IfSome x (IsFrom o)) (ap (position_in shard) found ∙ position) (least.0 id number own)) behind)),
    none_told o late hs least.1,
  )

  pub are_none : (hs : List Heard) → ((k : ℤ) → least_in shard hs ≡ Some k → to ≤ℤ k) → AllByRecursion (AreEventsOf h shards shard to es) (listeners_of hs)
  are_none hs late = none_told (least_in shard hs) late hs (are_least shard hs)
