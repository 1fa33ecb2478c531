-- What commits are to the targets of all sessions is to those that are loaded, and of later times than these were told the shard up to.
use Rattle.std.proofs.Common.{◌≡◌, ◌⊎◌, inl, inr, ℕ, ℤ, ◌<ℤ◌, Bool, true, false, cond, List, [], ◌∷◌, Option, Some, None, refl, sym, ap, ◌∙◌, arith}
use Rattle.std.specs.Prelude.{⊤, IfSome, IsTrue, int_lt}
use Rattle.std.specs.Cmp.{second_so}
use Rattle.std.specs.FinMap.{entries, entries_sorted, find, get, get-entries, is_sorted}
use Rattle.std.specs.FinMap.Entries.{below_all}
use Rattle.std.specs.List.{AllByRecursion, filter_map, flat_map}
use Rattle.std.specs.Ordering.{nat_cmp}
use Rattle.std.proofs.lemmas.Int.{ints}
use Rattle.fs_path.proofs.Bools.{to_true}
use Rattle.fs_pairs.proofs.Entries.{behind_first, first_found}
use Rattle.fs_listen.specs.Listening.{Listened}
use Rattle.fs_match.specs.declared.events.Event.{Event}
use Rattle.fs_match.specs.declared.events.Event.TheVariants as event
use Rattle.fs_query.specs.declared.target.Target.{Target}
use Rattle.fs_target.specs.Held.{position_in}
use Rattle.fs_target.specs.Keeps.{event_of, told_as}
use Rattle.fs_target.specs.declared.event.TimedEvent.{TimedEvent}
use Rattle.fs_write.specs.declared.change.Change.{Change}
use Rattle.fs_write.specs.declared.timed_change.TimedChange.{TimedChange}
use Rattle.fs_machine.specs.Listeners.{Listener}
use Rattle.fs_server.specs.Events.{IsOwed, IsOwedTo}
use Rattle.fs_sessions.specs.Heard.{Heard, listener_of, listeners_of}
use Rattle.fs_sessions.specs.Matched.{commit_events, ear_events, events_from, events_to, numbered_events, target_events}
use Rattle.fs_server.proofs.EventsOf.{told_all}
use Rattle.fs_server.proofs.Every.{all_any, all_both, all_flat}

all_so : {X : Type 0} (P Q : X → Type 0) → ((x : X) → P x → Q x) → (xs : List X) → AllByRecursion P xs → AllByRecursion Q xs
all_so P Q each [] all = tt
all_so P Q each (x ∷ xs) all = (each x all.0, all_so P Q each xs all.1)

-- each entry of a sorted list is found in it
all_found : (P : ℕ × ℕ → Type 0) (es : List (ℕ × ℕ)) → IsTrue (is_sorted nat_cmp es) → ((e : ℕ × ℕ) → find nat_cmp e.0 es ≡ Some e.1 → P e) → AllByRecursion P es
all_found P [] rise each = tt
all_found P (e ∷ es) rise each = (
  each e (first_found e es rise),
  all_found P es (second_so (below_all nat_cmp e.0 es) _ rise) (λ k found. each k (behind_first e es rise k.0 k.1 found)),
)

is_later : (s t : ℤ) → int_lt s t ≡ true → s <ℤ t
is_later s t is = grind (arith, ints)

-- ---- of one target

abbrev IsLater : ℕ → ℤ → TimedEvent → Type 0
IsLater number from e = (e.target ≡ number) × (from <ℤ e.time)

told_later : (number : ℕ) (from time : ℤ) → from <ℤ time → (c : Change) (e : Event) → IfSome (told_as number time c e) (IsLater number from)
told_later number from time later c event.Enter = (refl, later)
told_later number from time later c event.Change = (refl, later)
told_later number from time later c event.Leave = (refl, later)
told_later number from time later c event.None = tt

commit_later : (number : ℕ) (t : Target) (from : ℤ) (c : TimedChange) → AllByRecursion (IsLater number from) (commit_events number t from c)
commit_later number t from c = by_test (int_lt from c.time) refl where
  by_test : (b : Bool) → int_lt from c.time ≡ b → AllByRecursion (IsLater number from) (cond b (filter_map (event_of number t c.time) c.changes) [])
  by_test true is =
      told_all (IsLater number from) number t c.time (λ (x : Change). ⊤) (λ x e any. told_later number from c.time (is_later from c.time is) x e) c.changes (all_any (λ (x : Change). ⊤) (λ x. tt) c.changes)
  by_test false is = tt

target_later : (number : ℕ) (t : Target) (from : ℤ) (cs : List TimedChange) → AllByRecursion (IsLater number from) (target_events number t from cs)
target_later number t from cs =
    all_flat (λ (c : TimedChange). ⊤) (IsLater number from) (commit_events number t from) (λ c any. commit_later number t from c) cs (all_any (λ (c : TimedChange). ⊤) (λ c. tt) cs)

-- ---- of one session, and of all

module _ (shard : ℕ) (cs : List TimedChange) where
  module _ (h : Heard) (id number : ℕ) (own : get h.numbers id ≡ Some number) where
    from_owed : (l : Listened) → get h.held.listening.targets id ≡ Some l → (p : Option ℤ) → position_in shard (Some l) ≡ p
        → AllByRecursion (IsOwedTo shard (listener_of h)) (events_from number l.target p cs)
    from_owed l there None at = tt
    from_owed l there (Some from) at =
        all_so (IsLater number from) (IsOwedTo shard (listener_of h))
        (λ e later. record {
          id = id;
          target = l;
          from = from;
          there = there;
          number = own ∙ ap Some (sym later.0);
          position = at;
          later = later.1;
        })
        (target_events number l.target from cs) (target_later number l.target from cs)

    to_owed : (o : Option Listened) → get h.held.listening.targets id ≡ o → AllByRecursion (IsOwedTo shard (listener_of h)) (events_to shard number cs o)
    to_owed None there = tt
    to_owed (Some l) there = from_owed l there (position_in shard (Some l)) refl

  ear_owed : (h : Heard) → AllByRecursion (IsOwedTo shard (listener_of h)) (ear_events shard cs h)
  ear_owed h =
      let P : ℕ × ℕ → Type 0 = λ e. get h.numbers e.0 ≡ Some e.1 in
      all_flat P (IsOwedTo shard (listener_of h)) (numbered_events shard cs h) (λ e own. to_owed h e.0 e.1 own (get h.held.listening.targets e.0) refl) (entries h.numbers)
      (all_found P (entries h.numbers) (to_true _ (entries_sorted h.numbers)) (λ e found. get-entries h.numbers e.0 ∙ found))

  pub all_owed : (hs : List Heard) → AllByRecursion (IsOwed shard (listeners_of hs)) (flat_map (ear_events shard cs) hs)
  all_owed [] = tt
  all_owed (h ∷ hs) =
      let ls = listener_of h ∷ listeners_of hs in
      all_both (IsOwed shard ls) (ear_events shard cs h) (flat_map (ear_events shard cs) hs)
      (all_so (IsOwedTo shard (listener_of h)) (IsOwed shard ls) (λ e owed. inl owed) (ear_events shard cs h) (ear_owed h))
      (all_so (IsOwed shard (listeners_of hs)) (IsOwed shard ls) (λ e owed. inr owed) (flat_map (ear_events shard cs) hs) (all_owed hs))
