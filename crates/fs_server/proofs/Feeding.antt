-- Sessions are fed what was changed in a shard: what is kept of their targets is what the history has still.
use Rattle.std.proofs.Common.{◌≡◌, ℕ, ℤ, ◌≤ℤ◌, ◌<ℤ◌, Bool, true, false, cond, List, [], ◌∷◌, map, Option, Some, None, refl, sym, ap, ◌∙◌, subst, arith}
use Rattle.std.specs.Prelude.{IsTrue, int_lt, ◌&&◌, ◌==◌}
use Rattle.std.specs.Cmp.{second_so}
use Rattle.std.specs.FinMap.{entries, entries_sorted, find, get, get-entries, is_sorted}
use Rattle.std.specs.FinMap.Entries.{below_all}
use Rattle.std.specs.Int.Signed.{≤ℤ_refl}
use Rattle.std.specs.List.{AllByRecursion, cons_option, filter_map}
use Rattle.std.specs.Option.{option_and_then}
use Rattle.std.specs.Ordering.{eq_by_cmp, nat_cmp}
use Rattle.std.proofs.lemmas.Bool.{and_right, eq-eqb, eqb-true}
use Rattle.std.proofs.lemmas.Int.{ints}
use Rattle.fs_path.proofs.Bools.{to_true}
use Rattle.fs_path.specs.Scope.{in_shard}
use Rattle.fs_history.specs.Brings.{AreChangesIn}
use Rattle.fs_listen.proofs.Filters.{filter_none}
use Rattle.fs_listen.proofs.Listed.{same_itself}
use Rattle.fs_listen.specs.Listening.{Listened}
use Rattle.fs_target.specs.Held.{events_behind, position_in}
use Rattle.fs_target.specs.Laws.{AreEventsIn, FeedingKeeps}
use Rattle.fs_target.specs.declared.event.TimedEvent.{TimedEvent}
use Rattle.fs_machine.specs.Compact.{earlier}
use Rattle.fs_machine.specs.ListenersHold.{NumbersHold}
use Rattle.fs_machine.specs.Match.{matched_to}
use Rattle.fs_machine.specs.Past.{Past}
use Rattle.fs_machine.specs.declared.config.Config.{Config}
use Rattle.fs_machine.specs.declared.limits.Limits.{Limits}
use Rattle.fs_server.specs.Events.{AreEventsFor, AreEventsOf, events_for}
use Rattle.fs_sessions.specs.Heard.{AreHeard, Heard, heard_fed, IsHeard, listener_of, listeners_of, picked, picked_as}
use Rattle.fs_pairs.specs.Pairs.{key_of}
use Rattle.fs_server.proofs.EventsOf.{renamed, renamed_events}
use Rattle.fs_pairs.proofs.Entries.{behind_first, first_found}
use Rattle.fs_server.proofs.Unnumbered.{matching_numbered}

-- ---- whose a number is

module _ (number : ℕ) where
  id_found : (es : List (ℕ × ℕ)) → IsTrue (is_sorted nat_cmp es) → (id : ℕ) → key_of number es ≡ Some id → find nat_cmp id es ≡ Some number
  id_found [] rise id is = absurd (cc)
  id_found (e ∷ es) rise id is = by_test (id_found es (second_so (below_all nat_cmp e.0 es) _ rise) id) (e.1 == number) refl where
    by_test : (key_of number es ≡ Some id → find nat_cmp id es ≡ Some number) → (same : Bool) → (e.1 == number) ≡ same → find nat_cmp id (e ∷ es) ≡ Some number
    by_test rest true same =
        let one : Some e.0 ≡ Some id = ap (λ b. cond b (Some e.0) (key_of number es)) (sym same) ∙ is in
        let key : e.0 ≡ id = cc in
        subst (λ k. find nat_cmp k (e ∷ es) ≡ Some number) key (first_found e es rise ∙ ap Some (eqb-true e.1 number same))
    by_test rest false same = behind_first e es rise id number (rest (ap (λ b. cond b (Some e.0) (key_of number es)) (sym same) ∙ is))

  found_id : (id : ℕ) (es : List (ℕ × ℕ)) → IsTrue (is_sorted nat_cmp es) → find nat_cmp id es ≡ Some number → ((k : ℕ) → find nat_cmp k es ≡ Some number → k ≡ id) → key_of number es ≡ Some id
  found_id id [] rise found one = absurd (cc)
  found_id id (e ∷ es) rise found one =
      by_test (λ there. found_id id es (second_so (below_all nat_cmp e.0 es) _ rise) there (λ k is. one k (behind_first e es rise k number is))) (e.1 == number) refl
    where
      behind : (e.1 == number) ≡ false → (tied : Bool) → eq_by_cmp nat_cmp id e.0 ≡ tied → find nat_cmp id es ≡ Some number
      behind other false is = ap (λ b. cond b (Some e.1) (find nat_cmp id es)) (sym is) ∙ found
      behind other true is =
          let first : Some e.1 ≡ Some number = ap (λ b. cond b (Some e.1) (find nat_cmp id es)) (sym is) ∙ found in
          let value : e.1 ≡ number = cc in
          absurd (let both : true ≡ false = sym (eq-eqb e.1 number value) ∙ other in cc)

      by_test : (find nat_cmp id es ≡ Some number → key_of number es ≡ Some id) → (same : Bool) → (e.1 == number) ≡ same → key_of number (e ∷ es) ≡ Some id
      by_test rest true same =
          ap (λ b. cond b (Some e.0) (key_of number es)) same ∙ ap Some (one e.0 (first_found e es rise ∙ ap Some (eqb-true e.1 number same)))
      by_test rest false same =
          ap (λ b. cond b (Some e.0) (key_of number es)) same ∙ rest (behind same (eq_by_cmp nat_cmp id e.0) refl)

-- ---- what a target takes of the events

module _ (shard : ℕ) (h : Heard) (id number : ℕ) (from : ℤ) (mine : key_of number (entries h.numbers) ≡ Some id) (only : (n : ℕ) → key_of n (entries h.numbers) ≡ Some id → n ≡ number)
    (at : position_in shard (get h.held.listening.targets id) ≡ Some from) where
  abbrev Taken : List TimedEvent → List TimedEvent
  Taken es = events_behind id (Some from) es

  abbrev picked_at : TimedEvent → ℕ → Option TimedEvent
  picked_at e k = picked_as k (position_in shard (get h.held.listening.targets k)) e

  taken_own : (e : TimedEvent) (b : Bool) → int_lt from e.time ≡ b → (xs ys : List TimedEvent) → Taken xs ≡ map (renamed id) ys
      → Taken (cons_option (cond b (Some (renamed id e)) None) xs) ≡ map (renamed id) (cond b (e ∷ ys) ys)
  taken_own e true is xs ys same = (λ i. cond (same_itself id i && is i) (renamed id e ∷ same i) (same i))
  taken_own e false is xs ys same = same

  taken_other : (k : ℕ) → (k == id) ≡ false → (o : Option ℤ) (e : TimedEvent) (xs : List TimedEvent) → Taken (cons_option (picked_as k o e) xs) ≡ Taken xs
  taken_other k other None e xs = refl
  taken_other k other (Some q) e xs = by_test (int_lt q e.time) where
    by_test : (b : Bool) → Taken (cons_option (cond b (Some (renamed k e)) None) xs) ≡ Taken xs
    by_test true = ap (λ b. cond (b && int_lt from e.time) (renamed k e ∷ Taken xs) (Taken xs)) other
    by_test false = refl

  -- of another number
  taken_none : (e : TimedEvent) → (e.target == number) ≡ false → (xs : List TimedEvent) (o : Option ℕ) → key_of e.target (entries h.numbers) ≡ o → Taken (cons_option (option_and_then (picked_at e) o) xs) ≡ Taken xs
  taken_none e other xs None is = refl
  taken_none e other xs (Some k) is = taken_other k (by_test (k == id) refl) (position_in shard (get h.held.listening.targets k)) e xs where
    by_test : (same : Bool) → (k == id) ≡ same → (k == id) ≡ false
    by_test false apart = apart
    by_test true tied =
        let own = only e.target (is ∙ ap Some (eqb-true k id tied)) in
        absurd (let both : true ≡ false = sym (eq-eqb e.target number own) ∙ other in cc)

  taken_one : (e : TimedEvent) (xs ys : List TimedEvent) → Taken xs ≡ map (renamed id) ys → (a : Bool) → (e.target == number) ≡ a
      → Taken (cons_option (picked shard h e) xs) ≡ map (renamed id) (cond (a && int_lt from e.time) (e ∷ ys) ys)
  taken_one e xs ys same true is =
      let own = ap (λ n. key_of n (entries h.numbers)) (eqb-true e.target number is) ∙ mine in
      ap (λ o. Taken (cons_option (option_and_then (picked_at e) o) xs)) own
      ∙ ap (λ o. Taken (cons_option (picked_as id o e) xs)) at
      ∙ taken_own e (int_lt from e.time) refl xs ys same
  taken_one e xs ys same false is = taken_none e is xs (key_of e.target (entries h.numbers)) refl ∙ same

  taken_all : (es : List TimedEvent) → Taken (filter_map (picked shard h) es) ≡ map (renamed id) (events_for number from es)
  taken_all [] = refl
  taken_all (e ∷ es) = taken_one e (filter_map (picked shard h) es) (events_for number from es) (taken_all es) (e.target == number) refl

none_late : (number : ℕ) (from to : ℤ) → to ≤ℤ from → (es : List TimedEvent) → AllByRecursion (λ (e : TimedEvent). e.time ≤ℤ to) es → events_for number from es ≡ []
none_late number from to late es all = filter_none (λ (e : TimedEvent). (e.target == number) && int_lt from e.time) es (each es all) where
  early : (time : ℤ) → time ≤ℤ to → int_lt from time ≡ false
  early time by = grind (arith, ints)

  each : (xs : List TimedEvent) → AllByRecursion (λ (e : TimedEvent). e.time ≤ℤ to) xs → AllByRecursion (λ (e : TimedEvent). ((e.target == number) && int_lt from e.time) ≡ false) xs
  each [] by = tt
  each (e ∷ xs) by = (and_right (e.target == number) (int_lt from e.time) (early e.time by.0), each xs by.1)

-- ---- all of them

module _ (law : FeedingKeeps) (config : Config) (limits : Limits) (p : Past) (shard : ℕ) (es : List TimedEvent) (to : ℤ) (released : to ≤ℤ p.released)
    (until : AllByRecursion (λ (e : TimedEvent). e.time ≤ℤ to) es) (given : ℕ) where
  events_in : (h : Heard) → IsHeard config limits p h → NumbersHold given (listener_of h) → AreEventsOf p.history config.shards shard to es (listener_of h)
      → (id : ℕ) (l : Listened) (position : ℤ) → get h.held.listening.targets id ≡ Some l → position_in shard (Some l) ≡ Some position
      → AreEventsIn p.history h.held.shards shard to (filter_map (picked shard h) es) id l.target position
  events_in h heard holds told id l position found at = by_test (int_lt position to) refl where
    number : ℕ
    number = (holds.there id l found).0

    own : get h.numbers id ≡ Some number
    own = (holds.there id l found).1

    rise : IsTrue (is_sorted nat_cmp (entries h.numbers))
    rise = to_true _ (entries_sorted h.numbers)

    mine : key_of number (entries h.numbers) ≡ Some id
    mine = found_id number id (entries h.numbers) rise (sym (get-entries h.numbers id) ∙ own) (λ k there. holds.one k id number (get-entries h.numbers k ∙ there) own)

    only : (n : ℕ) → key_of n (entries h.numbers) ≡ Some id → n ≡ number
    only n is = let there = get-entries h.numbers id ∙ id_found n (entries h.numbers) rise id is in let both : Some n ≡ Some number = sym there ∙ own in cc

    taken : events_behind id (Some position) (filter_map (picked shard h) es) ≡ map (renamed id) (events_for number position es)
    taken = taken_all shard h id number position mine only (ap (position_in shard) found ∙ at) es

    behind : AreEventsFor p.history config.shards shard position to es number l.target → position <ℤ to → AreEventsIn p.history h.held.shards shard to (filter_map (picked shard h) es) id l.target position
    behind are below = record {
      from = are.start;
      low = are.low;
      order = let low = are.low in omega (arith, ints);
      changes = are.changes;
      changed = subst (λ n. AreChangesIn p.history (in_shard n shard) are.start to are.changes) (sym heard.shards) are.changed;
      told = taken ∙ ap (map (renamed id)) are.told ∙ renamed_events number id l.target position are.changes;
    }

    by_test : (b : Bool) → int_lt position to ≡ b → AreEventsIn p.history h.held.shards shard to (filter_map (picked shard h) es) id l.target position
    by_test true is = let below : position <ℤ to = grind (arith, ints) in behind (told id number l position found own at below) below
    by_test false is =
        let late : to ≤ℤ position = grind (arith, ints) in
        record {
          from = to;
          low = late;
          order = ≤ℤ_refl to;
          changes = [];
          changed = record { commits = []; brought = refl; told = refl };
          told = taken ∙ ap (map (renamed id)) (none_late number position to late es until);
        }

  pub all_fed : (hs : List Heard) → AreHeard config limits p hs → AllByRecursion (NumbersHold given) (listeners_of hs)
      → AllByRecursion (AreEventsOf p.history config.shards shard to es) (listeners_of hs) → AreHeard config limits p (map (heard_fed shard es to) hs)
  all_fed [] heard holds told = tt
  all_fed (h ∷ hs) heard holds told = (
    record {
      keeps = law p.history p.released h.held shard (filter_map (picked shard h) es) to heard.0.keeps released (events_in h heard.0 holds.0 told.0);
      shards = heard.0.shards;
      limit = heard.0.limit;
      numbered = matching_numbered shard to h.held.listening h.numbers heard.0.numbered;
    },
    all_fed hs heard.1 holds.1 told.1,
  )

-- ---- what they listen to then

listeners_fed : (shard : ℕ) (es : List TimedEvent) (to : ℤ) (hs : List Heard) → listeners_of (map (heard_fed shard es to) hs) ≡ map (matched_to shard to) (listeners_of hs)
listeners_fed shard es to [] = refl
listeners_fed shard es to (h ∷ hs) = ap (λ ls. matched_to shard to (listener_of h) ∷ ls) (listeners_fed shard es to hs)

-- up to a time that is released
earlier_is : (to released : ℤ) → to ≤ℤ released → earlier to released ≡ to
earlier_is to released by = grind (arith, ints)

pub listeners_matched : (shard : ℕ) (es : List TimedEvent) (to released : ℤ) (hs then : List Heard) → to ≤ℤ released → then ≡ map (heard_fed shard es to) hs
    → listeners_of then ≡ map (matched_to shard (earlier to released)) (listeners_of hs)
listeners_matched shard es to released hs then by fed =
    ap listeners_of fed ∙ listeners_fed shard es to hs ∙ ap (λ t. map (matched_to shard t) (listeners_of hs)) (sym (earlier_is to released by))
