-- The events of a number behind a time, out of those that commits are to targets.
use Rattle.std.proofs.Common.{◌≡◌, ℕ, ℤ, Bool, true, false, cond, List, [], ◌∷◌, ◌++◌, map, refl, sym, ap, ◌∙◌}
use Rattle.std.specs.Prelude.{⊤, IfSome, int_lt, ◌&&◌, ◌==◌}
use Rattle.std.specs.List.{AllByRecursion, cons_option, filter, filter_map}
use Rattle.std.proofs.lemmas.List.{map-append}
use Rattle.std.proofs.lemmas.List.Elements.{filter-append}
use Rattle.fs_listen.proofs.Filters.{filter_none}
use Rattle.fs_listen.proofs.Listed.{same_itself}
use Rattle.fs_listen.specs.View.{is_listened}
use Rattle.fs_match.specs.Event.{event_for}
use Rattle.fs_match.specs.declared.events.Event.{Event}
use Rattle.fs_match.specs.declared.events.Event.TheVariants as event
use Rattle.fs_query.specs.declared.target.Target.{Target}
use Rattle.fs_target.specs.Keeps.{event_of, events_of, told_as}
use Rattle.fs_target.specs.declared.event.TimedEvent.{TimedEvent}
use Rattle.fs_write.specs.declared.change.Change.{Change}
use Rattle.fs_write.specs.declared.timed_change.TimedChange.{TimedChange}
use Rattle.fs_server.specs.Events.{events_for}
use Rattle.fs_sessions.specs.Matched.{commit_events, target_events}
use Rattle.fs_server.proofs.Every.{all_any, all_cons, all_flat}

-- ---- the events of a target

module _ (Q : TimedEvent → Type 0) (number : ℕ) (t : Target) where
  pub told_all : (time : ℤ) (P : Change → Type 0) → ((c : Change) (e : Event) → P c → IfSome (told_as number time c e) Q) → (cs : List Change) → AllByRecursion P cs
      → AllByRecursion Q (filter_map (event_of number t time) cs)
  told_all time P each [] all = tt
  told_all time P each (c ∷ cs) all =
      all_cons Q (event_of number t time c) (filter_map (event_of number t time) cs) (each c (event_for (is_listened t) c.before c.after) all.0) (told_all time P each cs all.1)

  if_behind : (b : Bool) (es : List TimedEvent) → AllByRecursion Q es → AllByRecursion Q (cond b es [])
  if_behind true es all = all
  if_behind false es all = tt

  pub target_all : (from : ℤ) (P : ℤ → Change → Type 0) (R : TimedChange → Type 0) → ((c : TimedChange) → R c → AllByRecursion (P c.time) c.changes)
      → ((time : ℤ) (c : Change) (e : Event) → P time c → IfSome (told_as number time c e) Q) → (cs : List TimedChange) → AllByRecursion R cs → AllByRecursion Q (target_events number t from cs)
  target_all from P R parts each cs all =
      all_flat R Q (commit_events number t from)
      (λ c holds. if_behind (int_lt from c.time) (filter_map (event_of number t c.time) c.changes) (told_all c.time (P c.time) (each c.time) c.changes (parts c holds))) cs all

-- all are of its number
own_number : (number : ℕ) (time : ℤ) (c : Change) (e : Event) → IfSome (told_as number time c e) (λ (x : TimedEvent). x.target ≡ number)
own_number number time c event.Enter = refl
own_number number time c event.Change = refl
own_number number time c event.Leave = refl
own_number number time c event.None = tt

pub target_own : (number : ℕ) (t : Target) (from : ℤ) (cs : List TimedChange) → AllByRecursion (λ (x : TimedEvent). x.target ≡ number) (target_events number t from cs)
target_own number t from cs =
    target_all (λ (x : TimedEvent). x.target ≡ number) number t from (λ time c. ⊤) (λ c. ⊤) (λ c holds. all_any (λ (x : Change). ⊤) (λ x. tt) c.changes)
    (λ time c e holds. own_number number time c e) cs (all_any (λ (c : TimedChange). ⊤) (λ c. tt) cs)

-- ---- of a number, behind a time

pub for_both : (number : ℕ) (from : ℤ) (xs ys : List TimedEvent) → events_for number from (xs ++ ys) ≡ events_for number from xs ++ events_for number from ys
for_both number from xs ys = filter-append (λ (e : TimedEvent). (e.target == number) && int_lt from e.time) xs ys

-- none is of another number
module _ (number : ℕ) (from : ℤ) (n : ℕ) (other : (n == number) ≡ false) where
  all_others : (es : List TimedEvent) → AllByRecursion (λ (x : TimedEvent). x.target ≡ n) es → AllByRecursion (λ (x : TimedEvent). ((x.target == number) && int_lt from x.time) ≡ false) es
  all_others [] all = tt
  all_others (e ∷ es) all = (ap (λ k. (k == number) && int_lt from e.time) all.0 ∙ ap (λ b. b && int_lt from e.time) other, all_others es all.1)

  pub none_for : (es : List TimedEvent) → AllByRecursion (λ (x : TimedEvent). x.target ≡ n) es → events_for number from es ≡ []
  none_for es all = filter_none (λ (e : TimedEvent). (e.target == number) && int_lt from e.time) es (all_others es all)

-- ---- of a commit that isn't behind the time

passed_over : (a b : Bool) (e : TimedEvent) (es : List TimedEvent) → b ≡ false → cond (a && b) (e ∷ es) es ≡ es
passed_over true b e es is = ap (λ c. cond c (e ∷ es) es) is
passed_over false b e es is = refl

module _ (number : ℕ) (from time : ℤ) (t : Target) (early : int_lt from time ≡ false) where
  early_one : (c : Change) (e : Event) (es : List TimedEvent) → events_for number from es ≡ [] → events_for number from (cons_option (told_as number time c e) es) ≡ []
  early_one c event.Enter es none = passed_over (number == number) (int_lt from time) _ (events_for number from es) early ∙ none
  early_one c event.Change es none = passed_over (number == number) (int_lt from time) _ (events_for number from es) early ∙ none
  early_one c event.Leave es none = passed_over (number == number) (int_lt from time) _ (events_for number from es) early ∙ none
  early_one c event.None es none = none

  pub none_early : (cs : List Change) → events_for number from (filter_map (event_of number t time) cs) ≡ []
  none_early [] = refl
  none_early (c ∷ cs) = early_one c (event_for (is_listened t) c.before c.after) (filter_map (event_of number t time) cs) (none_early cs)

-- ---- a target's behind the time are its behind the time

module _ (number : ℕ) (t : Target) (from : ℤ) where
  commit_same : (c : TimedChange) (b : Bool) → int_lt from c.time ≡ b → events_for number from (cond b (filter_map (event_of number t c.time) c.changes) []) ≡ events_for number from (filter_map (event_of number t c.time) c.changes)
  commit_same c true is = refl
  commit_same c false is = sym (none_early number from c.time t is c.changes)

  pub target_same : (cs : List TimedChange) → events_for number from (target_events number t from cs) ≡ events_for number from (events_of number t cs)
  target_same [] = refl
  target_same (c ∷ cs) =
      let all = filter_map (event_of number t c.time) c.changes in
      for_both number from (commit_events number t from c) (target_events number t from cs)
      ∙ (λ i. commit_same c (int_lt from c.time) refl i ++ target_same cs i)
      ∙ sym (for_both number from all (events_of number t cs))

-- ---- of a target's id

abbrev pub renamed : ℕ → TimedEvent → TimedEvent
renamed id e = record e { target = id }

kept_one : (a b : Bool) (id : ℕ) (e : TimedEvent) (xs ys : List TimedEvent) → a ≡ true → map (renamed id) xs ≡ ys → map (renamed id) (cond (a && b) (e ∷ xs) xs) ≡ cond b (renamed id e ∷ ys) ys
kept_one true true id e xs ys own same = ap (λ zs. renamed id e ∷ zs) same
kept_one true false id e xs ys own same = same
kept_one false b id e xs ys own same = absurd (cc)

module _ (number id : ℕ) (t : Target) (from : ℤ) where
  abbrev Behind : List TimedEvent → List TimedEvent
  Behind es = filter (λ (e : TimedEvent). int_lt from e.time) es

  renamed_one : (time : ℤ) (c : Change) (e : Event) (xs ys : List TimedEvent) → map (renamed id) (events_for number from xs) ≡ Behind ys
      → map (renamed id) (events_for number from (cons_option (told_as number time c e) xs)) ≡ Behind (cons_option (told_as id time c e) ys)
  renamed_one time c event.Enter xs ys same = kept_one (number == number) (int_lt from time) id _ (events_for number from xs) (Behind ys) (same_itself number) same
  renamed_one time c event.Change xs ys same = kept_one (number == number) (int_lt from time) id _ (events_for number from xs) (Behind ys) (same_itself number) same
  renamed_one time c event.Leave xs ys same = kept_one (number == number) (int_lt from time) id _ (events_for number from xs) (Behind ys) (same_itself number) same
  renamed_one time c event.None xs ys same = same

  renamed_changes : (time : ℤ) (cs : List Change) → map (renamed id) (events_for number from (filter_map (event_of number t time) cs)) ≡ Behind (filter_map (event_of id t time) cs)
  renamed_changes time [] = refl
  renamed_changes time (c ∷ cs) =
      renamed_one time c (event_for (is_listened t) c.before c.after) (filter_map (event_of number t time) cs) (filter_map (event_of id t time) cs) (renamed_changes time cs)

  pub renamed_events : (cs : List TimedChange) → map (renamed id) (events_for number from (events_of number t cs)) ≡ Behind (events_of id t cs)
  renamed_events [] = refl
  renamed_events (c ∷ cs) =
      let own = filter_map (event_of number t c.time) c.changes in
      let as_id = filter_map (event_of id t c.time) c.changes in
      ap (map (renamed id)) (for_both number from own (events_of number t cs))
      ∙ map-append (renamed id) (events_for number from own) (events_for number from (events_of number t cs))
      ∙ (λ i. renamed_changes c.time c.changes i ++ renamed_events cs i)
      ∙ sym (filter-append (λ (e : TimedEvent). int_lt from e.time) as_id (events_of id t cs))
