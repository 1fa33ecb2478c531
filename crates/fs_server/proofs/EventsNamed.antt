-- What was changed of a history up to a time is named, and of no later time; and so are the events that it is to targets.
use Rattle.std.proofs.Common.{◌≡◌, ℕ, ℤ, ◌≤ℤ◌, Bool, true, false, cond, List, [], ◌∷◌, Option, Some, None, refl, sym, ap, ◌∙◌, subst}
use Rattle.std.specs.Prelude.{⊤, IfSome, IsTrue, int_le}
use Rattle.std.specs.Cmp.{first_so, second_so}
use Rattle.std.specs.FinMap.{entries, find, get, is_sorted}
use Rattle.std.specs.FinMap.Entries.{below_all}
use Rattle.std.specs.List.{AllByRecursion, filter, flat_map}
use Rattle.std.specs.Ordering.{eq_by_cmp}
use Rattle.fs_path.specs.NameOrder.{name_cmp, name_is, name_itself}
use Rattle.fs_path.specs.declared.name.DocName.{DocName}
use Rattle.fs_time.proofs.Tests.{at_most}
use Rattle.fs_value.specs.declared.document.Document.{Document}
use Rattle.fs_write.specs.Batch.{AreChanges, AreNamed, Bears, Docs, changes_by_name, is_unchanged, IsNamed}
use Rattle.fs_write.specs.declared.change.Change.{Change}
use Rattle.fs_write.specs.declared.timed_change.TimedChange.{TimedChange}
use Rattle.fs_write.proofs.AfterChanges.{law_at_own_names}
use Rattle.fs_history.specs.Brings.{AreChangesIn, Brings, IsCommit, if_some, of_names, until}
use Rattle.fs_history.specs.History.{whole}
use Rattle.fs_history.specs.declared.batch.Batch.{Batch}
use Rattle.fs_history.proofs.Names.{none_below}
use Rattle.fs_history.proofs.ReadsStay.{whole_named}
use Rattle.fs_listen.specs.Listening.{Listened}
use Rattle.fs_match.specs.declared.events.Event.{Event}
use Rattle.fs_match.specs.declared.events.Event.TheVariants as event
use Rattle.fs_query.specs.declared.target.Target.{Target}
use Rattle.fs_target.specs.Held.{position_in}
use Rattle.fs_target.specs.Keeps.{told_as}
use Rattle.fs_target.specs.Staged.{IsNamed as IsNamedEvent}
use Rattle.fs_target.specs.declared.event.TimedEvent.{TimedEvent}
use Rattle.fs_sessions.specs.Heard.{Heard}
use Rattle.fs_sessions.specs.Matched.{ear_events, events_from, events_to, numbered_events}
use Rattle.fs_server.proofs.EventsOf.{target_all}
use Rattle.fs_server.proofs.Every.{all_any, all_flat, all_passing}

-- ---- changes

-- what holds of each that its name finds holds of all
all_found : (P : Change → Type 0) (cs : List Change) → IsTrue (is_sorted name_cmp (changes_by_name cs)) → ((q : DocName) (c : Change) → find name_cmp q (changes_by_name cs) ≡ Some c → P c) → AllByRecursion P cs
all_found P [] rise each = tt
all_found P (c ∷ cs) rise each = (
  each c.name c (ap (λ b. cond b (Some c) (find name_cmp c.name (changes_by_name cs))) (name_itself c.name)),
  all_found P cs (second_so (below_all name_cmp c.name (changes_by_name cs)) _ rise) (λ q d found. each q d (behind_first q d found (eq_by_cmp name_cmp q c.name) refl)),
) where
  behind_first : (q : DocName) (d : Change) → find name_cmp q (changes_by_name cs) ≡ Some d → (same : Bool) → eq_by_cmp name_cmp q c.name ≡ same → find name_cmp q (changes_by_name (c ∷ cs)) ≡ Some d
  behind_first q d found false is = ap (λ b. cond b (Some c) (find name_cmp q (changes_by_name cs))) is ∙ found
  behind_first q d found true is =
      let none = none_below c.name (changes_by_name cs) (first_so (below_all name_cmp c.name (changes_by_name cs)) _ rise) in
      absurd (let both : None ≡ Some d = sym none ∙ ap (λ n. find name_cmp n (changes_by_name cs)) (sym (name_is q c.name is)) ∙ found in cc)

bears_name : (q : DocName) (before after : Option Document) (d : Change) (b : Bool) → cond b None (Some (record { name = q; before = before; after = after })) ≡ Some d → Bears before q → Bears after q → IsNamed d
bears_name q before after d true is first second = absurd (cc)
bears_name q before after d false is first second =
    let c : Change = record { name = q; before = before; after = after } in
    let same : c ≡ d = cc in
    subst IsNamed same (first, second)

changes_named : (before after : Docs) (cs : List Change) → AreNamed before → AreNamed after → AreChanges before after cs → AllByRecursion IsNamed cs
changes_named before after cs first second are =
    all_found IsNamed cs are.rise (λ q d found. bears_name q (get before q) (get after q) d (is_unchanged (get before q) (get after q)) (sym (are.told q) ∙ found) (first q) (second q))

-- ---- commits

abbrev pub IsTold : ℤ → TimedChange → Type 0
IsTold to c = (c.time ≤ℤ to) × AllByRecursion IsNamed c.changes

front_all : (P : Batch → Type 0) (g : List Batch) (cs : List TimedChange) (k : List Batch) → Brings g cs k → AllByRecursion P k → AllByRecursion P g
front_all P g [] k brings all = subst (AllByRecursion P) brings all
front_all P g (c ∷ cs) k brings all = (front_all P (brings.0 ∷ g) cs k brings.2 all).1

brought_told : (to : ℤ) (g : List Batch) (cs : List TimedChange) (k : List Batch) → Brings g cs k → AllByRecursion (λ (b : Batch). b.time ≤ℤ to) k → AllByRecursion (IsTold to) cs
brought_told to g [] k brings all = tt
brought_told to g (c ∷ cs) k brings all =
    let b = brings.0 in
    let is : IsCommit g b c = brings.1 in
    let front = front_all (λ (x : Batch). x.time ≤ℤ to) (b ∷ g) cs k brings.2 all in
    let named = changes_named (whole g) (whole (b ∷ g)) c.changes (whole_named law_at_own_names g) (whole_named law_at_own_names (b ∷ g)) is.changes in
    ((subst (λ t. t ≤ℤ to) is.time front.0, named), brought_told to (b ∷ g) cs k brings.2 all)

until_by : (h : List Batch) (to : ℤ) → AllByRecursion (λ (b : Batch). b.time ≤ℤ to) (until h to)
until_by [] to = tt
until_by (b ∷ h) to = by_test (until_by h to) (int_le b.time to) refl where
  by_test : AllByRecursion (λ (x : Batch). x.time ≤ℤ to) (until h to) → (le : Bool) → int_le b.time to ≡ le → AllByRecursion (λ (x : Batch). x.time ≤ℤ to) (cond le (b ∷ until h to) (until h to))
  by_test rest true is = (at_most b.time to is, rest)
  by_test rest false is = rest

some_told : (to time : ℤ) (id : ℕ) (ds : List Change) (cs : List TimedChange) → time ≤ℤ to → AllByRecursion IsNamed ds → AllByRecursion (IsTold to) cs → AllByRecursion (IsTold to) (if_some time id ds cs)
some_told to time id [] cs by named all = all
some_told to time id (d ∷ ds) cs by named all = ((by, named), all)

names_told : (to : ℤ) (p : DocName → Bool) (cs : List TimedChange) → AllByRecursion (IsTold to) cs → AllByRecursion (IsTold to) (of_names p cs)
names_told to p [] all = tt
names_told to p (c ∷ cs) all =
    some_told to c.time c.id (filter (λ (d : Change). p d.name) c.changes) (of_names p cs) all.0.0 (all_passing IsNamed (λ (d : Change). p d.name) c.changes all.0.1) (names_told to p cs all.1)

pub changes_told : (h : List Batch) (p : DocName → Bool) (from to : ℤ) (cs : List TimedChange) → AreChangesIn h p from to cs → AllByRecursion (IsTold to) cs
changes_told h p from to cs are =
    subst (AllByRecursion (IsTold to)) (sym are.told) (names_told to p are.commits (brought_told to (until h from) are.commits (until h to) are.brought (until_by h to)))

-- ---- events

abbrev pub IsEvent : ℤ → TimedEvent → Type 0
IsEvent to e = IsNamedEvent e × (e.time ≤ℤ to)

abbrev IsChange : ℤ → ℤ → Change → Type 0
IsChange to time c = (time ≤ℤ to) × IsNamed c

is_event : (to : ℤ) (number : ℕ) (time : ℤ) (c : Change) (e : Event) → IsChange to time c → IfSome (told_as number time c e) (IsEvent to)
is_event to number time c event.Enter told = (told.1.1, told.0)
is_event to number time c event.Change told = (told.1.1, told.0)
is_event to number time c event.Leave told = (told.1.1, told.0)
is_event to number time c event.None told = tt

of_time : (to time : ℤ) (cs : List Change) → time ≤ℤ to → AllByRecursion IsNamed cs → AllByRecursion (IsChange to time) cs
of_time to time [] by all = tt
of_time to time (c ∷ cs) by all = ((by, all.0), of_time to time cs by all.1)

module _ (to : ℤ) (shard : ℕ) (cs : List TimedChange) (told : AllByRecursion (IsTold to) cs) where
  from_told : (number : ℕ) (t : Target) (o : Option ℤ) → AllByRecursion (IsEvent to) (events_from number t o cs)
  from_told number t None = tt
  from_told number t (Some from) =
      target_all (IsEvent to) number t from (IsChange to) (IsTold to) (λ c is. of_time to c.time c.changes is.0 is.1) (λ time c e is. is_event to number time c e is) cs told

  to_told : (number : ℕ) (o : Option Listened) → AllByRecursion (IsEvent to) (events_to shard number cs o)
  to_told number None = tt
  to_told number (Some l) = from_told number l.target (position_in shard (Some l))

  ear_told : (h : Heard) → AllByRecursion (IsEvent to) (ear_events shard cs h)
  ear_told h =
      all_flat (λ (e : ℕ × ℕ). ⊤) (IsEvent to) (numbered_events shard cs h) (λ e any. to_told e.1 (get h.held.listening.targets e.0)) (entries h.numbers) (all_any (λ (e : ℕ × ℕ). ⊤) (λ e. tt) (entries h.numbers))

  pub are_events : (hs : List Heard) → AllByRecursion (IsEvent to) (flat_map (ear_events shard cs) hs)
  are_events hs = all_flat (λ (h : Heard). ⊤) (IsEvent to) (ear_events shard cs) (λ h any. ear_told h) hs (all_any (λ (h : Heard). ⊤) (λ h. tt) hs)

pub all_named : (to : ℤ) (es : List TimedEvent) → AllByRecursion (IsEvent to) es → AllByRecursion IsNamedEvent es
all_named to [] all = tt
all_named to (e ∷ es) all = (all.0.0, all_named to es all.1)

pub all_until : (to : ℤ) (es : List TimedEvent) → AllByRecursion (IsEvent to) es → AllByRecursion (λ (e : TimedEvent). e.time ≤ℤ to) es
all_until to [] all = tt
all_until to (e ∷ es) all = (all.0.1, all_until to es all.1)
