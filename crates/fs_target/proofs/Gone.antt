-- The documents that a target listens to, behind events: those of the later time.
use Rattle.std.proofs.Common.{◌≡◌, ℕ, ℤ, Bool, true, false, cond, List, [], ◌∷◌, ◌++◌, Option, Some, None, refl, sym, ap, ◌∙◌}
use Rattle.std.specs.Prelude.{IsTrue}
use Rattle.std.specs.Cmp.{first_so, second_so}
use Rattle.std.specs.FinMap.{find, get, get-insert, get-remove, is_sorted}
use Rattle.std.specs.FinMap.Entries.{below_all}
use Rattle.std.specs.List.{AllByRecursion, cons_option}
use Rattle.fs_path.specs.NameOrder.{name_cmp, name_cmp_total, name_eq, name_is}
use Rattle.fs_path.specs.declared.name.DocName.{DocName}
use Rattle.fs_value.specs.declared.document.Document.{Document}
use Rattle.fs_write.specs.Batch.{Docs, changes_by_name, with_document}
use Rattle.fs_write.specs.declared.change.Change.{Change}
use Rattle.fs_write.specs.declared.timed_change.TimedChange.{TimedChange}
use Rattle.fs_history.specs.Brings.{Brings, until}
use Rattle.fs_history.specs.History.{at}
use Rattle.fs_history.specs.declared.batch.Batch.{Batch}
use Rattle.fs_history.proofs.Names.{none_below}
use Rattle.fs_match.specs.Event.{after_event, event_for}
use Rattle.fs_match.specs.Followed.{changes_of, docs_fitting, followed, with_change}
use Rattle.fs_match.specs.Laws.{MapsFollow}
use Rattle.fs_match.specs.declared.events.Event.{Event}
use Rattle.fs_match.specs.declared.events.Event.TheVariants as event
use Rattle.fs_listen.specs.View.{is_listened}
use Rattle.fs_query.specs.declared.target.Target.{Target}
use Rattle.fs_target.specs.Keeps.{events_of, told_as}
use Rattle.fs_target.specs.Staged.{gone_over, left_by}
use Rattle.fs_target.specs.declared.event.TimedEvent.{TimedEvent}
use Rattle.fs_target.proofs.CommitEvents.{of_changes}

pub get-with : (docs : Docs) (name : DocName) (o : Option Document) (q : DocName) → get (with_document docs name o) q ≡ cond (name_eq q name) o (get docs q)
get-with docs name None q = get-remove name_cmp_total docs name q
get-with docs name (Some d) q = get-insert name_cmp_total docs name d q

pub gone-append : (es fs : List TimedEvent) (docs : Docs) → gone_over (es ++ fs) docs ≡ gone_over fs (gone_over es docs)
gone-append [] fs docs = refl
gone-append (e ∷ es) fs docs = gone-append es fs (with_document docs e.name (left_by e))

either_way : (b : Bool) (o : Option Document) → o ≡ cond b o o
either_way true o = refl
either_way false o = refl

module _ (id : ℕ) (t : Target) where
  -- ---- one change

  abbrev went : ℤ → Change → Event → Docs → Docs
  went time c kind docs = gone_over (cons_option (told_as id time c kind) []) docs

  went_on : (time : ℤ) (c : Change) (kind : Event) (es : List TimedEvent) (docs : Docs) → gone_over (cons_option (told_as id time c kind) es) docs ≡ gone_over es (went time c kind docs)
  went_on time c event.Enter es docs = refl
  went_on time c event.Change es docs = refl
  went_on time c event.Leave es docs = refl
  went_on time c event.None es docs = refl

  get-went : (time : ℤ) (c : Change) (kind : Event) (docs : Docs) (q : DocName) → get (went time c kind docs) q ≡ cond (name_eq q c.name) (after_event kind c.after (get docs q)) (get docs q)
  get-went time c event.Enter docs q = get-with docs c.name c.after q
  get-went time c event.Change docs q = get-with docs c.name c.after q
  get-went time c event.Leave docs q = get-with docs c.name None q
  get-went time c event.None docs q = either_way (name_eq q c.name) (get docs q)

  -- ---- one commit

  abbrev taken : Option Change → Option Document → Option Document
  taken o had = followed (is_listened t) (with_change o []) had

  gone_changes : (time : ℤ) (cs : List Change) (docs : Docs) (q : DocName) → IsTrue (is_sorted name_cmp (changes_by_name cs))
      → get (gone_over (of_changes id t time cs) docs) q ≡ taken (find name_cmp q (changes_by_name cs)) (get docs q)
  gone_changes time [] docs q rise = refl
  gone_changes time (c ∷ cs) docs q rise =
      let kind = event_for (is_listened t) c.before c.after in
      let below : IsTrue (below_all name_cmp c.name (changes_by_name cs)) = first_so _ _ rise in
      ap (λ (ds : Docs). get ds q) (went_on time c kind (of_changes id t time cs) docs)
      ∙ gone_changes time cs (went time c kind docs) q (second_so _ _ rise)
      ∙ ap (taken (find name_cmp q (changes_by_name cs))) (get-went time c kind docs q)
      ∙ at_name (name_eq q c.name) refl below
    where
      at_name : (same : Bool) → name_eq q c.name ≡ same → IsTrue (below_all name_cmp c.name (changes_by_name cs))
          → taken (find name_cmp q (changes_by_name cs)) (cond same (after_event (event_for (is_listened t) c.before c.after) c.after (get docs q)) (get docs q))
          ≡ taken (cond same (Some c) (find name_cmp q (changes_by_name cs))) (get docs q)
      at_name true is below =
          ap (λ o. taken o (after_event (event_for (is_listened t) c.before c.after) c.after (get docs q)))
          (ap (λ n. find name_cmp n (changes_by_name cs)) (name_is q c.name is) ∙ none_below c.name (changes_by_name cs) below)
      at_name false is below = refl

  -- ---- commits

  taken_then : (o : Option Change) (changes : List Change) (had : Option Document) → followed (is_listened t) (with_change o changes) had ≡ followed (is_listened t) changes (taken o had)
  taken_then None changes had = refl
  taken_then (Some c) changes had = refl

  AreInOrder : List TimedChange → Type 0
  AreInOrder cs = AllByRecursion (λ (c : TimedChange). IsTrue (is_sorted name_cmp (changes_by_name c.changes))) cs

  in_order : (g : List Batch) (cs : List TimedChange) (k : List Batch) → Brings g cs k → AreInOrder cs
  unfolding AreInOrder
  in_order g [] k brings = tt
  in_order g (c ∷ cs) k brings = (brings.1.changes.rise, in_order (brings.0 ∷ g) cs k brings.2)

  gone_events : (cs : List TimedChange) (docs : Docs) (q : DocName) → AreInOrder cs → get (gone_over (events_of id t cs) docs) q ≡ followed (is_listened t) (changes_of q cs) (get docs q)
  unfolding AreInOrder
  gone_events [] docs q rise = refl
  gone_events (c ∷ cs) docs q rise =
      ap (λ (ds : Docs). get ds q) (gone-append (of_changes id t c.time c.changes) (events_of id t cs) docs)
      ∙ gone_events cs (gone_over (of_changes id t c.time c.changes) docs) q rise.1
      ∙ ap (followed (is_listened t) (changes_of q cs)) (gone_changes c.time c.changes docs q rise.0)
      ∙ sym (taken_then (find name_cmp q (changes_by_name c.changes)) (changes_of q cs) (get docs q))

  -- from the documents of one time, over the events behind it, to those of a later one
  pub docs_then : MapsFollow → (h : List Batch) (base time : ℤ) (cs : List TimedChange) (docs : Docs) → Brings (until h base) cs (until h time)
      → docs ≡ docs_fitting (is_listened t) (at h base) → gone_over (events_of id t cs) docs ≡ docs_fitting (is_listened t) (at h time)
  docs_then maps h base time cs docs brings is =
      maps (is_listened t) h base time cs (gone_over (events_of id t cs) docs) brings
      (λ name. gone_events cs docs name (in_order (until h base) cs (until h time) brings) ∙ ap (λ (ds : Docs). followed (is_listened t) (changes_of name cs) (get ds name)) is)
