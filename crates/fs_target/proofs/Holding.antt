-- What happens to entries is what happens to what contracts see of them.
use Rattle.std.proofs.Common.{◌≡◌, ℕ, ℤ, Bool, false, List, [], map, get_or, set, Option, Some, None, refl, sym, ap, ◌∙◌}
use Rattle.std.specs.Prelude.{insert as put_in}
use Rattle.std.specs.FinMap.{FinMap, from_entries, get, insert}
use Rattle.std.specs.List.{remove as take_out}
use Rattle.std.specs.Option.{option_map}
use Rattle.std.specs.Ordering.{nat_cmp}
use Rattle.std.proofs.lemmas.List.{get_or-map}
use Rattle.std.proofs.lemmas.Simd.{map-map}
use Rattle.fs_listen.specs.Listening.{Listened, Listening, each, loaded_at, loaded_one, made_current, matched, moved, positions_at, raised_to}
use Rattle.fs_listen.specs.Listening as listening
use Rattle.fs_query.specs.declared.target.Target.{Target}
use Rattle.fs_target.specs.Entries.{IsAbsentAt, IsThereAt, Rises, fed_in, raised_in}
use Rattle.fs_target.specs.Held.{Held, each_kept, events_behind, fed, kept_fed, kept_raised, position_in, raised_at, with_loaded, with_target, without_target}
use Rattle.fs_target.specs.Kept.{Kept}
use Rattle.fs_target.specs.Seen.{Seen, held_of, kept_in, listed_in, listening_of, loaded_in, seen}
use Rattle.fs_target.specs.declared.entry.Entry.{Entry}
use Rattle.fs_target.specs.declared.entry.Loaded as entry
use Rattle.fs_target.specs.declared.event.TimedEvent.{TimedEvent}
use Rattle.fs_value.specs.declared.document.Document.{Document}
use Rattle.fs_write.specs.Batch.{docs_of}
use Rattle.fs_target.proofs.EachEntry.{map_found}
use Rattle.fs_target.proofs.Entries.{entries_of, found_there, get_of, map_insert, map_remove, map_set, same_there, within_there}

module _ (shards limit : ℕ) (raised : Option ℤ) where
  abbrev held : List Seen → Held
  held ss = held_of shards limit raised ss

  held_by : (ts us : FinMap nat_cmp Listened) (ks ls : FinMap nat_cmp (Option Kept)) → ts ≡ us → ks ≡ ls
      → ◌≡◌ {A = Held} (record { shards = shards; limit = limit; listening = record { targets = ts; raised = raised }; kept = ks })
      (record { shards = shards; limit = limit; listening = record { targets = us; raised = raised }; kept = ls })
  held_by ts us ks ls targets kept = λ i. record { shards = shards; limit = limit; listening = record { targets = targets i; raised = raised }; kept = kept i }

  -- ---- one more, one less, and one that is loaded

  pub held_insert : (id : ℕ) (t : Target) (token : Option ℤ) (ss : List Seen) (i : ℕ) → Rises ss → IsAbsentAt id ss i
      → held_of shards limit raised (put_in ss i (record { id = id; listened = record { target = t; token = token; loaded = None }; kept = None }))
      ≡ with_target id t token (held_of shards limit raised ss)
  held_insert id t token ss i rise at =
      let s : Seen = record { id = id; listened = record { target = t; token = token; loaded = None }; kept = None } in
      held_by _ _ _ _ (map_insert (λ (u : Seen). u.listened) id ss i s rise at refl) (map_insert (λ (u : Seen). u.kept) id ss i s rise at refl)

  pub held_remove : (id : ℕ) (ss : List Seen) (i : ℕ) → Rises ss → IsThereAt id ss i
      → held_of shards limit raised (take_out ss i) ≡ without_target id (held_of shards limit raised ss)
  held_remove id ss i rise at = held_by _ _ _ _ (map_remove (λ (u : Seen). u.listened) id ss i rise at) (map_remove (λ (u : Seen). u.kept) id ss i rise at)

  -- what the maps have at the place of an id
  pub target_there : (id : ℕ) (ss : List Seen) (i : ℕ) (s : Seen) → Rises ss → IsThereAt id ss i → s ≡ get_or ss i s
      → get (listening_of raised ss).targets id ≡ Some s.listened
  target_there id ss i s rise at is =
      get_of (λ (u : Seen). u.listened) id ss ∙ ap (option_map (λ (u : Seen). u.listened)) (found_there id ss i s rise at) ∙ ap (λ (u : Seen). Some u.listened) (sym is)

  pub held_loaded : (id : ℕ) (ss : List Seen) (i : ℕ) (s t : Seen) (time : ℤ) (reset : Bool) (sent docs : List Document) → Rises ss → IsThereAt id ss i → s ≡ get_or ss i s
      → t.id ≡ id → t.listened ≡ loaded_one shards time reset s.listened → t.kept ≡ Some (record { sent = docs_of sent; docs = docs_of docs; staged = [] })
      → held_of shards limit raised (set ss i t) ≡ with_loaded id sent reset docs time (held_of shards limit raised ss)
  held_loaded id ss i s t time reset sent docs rise at is same listened kept =
      held_by _ _ _ _
      (map_set (λ (u : Seen). u.listened) id ss i t rise at same ∙ ap (insert (from_entries (map listed_in ss)) id) listened)
      (map_set (λ (u : Seen). u.kept) id ss i t rise at same ∙ ap (insert (from_entries (map kept_in ss)) id) kept)
      ∙ ap (λ o. record (held ss) { listening = loaded_at shards time reset id o (listening_of raised ss); kept = insert (held ss).kept id (Some (record { sent = docs_of sent; docs = docs_of docs; staged = [] })) })
      (sym (target_there id ss i s rise at is))

  -- the same of an entry at its place, by what was put there
  pub held_put : (id : ℕ) (es : List Entry) (i : ℕ) (e : Entry) (l : entry.Loaded) (time : ℤ) (reset : Bool) (sent docs : List Document) → Rises (map seen es) → IsThereAt id (map seen es) i
      → e ≡ get_or es i e → loaded_in l ≡ record { time = time; reset = reset; positions = positions_at shards e.target time; current = false }
      → l.kept.kept ≡ record { sent = docs_of sent; docs = docs_of docs; staged = [] }
      → held (set (map seen es) i (seen (record e { loaded = Some l }))) ≡ with_loaded id sent reset docs time (held (map seen es))
  held_put id es i e l time reset sent docs rise at is loaded kept =
      held_loaded id (map seen es) i (seen e) (seen (record e { loaded = Some l })) time reset sent docs rise at
      (ap seen is ∙ sym (get_or-map seen es i e (seen e) (within_there id es i at)))
      (ap (λ (d : Entry). d.id) is ∙ same_there id es i e at)
      (λ j. record { target = e.target; token = e.token; loaded = Some (loaded j) })
      (ap (λ (k : Kept). Some k) kept)

  -- ---- all of them

  each_listed : (change : Listened → Listened) (ss : List Seen) → Rises ss
      → from_entries {R = nat_cmp} (map (λ (s : Seen). (s.id, change s.listened)) ss) ≡ (each change (listening_of raised ss)).targets
  each_listed change ss rise =
      ap (from_entries {R = nat_cmp})
      (sym (ap (map (λ (e : ℕ × Listened). (e.0, change e.1))) (entries_of (λ (s : Seen). s.listened) ss rise) ∙ map-map (λ (e : ℕ × Listened). (e.0, change e.1)) listed_in ss))

  each_of_kept : (change : ℕ → Option Listened → Option Kept → Option Kept) (ss : List Seen) → Rises ss
      → from_entries {R = nat_cmp} (map (λ (s : Seen). (s.id, change s.id (Some s.listened) s.kept)) ss)
      ≡ each_kept (λ id k. change id (get (listening_of raised ss).targets id) k) (from_entries (map kept_in ss))
  each_of_kept change ss rise =
      let at : ℕ → Option Listened = λ id. get (listening_of raised ss).targets id in
      ap (from_entries {R = nat_cmp})
      (sym (ap (map (λ (e : ℕ × Option Kept). (e.0, change e.0 (at e.0) e.1))) (entries_of (λ (s : Seen). s.kept) ss rise)
      ∙ map-map (λ (e : ℕ × Option Kept). (e.0, change e.0 (at e.0) e.1)) kept_in ss
      ∙ map_found (λ (s : Seen). s.listened) (λ s o. (s.id, change s.id o s.kept)) ss rise))

  pub held_fed : (shard : ℕ) (es : List TimedEvent) (to : ℤ) (ss : List Seen) → Rises ss
      → held_of shards limit raised (map (fed_in shard es to) ss) ≡ fed shard es to (held_of shards limit raised ss)
  held_fed shard es to ss rise =
      held_by _ _ _ _
      (ap (from_entries {R = nat_cmp}) (map-map listed_in (fed_in shard es to) ss)
      ∙ each_listed (λ l. record l { loaded = listening.with_loaded (moved shard to) l.loaded }) ss rise)
      (ap (from_entries {R = nat_cmp}) (map-map kept_in (fed_in shard es to) ss)
      ∙ each_of_kept (λ id l k. kept_fed (events_behind id (position_in shard l) es) k) ss rise)

pub held_raised : (shards limit : ℕ) (raised : Option ℤ) (time : ℤ) (ss : List Seen) → Rises ss
    → held_of shards limit (Some time) (map (raised_in time) ss) ≡ raised_at time (held_of shards limit raised ss)
held_raised shards limit raised time ss rise =
    held_by shards limit (Some time) _ _ _ _
    (ap (from_entries {R = nat_cmp}) (map-map listed_in (raised_in time) ss)
    ∙ each_listed shards limit raised (λ l. record l { loaded = listening.with_loaded made_current l.loaded }) ss rise)
    (ap (from_entries {R = nat_cmp}) (map-map kept_in (raised_in time) ss) ∙ each_of_kept shards limit raised (λ id l k. kept_raised time l k) ss rise)
