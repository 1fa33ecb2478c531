-- Targets that are fed, as contracts see them.
use Rattle.std.proofs.Common.{◌≡◌, ℕ, zero, suc, ◌<◌, ℤ, false, cond, List, [], ◌∷◌, ◌++◌, length, get_or, set, Option, Some, None, map, refl, sym, ap, ◌∙◌, subst, arith}
use Rattle.std.specs.Prelude.{IfSome, int_lt, ◌&&◌, ◌==◌, slice_index_or}
use Rattle.std.specs.List.{AllByRecursion}
use Rattle.std.specs.Option.{option_map}
use Rattle.std.proofs.lemmas.List.{append-nil}
use Rattle.std.proofs.lemmas.List.Elements.{filter-append}
use Rattle.std.proofs.lemmas.Simd.{map-map}
use Rattle.fs_listen.specs.Listening.{Loaded, moved, with_loaded}
use Rattle.fs_target.specs.Entries.{Rises, fed_in, taken}
use Rattle.fs_target.specs.Held.{events_behind}
use Rattle.fs_target.specs.Prepared.{IsPrepared}
use Rattle.fs_target.specs.Seen.{Seen, loaded_in, seen}
use Rattle.fs_target.specs.Staged.{put_events}
use Rattle.fs_target.specs.declared.entry.Entry.{Entry}
use Rattle.fs_target.specs.declared.entry.Loaded as entry
use Rattle.fs_target.specs.declared.event.TimedEvent.{TimedEvent}
use Rattle.fs_target.proofs.Each.{each_weaker, map_alike}
use Rattle.fs_target.proofs.Entries.{other_before, others_behind, rises_changed, rises_rest}

-- ---- the events of a target, and one more

events_more : (id : ℕ) (position : Option ℤ) (es : List TimedEvent) (e : TimedEvent)
    → events_behind id position (es ++ e ∷ []) ≡ events_behind id position es ++ events_behind id position (e ∷ [])
events_more id None es e = refl
events_more id (Some time) es e = filter-append (λ (f : TimedEvent). (f.target == id) && int_lt time f.time) es (e ∷ [])

-- where it is of another target
of_other : (id : ℕ) (position : Option ℤ) (e : TimedEvent) → (e.target == id) ≡ false → events_behind id position (e ∷ []) ≡ []
of_other id None e other = refl
of_other id (Some time) e other = ap (λ b. cond (b && int_lt time e.time) (e ∷ []) []) other

module _ (shard : ℕ) where
  abbrev at : entry.Loaded → Option ℤ
  at l = slice_index_or l.positions.items shard None

  module _ (es : List TimedEvent) (f : TimedEvent) where
    -- one more that is the target's own
    pub own_prepared : (e : Entry) (l m : entry.Loaded) → e.loaded ≡ Some l → e.id ≡ f.target → loaded_in m ≡ loaded_in l
        → m.kept.coming ≡ l.kept.coming ++ events_behind f.target (at l) (f ∷ []) → IsPrepared shard es e → m.kept.coming ≡ events_behind e.id (at m) (es ++ f ∷ [])
    own_prepared e l m is own same more ready =
        let before : l.kept.coming ≡ events_behind e.id (at l) es = subst (λ o. IfSome o (λ (k : entry.Loaded). k.kept.coming ≡ events_behind e.id (at k) es)) is ready in
        more
        ∙ (λ i. before i ++ events_behind (sym own i) (at l) (f ∷ []))
        ∙ sym (events_more e.id (at l) es f)
        ∙ ap (λ (k : Loaded). events_behind e.id (slice_index_or k.positions shard None) (es ++ f ∷ [])) (sym same)

    -- one more that is another's
    other_prepared : (e : Entry) → (f.target == e.id) ≡ false → IsPrepared shard es e → IsPrepared shard (es ++ f ∷ []) e
    other_prepared e other ready = by_loaded e.loaded ready where
      by_loaded : (o : Option entry.Loaded) → IfSome o (λ (l : entry.Loaded). l.kept.coming ≡ events_behind e.id (at l) es)
          → IfSome o (λ (l : entry.Loaded). l.kept.coming ≡ events_behind e.id (at l) (es ++ f ∷ []))
      by_loaded None ready = tt
      by_loaded (Some l) ready =
          ready
          ∙ sym (events_more e.id (at l) es f
          ∙ ap (λ fs. events_behind e.id (at l) es ++ fs) (of_other e.id (at l) f other)
          ∙ append-nil (events_behind e.id (at l) es))

    -- of all targets none, or the one at a place
    pub none_own : (ds : List Entry) → AllByRecursion (λ (e : Entry). (f.target == e.id) ≡ false) ds → AllByRecursion (IsPrepared shard es) ds
        → AllByRecursion (IsPrepared shard (es ++ f ∷ [])) ds
    none_own [] others ready = tt
    none_own (e ∷ ds) others ready = (other_prepared e others.0 ready.0, none_own ds others.1 ready.1)

    pub one_own : (ds : List Entry) (i : ℕ) (d y : Entry) → Rises (map seen ds) → i < length ds → (get_or ds i d).id ≡ f.target
        → (IsPrepared shard es (get_or ds i d) → IsPrepared shard (es ++ f ∷ []) y) → AllByRecursion (IsPrepared shard es) ds
        → AllByRecursion (IsPrepared shard (es ++ f ∷ [])) (set ds i y)
    one_own [] i d y rise within own so ready = absurd (omega arith)
    one_own (e ∷ ds) zero d y rise within own so ready = (so ready.0, none_own ds (others_behind f.target e ds own rise) ready.1)
    one_own (e ∷ ds) (suc i) d y rise within own so ready =
        (other_prepared e (other_before f.target e ds i d (omega arith) own rise) ready.0, one_own ds i d y (rises_rest e ds rise) (omega arith) own so ready.1)

-- ---- all that were fed

-- a target whose events were ready is the one that was fed
taken_fed : (shard : ℕ) (es : List TimedEvent) (to : ℤ) (e : Entry) → IsPrepared shard es e → taken shard to e ≡ fed_in shard es to (seen e)
taken_fed shard es to e ready = by_loaded e.loaded ready where
  by_loaded : (o : Option entry.Loaded) → IfSome o (λ (l : entry.Loaded). l.kept.coming ≡ events_behind e.id (slice_index_or l.positions.items shard None) es)
      → taken shard to (record e { loaded = o }) ≡ fed_in shard es to (seen (record e { loaded = o }))
  by_loaded None ready = refl
  by_loaded (Some l) ready =
      ap (λ (coming : List TimedEvent). record {
        id = e.id;
        listened = record { target = e.target; token = e.token; loaded = Some (moved shard to (loaded_in l)) };
        kept = Some (record l.kept.kept { staged = put_events coming l.kept.kept.staged });
      }) ready

pub all_fed : (shard : ℕ) (es : List TimedEvent) (to : ℤ) (ds : List Entry) → AllByRecursion (IsPrepared shard es) ds
    → map (taken shard to) ds ≡ map (fed_in shard es to) (map seen ds)
all_fed shard es to ds ready =
    map_alike (taken shard to) (λ e. fed_in shard es to (seen e)) ds
    (each_weaker (IsPrepared shard es) (λ e. taken shard to e ≡ fed_in shard es to (seen e)) (taken_fed shard es to) ds ready)
    ∙ sym (map-map (fed_in shard es to) seen ds)

-- they rise still, whatever was ready
pub rises_taken : (shard : ℕ) (to : ℤ) (ds : List Entry) → Rises (map seen ds) → Rises (map (taken shard to) ds)
rises_taken shard to ds rise =
    rises_changed (taken shard to) (λ (s : Seen). record s.listened { loaded = with_loaded (moved shard to) s.listened.loaded }) ds
    (λ e. ap (λ o. (e.id, record { target = e.target; token = e.token; loaded = o })) (by_loaded e.loaded)) rise
  where
    by_loaded : (o : Option entry.Loaded) → option_map (λ (l : entry.Loaded). moved shard to (loaded_in l)) o ≡ with_loaded (moved shard to) (option_map loaded_in o)
    by_loaded None = refl
    by_loaded (Some l) = refl
