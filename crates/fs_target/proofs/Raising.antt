-- Targets that are raised, as contracts see them, and what is told.
use Rattle.std.proofs.Common.{◌≡◌, ℕ, ℤ, Bool, true, false, List, [], ◌∷◌, ◌++◌, map, Option, Some, None, refl, sym, ap, ◌∙◌}
use Rattle.std.specs.Prelude.{IfSome}
use Rattle.std.specs.FinMap.{get}
use Rattle.std.specs.List.{AllByRecursion, cons_option, filter_map}
use Rattle.std.specs.Option.{option_map}
use Rattle.std.proofs.lemmas.Simd.{map-map}
use Rattle.fs_path.specs.declared.name.DocName.{DocName}
use Rattle.fs_token.specs.Token.{token_of}
use Rattle.fs_query.specs.declared.listen.ListenMessage.TheVariants as message
use Rattle.fs_listen.specs.Listening.{Listened, made_current, with_loaded}
use Rattle.fs_listen.specs.Sent.{current_from}
use Rattle.fs_listen.specs.Told.{Views, told}
use Rattle.fs_listen.specs.View.{is_whole}
use Rattle.fs_query.specs.declared.target.Target.{Target}
use Rattle.fs_target.specs.Entries.{Rises, gone_to, messages_in, new_ids, raised_in, views_in}
use Rattle.fs_target.specs.Kept.{Kept, docs_at, shown_of, shown_of_all}
use Rattle.fs_target.specs.Prepared.{IsNext}
use Rattle.fs_target.specs.Raise.{kept_told, kept_views, views_kept}
use Rattle.fs_target.specs.Ready.{cut_at, next_at, sent_of}
use Rattle.fs_target.specs.Seen.{Seen, held_of, listed_in, loaded_in, seen}
use Rattle.fs_target.specs.Staged.{behind}
use Rattle.fs_target.specs.declared.entry.Entry.{Entry}
use Rattle.fs_target.specs.declared.entry.Loaded as entry
use Rattle.fs_target.proofs.Each.{each_weaker, map_alike}
use Rattle.fs_target.proofs.EachEntry.{map_found}
use Rattle.fs_target.proofs.Entries.{entries_of, rises_changed}
use Rattle.fs_target.proofs.Unloaded.{all_of, loaded_of, or_empty, told_loaded}

-- ---- one target

-- the view that was made ready is the one that is shown
next_is : (whole : Bool) (time : ℤ) (t : Target) (k : Kept) → sent_of (cut_at whole time t k) (docs_at time k) ≡ shown_of_all whole t (docs_at time k)
next_is true time t k = refl
next_is false time t k = refl

pub shown_next : (time : ℤ) (t : Target) (l : entry.Loaded) → l.kept.next ≡ next_at time t l.kept.kept → sent_of l.kept.next (docs_at time l.kept.kept) ≡ shown_of t (docs_at time l.kept.kept)
shown_next time t l ready = ap (λ o. sent_of o (docs_at time l.kept.kept)) ready ∙ next_is (is_whole t) time t l.kept.kept

gone_raised : (time : ℤ) (e : Entry) → IsNext time e → gone_to time e ≡ raised_in time (seen e)
gone_raised time e ready = by_loaded e.loaded ready where
  by_loaded : (o : Option entry.Loaded) → IfSome o (λ (l : entry.Loaded). l.kept.next ≡ next_at time e.target l.kept.kept)
      → gone_to time (record e { loaded = o }) ≡ raised_in time (seen (record e { loaded = o }))
  by_loaded None ready = refl
  by_loaded (Some l) ready =
      ap (λ docs. record {
        id = e.id;
        listened = record { target = e.target; token = e.token; loaded = Some (made_current (loaded_in l)) };
        kept = Some (record { sent = docs; docs = docs_at time l.kept.kept; staged = behind time l.kept.kept.staged });
      }) (shown_next time e.target l ready)

pub all_gone : (time : ℤ) (es : List Entry) → AllByRecursion (IsNext time) es → map (gone_to time) es ≡ map (raised_in time) (map seen es)
all_gone time es ready =
    map_alike (gone_to time) (λ e. raised_in time (seen e)) es (each_weaker (IsNext time) (λ e. gone_to time e ≡ raised_in time (seen e)) (gone_raised time) es ready)
    ∙ sym (map-map (raised_in time) seen es)

-- they rise still, whatever was ready
pub rises_gone : (time : ℤ) (es : List Entry) → Rises (map seen es) → Rises (map (gone_to time) es)
rises_gone time es rise =
    rises_changed (gone_to time) (λ (s : Seen). record s.listened { loaded = with_loaded made_current s.listened.loaded }) es
    (λ e. ap (λ o. (e.id, record { target = e.target; token = e.token; loaded = o })) (by_loaded e.loaded)) rise
  where
    by_loaded : (o : Option entry.Loaded) → option_map (λ (l : entry.Loaded). made_current (loaded_in l)) o ≡ with_loaded made_current (option_map loaded_in o)
    by_loaded None = refl
    by_loaded (Some l) = refl

-- ---- what is told

abbrev views_at : ℤ → List Entry → List (ℕ × Option Views)
views_at time es = map (λ (e : Entry). (e.id, views_in time e)) es

views_loaded : (time : ℤ) (es : List Entry) → filter_map (views_in time) es ≡ loaded_of (views_at time es)
views_loaded time [] = refl
views_loaded time (e ∷ es) = ap (cons_option (views_in time e)) (views_loaded time es)

views_there : (time : ℤ) (e : Entry) → IsNext time e → or_empty e.id (views_in time e) ≡ views_kept time e.id e.target (Some (seen e).kept)
views_there time e ready = by_loaded e.loaded ready where
  by_loaded : (o : Option entry.Loaded) → IfSome o (λ (l : entry.Loaded). l.kept.next ≡ next_at time e.target l.kept.kept)
      → or_empty e.id (views_in time (record e { loaded = o })) ≡ views_kept time e.id e.target (Some (option_map (λ (l : entry.Loaded). l.kept.kept) o))
  by_loaded None ready = refl
  by_loaded (Some l) ready = ap (λ docs. record { id = e.id; sent = l.kept.kept.sent; new = docs }) (shown_next time e.target l ready)

views_held : (shards limit : ℕ) (raised : Option ℤ) (time : ℤ) (es : List Entry) → Rises (map seen es) → AllByRecursion (IsNext time) es
    → all_of (views_at time es) ≡ kept_views time (held_of shards limit raised (map seen es))
views_held shards limit raised time es rise ready =
    let ss = map seen es in
    let one : Entry → Views = λ e. views_kept time e.id e.target (Some (seen e).kept) in
    map-map (λ (x : ℕ × Option Views). or_empty x.0 x.1) (λ (e : Entry). (e.id, views_in time e)) es
    ∙ map_alike (λ (e : Entry). or_empty e.id (views_in time e)) one es
    (each_weaker (IsNext time) (λ (e : Entry). or_empty e.id (views_in time e) ≡ one e) (views_there time) es ready)
    ∙ sym (map-map (λ (s : Seen). views_kept time s.id s.listened.target (Some s.kept)) seen es)
    ∙ sym (map_found (λ (s : Seen). s.kept) (λ s k. views_kept time s.id s.listened.target k) ss rise)
    ∙ sym (map-map (λ (e : ℕ × Listened). views_kept time e.0 e.1.target (get (held_of shards limit raised ss).kept e.0)) listed_in ss)
    ∙ ap (map (λ (e : ℕ × Listened). views_kept time e.0 e.1.target (get (held_of shards limit raised ss).kept e.0))) (sym (entries_of (λ (s : Seen). s.listened) ss rise))

pub messages_told : (shards limit : ℕ) (raised : Option ℤ) (time : ℤ) (es : List Entry) → Rises (map seen es) → AllByRecursion (IsNext time) es
    → messages_in time es ≡ kept_told time (held_of shards limit raised (map seen es))
messages_told shards limit raised time es rise ready =
    let all : DocName → Bool = λ _. true in
    let views =
    ap (told all time) (views_loaded time es)
    ∙ sym (told_loaded all time (views_at time es))
    ∙ ap (told all time) (views_held shards limit raised time es rise ready) in
    let same = sym (entries_of (λ (s : Seen). s.listened) (map seen es) rise) in
    λ i. views i ++ (current_from time (new_ids (same i)) ++ message.NoChange time (token_of time) ∷ [])
